use Rattle.jasmin_text.proofs.WordBytes.{class_name_word, member_name_word, field_word, method_word, decimal_word}
use Rattle.jasmin_writer.proofs.Rows.{label_word}
use Rattle.jasmin_writer.proofs.laws.parts_are_words.Goals as goal

pub returns-clause-class : goal.returns-clause-class
returns-clause-class c = class_name_word

pub returns-clause-member : goal.returns-clause-member
returns-clause-member c = member_name_word

pub returns-clause-field : goal.returns-clause-field
returns-clause-field c = field_word

pub returns-clause-method : goal.returns-clause-method
returns-clause-method c = method_word

pub returns-clause-number : goal.returns-clause-number
returns-clause-number c = decimal_word

pub returns-clause-label : goal.returns-clause-label
returns-clause-label c = label_word

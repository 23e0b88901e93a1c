use Rattle.std.proofs.Common.{[], sym, ap, ◌∙◌}
use Rattle.jasmin_text.specs.Forms.{forms, common_forms, other_forms}
use Rattle.jasmin_writer.specs.CanonicalWords.{word_of, first_word}
use Rattle.jasmin_writer.proofs.FormTables.{first_after}
use Rattle.jasmin_writer.proofs.word.word_of.Goals as goal

pub returns : goal.returns
unfolding word_of forms
returns c = c.first_word-2.ensures ∙ (ap (first_word c.args.form common_forms) c.first_word.ensures ∙ sym (first_after c.args.form common_forms other_forms []))

use Rattle.std.proofs.Common.{Some, ap, ◌∙◌}
use Rattle.std.specs.Option.{option_copied}
use Rattle.explanations.specs.Codes.{code_text_of}
use Rattle.explanations.proofs.codes.code_text.Goals as goal

pub returns-in_err-section_of : goal.returns-in_err-section_of
unfolding code_text_of
returns-in_err-section_of c = ap option_copied c.from_residual.ensures ∙ c.in_err-section_of.ensures

pub returns : goal.returns
unfolding code_text_of
returns c = ap Some c.as_bytes.ensures.value ∙ c.in_ok-section_of.ensures

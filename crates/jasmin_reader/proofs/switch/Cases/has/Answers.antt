use Rattle.std.proofs.Common.{◌∙◌, ap, w32}
use Rattle.std.proofs.lemmas.Int.{to_z-of_z}
use Rattle.std.specs.Prelude.{is_some}
use Rattle.jasmin_reader.specs.Listing.{case_of}
use Rattle.jasmin_reader.proofs.switch.Cases.has.Goals as goal

pub returns : goal.returns
returns c =
    c.contains_key.ensures ∙ ap (λ key. is_some (case_of c.self.inside.labels.entries key)) (to_z-of_z w32 c.args.key c.ranges.key)
    ∙ ap (λ cases. is_some (case_of cases c.args.key)) c.self.view_is

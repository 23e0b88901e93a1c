use Rattle.std.proofs.Common.{rules, refl, ap, ◌∙◌, w32}
use Rattle.std.specs.Prelude.{is_some}
use Rattle.std.proofs.lemmas.Int.{to_z-of_z, ints}
use Rattle.jasmin_reader.specs.Listing.{case_of}
use Rattle.jasmin_reader.proofs.listing.new_key.Goals as goal

pub returns-then-has : goal.returns-then-has
returns-then-has c =
    let same = to_z-of_z w32 c.in_ok-key.key (search (rules, ints)) in
    let there = c.if-has.ensures ∙ ap (λ key. is_some (case_of c.args.cases.now key)) same in
    rw (c.bad_operand.ensures, c.in_ok-key.ensures, ← there) refl

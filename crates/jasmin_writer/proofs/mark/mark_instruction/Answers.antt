use Rattle.std.proofs.Common.{◌≡◌, ◌∷◌, [], ◌++◌, List, ℕ, map, subst, ap, ◌∙◌}
use Rattle.std.specs.Prelude.{ℤ}
use Rattle.std.specs.List.{flat_map}
use Rattle.std.proofs.lemmas.List.Concat.{flat_map_single}
use Rattle.jasmin_writer.proofs.Marks.{Marks, then_marked, singles}
use Rattle.jasmin_writer.proofs.mark.mark_instruction.Goals as goal

pub returns-in-Jump : goal.returns-in-Jump
returns-in-Jump c = rw c.in-Jump.is c.mark.ensures

pub returns-in-TableSwitch : goal.returns-in-TableSwitch
returns-in-TableSwitch c =
    let both = then_marked _ _ _ _ _ c.mark_all.ensures c.mark-in-TableSwitch.ensures in
    let same : flat_map (λ p. p ∷ []) c.as_slice.result.now ++ c.in-TableSwitch.default ∷ [] ≡ c.in-TableSwitch.places ++ c.in-TableSwitch.default ∷ [] = ap (λ (z : List ℕ). z ++ c.in-TableSwitch.default ∷ []) (singles c.as_slice.result.now ∙ (c.as_slice.ensures ∙ c.get.ensures)) in
    rw c.in-TableSwitch.is (subst (λ (z : List ℕ). Marks c.args.marks.now.items c.mark-in-TableSwitch.new.marks.items z) same both)

pub returns-in-LookupSwitch : goal.returns-in-LookupSwitch
returns-in-LookupSwitch c =
    let both = then_marked _ _ _ _ _ c.mark_cases.ensures c.mark-in-LookupSwitch.ensures in
    let same : flat_map (λ (k : ℤ × ℕ). k.1 ∷ []) c.as_slice-in-LookupSwitch.result.now ++ c.in-LookupSwitch.default ∷ [] ≡ map (λ (k : ℤ × ℕ). k.1) c.in-LookupSwitch.cases ++ c.in-LookupSwitch.default ∷ [] =
    ap (λ (z : List ℕ). z ++ c.in-LookupSwitch.default ∷ []) (flat_map_single (λ (k : ℤ × ℕ). k.1) c.as_slice-in-LookupSwitch.result.now ∙ ap (map (λ (k : ℤ × ℕ). k.1)) (c.as_slice-in-LookupSwitch.ensures ∙ c.get-in-LookupSwitch.ensures)) in
    rw c.in-LookupSwitch.is (subst (λ (z : List ℕ). Marks c.args.marks.now.items c.mark-in-LookupSwitch.new.marks.items z) same both)

-- How many cells are taken.
use Rattle.std.proofs.Common.{◌≡◌, ℕ, zero, suc, ◌+◌, ◌-◌, ◌≤◌, ◌<◌, List, Option, None, [], ◌∷◌, ◌++◌, Some, length, refl, sym, ap, ◌∙◌, slice_set, arith}
use Rattle.std.proofs.lemmas.List.{length-set}
use Rattle.std.proofs.lemmas.Option.{same_Some}
use Rattle.std.specs.Prelude.{IfSome, slice_get}
use Rattle.hierarchy.specs.declared.ready.ReadyObject.{ReadyObject}
use Rattle.hierarchy.specs.declared.value.Value.{Value}
use Rattle.hierarchy.specs.LinkedProgram.{LinkedProgram}
use Rattle.hierarchy.specs.Objects.{objects_at_start}
use Rattle.heap.specs.declared.object.HeapObject.{HeapObject}
use Rattle.heap.specs.declared.object.HeapObject.TheVariants.{Instance, Array}
use Rattle.heap.specs.Contents.{array_length, length_in, kept_by_type, with_cell, with_element}
use Rattle.heap.specs.Objects.{cells_of, cells_of_all, ready_count, ready_or_made}

-- each that was made takes a cell
pub made_within : (made : List HeapObject) → length made ≤ cells_of_all made
made_within [] = omega arith
made_within (Instance c fields ∷ made) = let h = made_within made in omega arith
made_within (Array type elements ∷ made) = let h = made_within made in omega arith

-- one more takes its own
pub taken_with : (made : List HeapObject) (o : HeapObject) → cells_of_all (made ++ o ∷ []) ≡ cells_of_all made + cells_of o
taken_with [] o = omega arith
taken_with (x ∷ made) o = let h = taken_with made o in omega arith

-- one that takes as many in place of another
pub taken_set : (made : List HeapObject) (place : ℕ) (o n : HeapObject) → slice_get made place ≡ Some o → cells_of n ≡ cells_of o → cells_of_all (slice_set made place n) ≡ cells_of_all made
taken_set [] place o n at same = refl
taken_set (x ∷ made) zero o n at same = ap (λ k. k + cells_of_all made) (same ∙ ap cells_of (sym (same_Some x o at)))
taken_set (x ∷ made) (suc place) o n at same = ap (λ k. cells_of x + k) (taken_set made place o n at same)

pub with_cell_keeps : (o : HeapObject) (cell : ℕ) (v : Value) → cells_of (with_cell o cell v) ≡ cells_of o
with_cell_keeps (Instance c fields) cell v = ap (λ k. 1 + k) (length-set fields cell (Some v))
with_cell_keeps (Array type elements) cell v = refl

pub with_element_keeps : (o : HeapObject) (index : ℕ) (v : Value) → cells_of (with_element o index v) ≡ cells_of o
with_element_keeps (Instance c fields) index v = refl
with_element_keeps (Array type elements) index v = ap (λ k. 1 + k) (length-set elements index (kept_by_type type v))

-- an array has fewer elements than what was made takes cells
cells_within : (made : List HeapObject) (place : ℕ) (o : HeapObject) → slice_get made place ≡ Some o → cells_of o ≤ cells_of_all made
cells_within [] place o at = absurd (let q : None ≡ Some o = at in cc)
cells_within (x ∷ made) zero o at = let same = ap cells_of (same_Some x o at) in omega (arith, same)
cells_within (x ∷ made) (suc place) o at = let h = cells_within made place o at in omega (arith, h)

few_in : (made : List HeapObject) (place : ℕ) (o : Option HeapObject) (n : ℕ) → slice_get made place ≡ o → length_in o ≡ Some n → n < cells_of_all made
few_in made place None n at e = absurd (let q : None ≡ Some n = e in cc)
few_in made place (Some (Instance c fields)) n at e = absurd (let q : None ≡ Some n = e in cc)
few_in made place (Some (Array type elements)) n at e =
    let within = cells_within made place (Array type elements) at in
    let same : length elements ≡ n = same_Some (length elements) n e in
    omega (arith, within, same)

few_at : (made : List HeapObject) (place : ℕ) (r : Option ReadyObject) (n : ℕ) (p : LinkedProgram) → length_in (ready_or_made p r (slice_get made place)) ≡ Some n → n < cells_of_all made
few_at made place None n p e = few_in made place (slice_get made place) n refl e
few_at made place (Some o) n p e = absurd (let q : None ≡ Some n = e in cc)

pub few_elements : (p : LinkedProgram) (made : List HeapObject) (reference : ℕ) (o : Option ℕ) → cells_of_all made ≤ 1000000 → o ≡ array_length p made reference → IfSome o (λ n. n < 1000000)
few_elements p made reference None few e = tt
few_elements p made reference (Some n) few e = let h = few_at made (reference - ready_count p) (slice_get (objects_at_start p) reference) n p (sym e) in omega (arith, few, h)

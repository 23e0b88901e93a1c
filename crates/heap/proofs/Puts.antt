-- What is written among what was made is written where a reference refers.
use Rattle.std.proofs.Common.{◌≡◌, ℕ, ◌-◌, ◌<◌, ◌≤◌, nat_lt, Bool, true, false, List, Some, None, length, refl, sym, ap, subst, ◌∙◌, slice_set, arith}
use Rattle.std.proofs.lemmas.Bool.Decides.{nat_tests}
use Rattle.std.proofs.lemmas.List.{set_past, set-get_or}
use Rattle.std.proofs.lemmas.Option.{get_or_from_slice_get, slice_get_past}
use Rattle.std.specs.Prelude.{slice_get}
use Rattle.code.specs.declared.class_code.ResolvedType.{ResolvedType}
use Rattle.hierarchy.specs.declared.value.Value.{Value}
use Rattle.hierarchy.specs.LinkedProgram.{LinkedProgram}
use Rattle.hierarchy.specs.Objects.{objects_at_start}
use Rattle.heap.specs.declared.object.HeapObject.{HeapObject}
use Rattle.heap.specs.declared.object.HeapObject.TheVariants.{Instance, Array}
use Rattle.heap.specs.Contents.{PutsCell, PutsElement, PutsField, PutsItem, cell_in, cell_written, element_in, item_written, kept_by_type, no_array, no_element, no_field, no_object, puts_element, puts_field}
use Rattle.heap.specs.Objects.{object_at, ready_count, ready_or_made}
use Rattle.heap.proofs.Made.{none_ready, ready_below}

-- where a reference is no ready object's, it refers to what was made
object_is_made : (p : LinkedProgram) (made : List HeapObject) (reference : ℕ) → slice_get (objects_at_start p) reference ≡ None → object_at p made reference ≡ slice_get made (reference - ready_count p)
object_is_made p made reference none = ap (λ o. ready_or_made p o (slice_get made (reference - ready_count p))) none

set_same : (made : List HeapObject) (place : ℕ) (o n : HeapObject) → slice_get made place ≡ Some o → n ≡ o → slice_set made place n ≡ made
set_same made place o n at same = ap (λ x. slice_set made place x) (same ∙ sym (get_or_from_slice_get made place o o at)) ∙ set-get_or made place o

field_put_by : (p : LinkedProgram) (made new : List HeapObject) (type : ResolvedType) (reference cell : ℕ) (v : Value) (b : Bool) → slice_get (objects_at_start p) reference ≡ None →
    PutsCell made (reference - ready_count p) cell (kept_by_type type v) b new → PutsField p made type reference cell v b new
field_put_by p made new type reference cell v b none (no_object at) = no_field (ap (λ o. cell_in o cell) (object_is_made p made reference none ∙ at))
field_put_by p made new type reference cell v b none (cell_written {o = Array held elements} at found is) =
    let missing : PutsField p made type reference cell v false made = no_field (ap (λ o. cell_in o cell) (object_is_made p made reference none ∙ at)) in
    subst (λ z. PutsField p made type reference cell v z new) (sym found) (subst (λ z. PutsField p made type reference cell v false z) (sym (is ∙ set_same made (reference - ready_count p) (Array held elements) (Array held elements) at refl)) missing)
field_put_by p made new type reference cell v b none (cell_written {o = Instance c fields} at found is) = by (nat_lt cell (length fields)) refl
  where
    by : (t : Bool) → nat_lt cell (length fields) ≡ t → PutsField p made type reference cell v b new
    by true within = subst (λ z. PutsField p made type reference cell v z new) (sym (found ∙ within)) (puts_field (object_is_made p made reference none ∙ at) (grind (arith, nat_tests)) is)
    by false past =
        let beyond : length fields ≤ cell = grind (arith, nat_tests) in
        let same : new ≡ made = is ∙ set_same made (reference - ready_count p) (Instance c fields) _ at (ap (λ xs. Instance c xs) (set_past fields cell (Some (kept_by_type type v)) beyond)) in
        let missing : PutsField p made type reference cell v false made = no_field (ap (λ o. cell_in o cell) (object_is_made p made reference none ∙ at) ∙ slice_get_past fields cell beyond) in
        subst (λ z. PutsField p made type reference cell v z new) (sym (found ∙ past)) (subst (λ z. PutsField p made type reference cell v false z) (sym same) missing)

element_put_by : (p : LinkedProgram) (made new : List HeapObject) (reference index : ℕ) (v : Value) (b : Bool) → slice_get (objects_at_start p) reference ≡ None →
    PutsItem made (reference - ready_count p) index v b new → PutsElement p made reference index v b new
element_put_by p made new reference index v b none (no_array at) = no_element (ap (λ o. element_in o index) (object_is_made p made reference none ∙ at))
element_put_by p made new reference index v b none (item_written {o = Instance c fields} at found is) =
    let missing : PutsElement p made reference index v false made = no_element (ap (λ o. element_in o index) (object_is_made p made reference none ∙ at)) in
    subst (λ z. PutsElement p made reference index v z new) (sym found) (subst (λ z. PutsElement p made reference index v false z) (sym (is ∙ set_same made (reference - ready_count p) (Instance c fields) (Instance c fields) at refl)) missing)
element_put_by p made new reference index v b none (item_written {o = Array type elements} at found is) = by (nat_lt index (length elements)) refl
  where
    by : (t : Bool) → nat_lt index (length elements) ≡ t → PutsElement p made reference index v b new
    by true within = subst (λ z. PutsElement p made reference index v z new) (sym (found ∙ within)) (puts_element (object_is_made p made reference none ∙ at) (grind (arith, nat_tests)) is)
    by false past =
        let beyond : length elements ≤ index = grind (arith, nat_tests) in
        let same : new ≡ made = is ∙ set_same made (reference - ready_count p) (Array type elements) _ at (ap (λ xs. Array type xs) (set_past elements index (kept_by_type type v) beyond)) in
        let missing : PutsElement p made reference index v false made = no_element (ap (λ o. element_in o index) (object_is_made p made reference none ∙ at) ∙ slice_get_past elements index beyond) in
        subst (λ z. PutsElement p made reference index v z new) (sym (found ∙ past)) (subst (λ z. PutsElement p made reference index v false z) (sym same) missing)

pub field_put : (p : LinkedProgram) (made new : List HeapObject) (type : ResolvedType) (reference cell : ℕ) (v : Value) (b : Bool) → ready_count p ≤ reference →
    PutsCell made (reference - ready_count p) cell (kept_by_type type v) b new → PutsField p made type reference cell v b new
field_put p made new type reference cell v b beyond put = field_put_by p made new type reference cell v b (none_ready p reference beyond) put

pub element_put : (p : LinkedProgram) (made new : List HeapObject) (reference index : ℕ) (v : Value) (b : Bool) → ready_count p ≤ reference →
    PutsItem made (reference - ready_count p) index v b new → PutsElement p made reference index v b new
element_put p made new reference index v b beyond put = element_put_by p made new reference index v b (none_ready p reference beyond) put

-- a ready object has no field and no element
pub field_missing : (p : LinkedProgram) (made : List HeapObject) (type : ResolvedType) (reference cell : ℕ) (v : Value) → reference < ready_count p → PutsField p made type reference cell v false made
field_missing p made type reference cell v below =
    no_field (ap (λ x. cell_in (ready_or_made p x (slice_get made (reference - ready_count p))) cell) (ready_below p reference below).1)

pub element_missing : (p : LinkedProgram) (made : List HeapObject) (reference index : ℕ) (v : Value) → reference < ready_count p → PutsElement p made reference index v false made
element_missing p made reference index v below =
    no_element (ap (λ x. element_in (ready_or_made p x (slice_get made (reference - ready_count p))) index) (ready_below p reference below).1)

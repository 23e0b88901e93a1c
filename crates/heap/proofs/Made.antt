-- The ready objects have the first references, and what was made has the next.
use Rattle.std.proofs.Common.{◌≡◌, ℕ, ◌-◌, ◌<◌, ◌≤◌, List, Option, Some, None, sym, ap, subst, ◌∙◌}
use Rattle.std.proofs.lemmas.Option.{slice_get-get_or, slice_get_past}
use Rattle.std.specs.Prelude.{slice_get}
use Rattle.hierarchy.specs.declared.ready.ReadyObject.TheVariants as ready
use Rattle.hierarchy.specs.declared.ready.ReadyObject.{ReadyObject}
use Rattle.hierarchy.specs.LinkedProgram.{LinkedProgram}
use Rattle.hierarchy.specs.Objects.{objects_at_start}
use Rattle.heap.specs.declared.object.HeapObject.{HeapObject}
use Rattle.heap.specs.Objects.{made_at, made_unless, ready_count}

-- a reference below their number is a ready object's
pub ready_below : (p : LinkedProgram) (reference : ℕ) → reference < ready_count p → (o : ReadyObject) × (slice_get (objects_at_start p) reference ≡ Some o)
ready_below p reference below = (_, slice_get-get_or (objects_at_start p) reference ready.Out below)

pub none_ready : (p : LinkedProgram) (reference : ℕ) → ready_count p ≤ reference → slice_get (objects_at_start p) reference ≡ None
none_ready p reference beyond = slice_get_past (objects_at_start p) reference beyond

pub none_below : (p : LinkedProgram) (made : List HeapObject) (reference ready : ℕ) → ready ≡ ready_count p → reference < ready → None ≡ made_at p made reference
none_below p made reference ready same below = sym (ap (λ o. made_unless o (slice_get made (reference - ready_count p))) (ready_below p reference (subst (λ n. reference < n) same below)).1)

pub made_beyond : (p : LinkedProgram) (made : List HeapObject) (reference ready : ℕ) (o : Option HeapObject) → ready ≡ ready_count p → ready ≤ reference → o ≡ slice_get made (reference - ready) → o ≡ made_at p made reference
made_beyond p made reference ready o same beyond found =
    found ∙ (ap (λ n. slice_get made (reference - n)) same ∙ sym (ap (λ x. made_unless x (slice_get made (reference - ready_count p))) (none_ready p reference (subst (λ n. n ≤ reference) same beyond))))

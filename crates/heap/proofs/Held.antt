-- A monitor that is held is in its list.
use Rattle.std.proofs.Common.{◌≡◌, ℕ, ◌+◌, ◌≤◌, nat_lt, Bool, true, false, List, Option, Some, None, length, refl, sym, ap, subst, ◌∙◌, slice_set, arith}
use Rattle.std.proofs.lemmas.Bool.Decides.{nat_tests}
use Rattle.std.proofs.lemmas.Option.{slice_get_past}
use Rattle.std.specs.Prelude.{slice_get}
use Rattle.heap.specs.declared.monitors.Entry.TheVariants.{Entered}
use Rattle.heap.specs.declared.monitors.Holder.{Holder}
use Rattle.heap.specs.declared.monitors.Monitor.{Monitor}
use Rattle.heap.specs.declared.monitors.Monitor.TheVariants as monitor
use Rattle.heap.specs.Monitors.{Enters, Exits, Holders, IsHeldBy, again, held_in, holder_of, leaves, left_once, not_held, with_changed, with_entry, with_holder}

entry_set : (hs : List (Option Holder)) (n : ℕ) (h : Holder) (x : Option Holder) → held_in (slice_get hs n) ≡ Some h → slice_set hs n x ≡ with_entry hs n x
entry_set hs n h x held = by (nat_lt n (length hs)) refl
  where
    by : (t : Bool) → nat_lt n (length hs) ≡ t → slice_set hs n x ≡ with_entry hs n x
    by true within = rw within refl
    by false past =
        let beyond : length hs ≤ n = grind (arith, nat_tests) in
        let q : None ≡ Some h = sym (ap held_in (slice_get_past hs n beyond)) ∙ held in
        absurd cc

changed_is : (s : Holders) (m : Monitor) (h : Holder) (x : Option Holder) → holder_of s m ≡ Some h → with_changed s m x ≡ with_holder s m x
changed_is s (monitor.Object reference) h x held = ap (λ hs. record s { objects = hs }) (entry_set s.objects reference h x held)
changed_is s (monitor.Class c) h x held = ap (λ hs. record s { classes = hs }) (entry_set s.classes c.number h x held)

pub leaves_held : (s z : Holders) (t : ℕ) (m : Monitor) (h : Holder) (o x : Option Holder) → o ≡ holder_of s m → o ≡ Some h → h.thread ≡ t → x ≡ left_once h → z ≡ with_changed s m x → Exits s t m true z
leaves_held s z t m h o x asked some own left is = let held = sym asked ∙ some in leaves held own (is ∙ changed_is s m h x held ∙ ap (with_holder s m) left)

pub none_held : (s : Holders) (t : ℕ) (m : Monitor) (o : Option Holder) → o ≡ holder_of s m → o ≡ None → Exits s t m false s
none_held s t m o asked none = not_held (λ h. subst (IsHeldBy t) (sym asked ∙ none) h)

pub other_held : (s : Holders) (t : ℕ) (m : Monitor) (h : Holder) (o : Option Holder) → o ≡ holder_of s m → o ≡ Some h → (h.thread ≡ t → ⊥) → Exits s t m false s
other_held s t m h o asked some other = not_held (λ own. other (subst (IsHeldBy t) (sym asked ∙ some) own))

pub enters_again : (s z : Holders) (t : ℕ) (m : Monitor) (h n : Holder) (o : Option Holder) → o ≡ holder_of s m → o ≡ Some h → h.thread ≡ t → n ≡ record { thread = t; count = h.count + 1 } → z ≡ with_changed s m (Some n) → Enters s t m Entered z
enters_again s z t m h n o asked some own next is = let held = sym asked ∙ some in again held own (is ∙ changed_is s m h (Some n) held ∙ ap (λ x. with_holder s m (Some x)) next)

-- Beginnings of legal interleavings, judged by threads and by classes apart (JLS SE 8 12.4.2).
use Rattle.std.specs.Prelude.{◌≡◌, ℕ, List, [], MatchOption, slice_get}
use Rattle.std.specs.List.{AllByRecursion}
use Rattle.hierarchy.specs.declared.class.ClassId.{ClassId}
use Rattle.hierarchy.specs.LinkedProgram.{LinkedProgram}
use Rattle.statics.specs.Statics.{statics_of}
use Rattle.init_core.specs.declared.event.Event.{Event}
use Rattle.init_core.specs.declared.event.Kind.{Kind}
use Rattle.init_core.specs.declared.event.Kind.TheVariants as kind
use Rattle.init_core.specs.Interleaving.{of_thread, of_class}
use Rattle.init_core.specs.Lawful.{IsLawful}
use Rattle.init_core.specs.MainWord.{BeginsMain}

-- step 7, 10 or 12
abbrev pub EndsItsClass : Kind → Type 0
EndsItsClass kind.Completes = Unit {0}
EndsItsClass (kind.SuperFails e) = Unit {0}
EndsItsClass (kind.Fails e) = Unit {0}
EndsItsClass _ = ⊥

-- each of these events is such a step of t
abbrev pub AreEndings : ℕ → List Event → Type 0
AreEndings t events = AllByRecursion (λ e. (e.thread ≡ t) × EndsItsClass e.kind) events

-- Each thread's part of these events leads to where its procedures stand, no thread without a main class does anything,
-- and the history of each class is lawful.
pub record IsLegalSoFar (p : LinkedProgram) (mains : List ClassId) (events : List Event) : Type 0 where
  pub threads : (t : ℕ) → MatchOption (slice_get mains t) (of_thread t events ≡ []) (λ m. BeginsMain p t m (of_thread t events))
  pub classes : (c : ClassId) → IsLawful (statics_of p c) (of_class c events)

-- The events of all threads of a run, in the order of their stamps.
use Rattle.std.specs.Prelude.{◌≡◌, ℕ, length, List, Some, map, slice_get}
use Rattle.std.specs.List.{AllByRecursion, flat_map}
use Rattle.std.specs.List.Sorted.{IsPermutation, IsStrictlyIncreasing}
use Rattle.init_core.specs.declared.event.Event.{Event}
use Rattle.init_core.specs.Interleaving.{of_thread}
use Rattle.init_lock.specs.declared.journal.Stamped.{Stamped}
use Rattle.init_lock.specs.Closing.{numbers}
use Rattle.guest_threads.specs.Working.{drawn}

-- the stamps of a journal, in its order
abbrev pub stamps : List (Stamped Event) → List ℕ
stamps journal = map (λ s. s.stamp) journal

-- These are the events of all journals in the order of their stamps, and the journal at t has what thread t did.
pub record IsMergeOf (journals : List (List (Stamped Event))) (events : List Event) : Type 0 where
  -- the stamps of all journals together are 0 to n-1, each once
  pub each_once : IsPermutation (numbers 0 (length events)) (flat_map stamps journals)
  -- in each journal they rise
  pub rising : AllByRecursion (λ journal. IsStrictlyIncreasing (stamps journal)) journals
  -- the event of stamp k is at k, counted from 0
  pub in_order : AllByRecursion (λ journal. AllByRecursion (λ s. slice_get events s.stamp ≡ Some s.event) journal) journals
  pub parts : (t : ℕ) (journal : List (Stamped Event)) → slice_get journals t ≡ Some journal → drawn journal ≡ of_thread t events

-- There is a journal for each of so many threads, with stamps, of which these are the events in the order of the stamps.
pub record AreMerged (threads : ℕ) (events : List Event) : Type 0 where
  pub journals : List (List (Stamped Event))
  pub count : length journals ≡ threads
  pub merge : IsMergeOf journals events

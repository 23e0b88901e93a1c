-- The parts of a word are those that it is made of, and the events of a list of words.
use Rattle.std.proofs.Common.{◌≡◌, ℕ, ◌<◌, ◌+◌, ◌*◌, ◌/◌, List, [], ◌∷◌, ◌++◌, Some, None, length, refl, ap, ◌∙◌}
use Rattle.std.specs.Prelude.{slice_get, slice_index}
use Rattle.std.specs.Option.{option_map}
use Rattle.std.proofs.lemmas.List.{length-map, map-append}
use Rattle.std.proofs.lemmas.Option.{slice_get-get_or, slice_get-map}
use Rattle.std.proofs.lemmas.Nat.{div-mul-add, mod-mul-add}
use Rattle.hierarchy.specs.declared.class.ClassId.{ClassId}
use Rattle.init_core.specs.declared.event.Kind.{Kind}
use Rattle.init_core.specs.declared.event.TheConstants.{THREADS, CLASS_NUMBERS}
use Rattle.init_core.specs.Decisions.{event}
use Rattle.init_core.specs.EventWord.{event_of, events_in, kind_in, word_of}

-- a step's word is that step
pub word_again : (thread : ℕ) (class : ClassId) (deed : ℕ) (kind : Kind) → thread < THREADS → class.number < CLASS_NUMBERS → kind_in deed ≡ kind → event_of (word_of thread class.number deed) None ≡ event thread class kind
word_again thread class deed kind t c e = rw (rest, mod-mul-add (deed * CLASS_NUMBERS + class.number) THREADS thread t, div-mul-add deed CLASS_NUMBERS class.number c, mod-mul-add deed CLASS_NUMBERS class.number c, e) refl
  where
    rest : word_of thread class.number deed / THREADS ≡ deed * CLASS_NUMBERS + class.number
    rest = div-mul-add (deed * CLASS_NUMBERS + class.number) THREADS thread t

-- one word more is one event more
pub events_more : (words : List ℕ) (word : ℕ) → events_in (words ++ word ∷ []) ≡ events_in words ++ event_of word None ∷ []
events_more words word = map-append (λ w. event_of w None) words (word ∷ [])

-- the event of the word at a place
pub event_at : (words : List ℕ) (place : ℕ) → place < length words → slice_get (events_in words) place ≡ Some (event_of (slice_index words place) None)
event_at words place h = slice_get-map (λ w. event_of w None) words place ∙ ap (option_map (λ w. event_of w None)) (slice_get-get_or words place 0 h)

-- there are as many events as words
pub events_len : (words : List ℕ) → length (events_in words) ≡ length words
events_len words = length-map words (λ w. event_of w None)

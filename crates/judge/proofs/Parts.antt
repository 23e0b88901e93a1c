-- Threads' and classes' parts of a legal interleaving and of its fronts.
use Rattle.std.proofs.Common.{◌≡◌, ℕ, List, [], ◌∷◌, ◌++◌, Option, Some, None, MatchOption, slice_get, refl}
use Rattle.std.proofs.lemmas.List.Elements.{filter-append}
use Rattle.hierarchy.specs.declared.class.ClassId.{ClassId}
use Rattle.hierarchy.specs.LinkedProgram.{LinkedProgram}
use Rattle.statics.specs.declared.static_field.StaticField.{StaticField}
use Rattle.statics.specs.Statics.{statics_of}
use Rattle.init_core.specs.declared.event.Event.{Event}
use Rattle.init_core.specs.Interleaving.{of_thread, of_class, IsLegal, BeginsLegal}
use Rattle.init_core.specs.Lawful.{IsLawful, AgreesAfter, HoldsAfter}
use Rattle.init_core.specs.MainWord.{BeginsMain}
use Rattle.init_core.specs.ProcedureWord.{ThreadWord}
use Rattle.init_core.specs.LegalSoFar.{IsLegalSoFar}
use Rattle.init_core.proofs.ThreadByThread.{begins_legal}
use Rattle.judge.specs.Reading.{IsReadAsBeginning, IsReadAsWhole}
use Rattle.judge.specs.Judged.{IsReadSoFar, IsReadToEnd}
use Rattle.judge.proofs.Words as words
use Rattle.judge.proofs.Meanings as meanings

agrees_front : (before xs ys : List Event) → AgreesAfter before (xs ++ ys) → AgreesAfter before xs
agrees_front before [] ys h = tt
agrees_front before (x ∷ xs) ys h = (h.0, agrees_front (before ++ x ∷ []) xs ys h.1)

holds_front : (fields : List StaticField) (before xs ys : List Event) → HoldsAfter fields before (xs ++ ys) → HoldsAfter fields before xs
holds_front fields before [] ys h = tt
holds_front fields before (x ∷ xs) ys h = (h.0, holds_front fields (before ++ x ∷ []) xs ys h.1)

pub lawful_front : (fields : List StaticField) (xs ys : List Event) → IsLawful fields (xs ++ ys) → IsLawful fields xs
lawful_front fields xs ys h = record { labels = agrees_front [] xs ys h.labels; values = holds_front fields [] xs ys h.values }

pub nothing_front : (xs ys : List Event) → xs ++ ys ≡ [] → xs ≡ []
nothing_front [] ys h = refl
nothing_front (x ∷ xs) ys h = cc

module _ (p : LinkedProgram) where
  whole_part : (main : Option ClassId) (t : ℕ) (xs : List Event) → MatchOption main (xs ≡ []) (λ m. ThreadWord p t m xs) → MatchOption main (xs ≡ []) (λ m. IsReadAsWhole p t m xs)
  whole_part None t xs h = h
  whole_part (Some m) t xs h = words.wholes p t m xs h

  word_part : (main : Option ClassId) (t : ℕ) (xs : List Event) → MatchOption main (xs ≡ []) (λ m. IsReadAsWhole p t m xs) → MatchOption main (xs ≡ []) (λ m. ThreadWord p t m xs)
  word_part None t xs h = h
  word_part (Some m) t xs h = meanings.is_word p t m xs h

  front_part : (main : Option ClassId) (t : ℕ) (xs ys : List Event) → MatchOption main (xs ++ ys ≡ []) (λ m. ThreadWord p t m (xs ++ ys)) → MatchOption main (xs ≡ []) (λ m. IsReadAsBeginning p t m xs)
  front_part None t xs ys h = nothing_front xs ys h
  front_part (Some m) t xs ys h = words.fronts p t m xs ys h

  pub legal_is_read : (mains : List ClassId) (events : List Event) → IsLegal p mains events → IsReadToEnd p mains events
  legal_is_read mains events h = record { threads = λ t. whole_part (slice_get mains t) t (of_thread t events) (h.threads t); classes = h.classes }

  pub read_is_legal : (mains : List ClassId) (events : List Event) → IsReadToEnd p mains events → IsLegal p mains events
  read_is_legal mains events h = record { threads = λ t. word_part (slice_get mains t) t (of_thread t events) (h.threads t); classes = h.classes }

  of_threads : (main : Option ClassId) (t : ℕ) (events more : List Event) → MatchOption main (of_thread t (events ++ more) ≡ []) (λ m. ThreadWord p t m (of_thread t (events ++ more))) → MatchOption main (of_thread t events ≡ []) (λ m. IsReadAsBeginning p t m (of_thread t events))
  of_threads main t events more h = front_part main t (of_thread t events) (of_thread t more) (rw filter-append at h)

  of_classes : (c : ClassId) (events more : List Event) → IsLawful (statics_of p c) (of_class c (events ++ more)) → IsLawful (statics_of p c) (of_class c events)
  of_classes c events more h = lawful_front (statics_of p c) (of_class c events) (of_class c more) (rw filter-append at h)

  pub beginning_is_read : (mains : List ClassId) (events : List Event) → BeginsLegal p mains events → IsReadSoFar p mains events
  beginning_is_read mains events h = record { threads = λ t. of_threads (slice_get mains t) t events h.0 (h.1.threads t); classes = λ c. of_classes c events h.0 (h.1.classes c) }

  begun_part : (main : Option ClassId) (t : ℕ) (xs : List Event) → MatchOption main (xs ≡ []) (λ m. IsReadAsBeginning p t m xs) → MatchOption main (xs ≡ []) (λ m. BeginsMain p t m xs)
  begun_part None t xs h = h
  begun_part (Some m) t xs h = meanings.begins_main p t m xs h

  so_far : (mains : List ClassId) (events : List Event) → IsReadSoFar p mains events → IsLegalSoFar p mains events
  so_far mains events h = record { threads = λ t. begun_part (slice_get mains t) t (of_thread t events) (h.threads t); classes = h.classes }

  pub read_is_beginning : (mains : List ClassId) (events : List Event) → IsReadSoFar p mains events → BeginsLegal p mains events
  read_is_beginning mains events h = begins_legal p mains events (so_far mains events h)

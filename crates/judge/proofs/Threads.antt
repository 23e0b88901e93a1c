-- The readers of all threads after one event more.
use Rattle.std.proofs.Common.{◌≡◌, ◌≢◌, ◌⊎◌, inl, inr, ℕ, ◌≤◌, ◌<◌, ◌==◌, length, List, [], ◌∷◌, ◌++◌, Option, Some, None, MatchOption, slice_get, set, Bool, true, false, refl, sym, ap, subst, eq-eqb, ◌∙◌}
use Rattle.std.specs.Prelude.{Result, Ok, Err, IfOk, slice_index_or}
use Rattle.std.specs.declared.alloc.AllocError.{AllocError}
use Rattle.std.proofs.lemmas.Bool.Decides.{eqb_tells}
use Rattle.std.proofs.lemmas.Option.{slice_get_past, slice_get_read}
use Rattle.hierarchy.specs.declared.class.ClassId.{ClassId}
use Rattle.hierarchy.specs.LinkedProgram.{LinkedProgram}
use Rattle.init_core.specs.declared.event.Event.{Event}
use Rattle.init_core.specs.declared.event.Kind.{Kind}
use Rattle.init_core.specs.Interleaving.{of_thread}
use Rattle.init_core.specs.ProcedureWord.{ThreadWord}
use Rattle.init_core.specs.Standing.{Standing}
use Rattle.init_core.proofs.MainFinishing.{begun_can_finish}
use Rattle.judge.specs.declared.reader.Reader.{Reader}
use Rattle.judge.specs.Judging.{IsReaderAfter, AreReadersAfter}
use Rattle.judge.specs.NextEvent.{read_to, begun_after}
use Rattle.judge.specs.Reading.{made_by, Reads, ReadsAll, nothing, and_then, opening, IsReadAsBeginning}
use Rattle.judge.specs.Verdicts.{ThreadsBegin}
use Rattle.judge.proofs.Lists.{get_set_same, get_set_other, not_empty, thread_same, thread_other}
use Rattle.judge.proofs.Meanings.{begins_main}
use Rattle.judge.proofs.Tested.{tested}
use Rattle.judge.proofs.Words.{fronts, read_last}

module _ (p : LinkedProgram) (t : ℕ) where
  -- where events lead, as a function
  abbrev begun_all : Bool → Standing → List Event → Bool
  begun_all a s [] = a
  begun_all a s (e ∷ es) = begun_all (begun_after a s.frames) (read_to p s.frames s.last e.class e.kind) es

  abbrev stands_all : Standing → List Event → Standing
  stands_all s [] = s
  stands_all s (e ∷ es) = stands_all (read_to p s.frames s.last e.class e.kind) es

  leads_to : {a b : Bool} {s u : Standing} {xs : List Event} → ReadsAll p t a s xs b u → (b ≡ begun_all a s xs) × (u ≡ stands_all s xs)
  leads_to nothing = (refl, refl)
  leads_to {a = a} {s = s} (and_then {b = b} {u = u} {e = e} {es = es} x h) =
      let q = tested p t x in
      let k = leads_to h in
      (k.0 ∙ ap (λ (z : Bool). begun_all z u es) q.1 ∙ ap (λ (z : Standing). begun_all (begun_after a s.frames) z es) q.2, k.1 ∙ ap (λ (z : Standing). stands_all z es) q.2)

  -- one list of events leads to one place
  pub leads_once : {a b c : Bool} {s u v : Standing} {xs : List Event} → ReadsAll p t a s xs b u → ReadsAll p t a s xs c v → (b ≡ c) × (u ≡ v)
  leads_once h k = let x = leads_to h in let y = leads_to k in (x.0 ∙ sym y.0, x.1 ∙ sym y.1)

  split : {a c : Bool} {s v : Standing} (xs : List Event) (e : Event) → ReadsAll p t a s (xs ++ e ∷ []) c v → (b : Bool) × (u : Standing) × (d : Bool) × (w : Standing) × ReadsAll p t a s xs b u × Reads p t b u e d w
  split [] e (and_then x h) = (_, _, _, _, nothing, x)
  split (y ∷ xs) e (and_then x h) = let k = split xs e h in (k.0, k.1, k.2, k.3, and_then x k.4, k.5)

  unread : {m : ClassId} (xs : List Event) (e : Event) (b : Bool) (u : Standing) → ReadsAll p t false (opening m) xs b u → ((d : Bool) (w : Standing) → Reads p t b u e d w → ⊥) → IsReadAsBeginning p t m (xs ++ e ∷ []) → ⊥
  unread xs e b u h never k =
      let q = split xs e k.2 in
      let x = leads_once q.4 h in
      never q.2 q.3 (subst (λ (z : Bool). Reads p t z u e q.2 q.3) x.0 (subst (λ (z : Standing). Reads p t q.0 z e q.2 q.3) x.1 q.5))

  begin_at : (main : Option ClassId) (r : Option Reader) (xs : List Event) → IsReaderAfter p t main r xs → MatchOption main (xs ≡ []) (λ m. (more : List Event) × ThreadWord p t m (xs ++ more))
  begin_at (Some m) (Some r) xs h = let k = begun_can_finish p t m xs (begins_main p t m xs (r.begun, r.procedures, h)) in (k.0, k.2)
  begin_at None None xs h = h
  begin_at (Some m) None xs h = absurd h
  begin_at None (Some r) xs h = absurd h

  pub read_at : (main : Option ClassId) (r : Option Reader) (xs : List Event) → IsReaderAfter p t main r xs → MatchOption main (xs ≡ []) (λ m. IsReadAsBeginning p t m xs)
  read_at (Some m) (Some r) xs h = (r.begun, r.procedures, h)
  read_at None None xs h = h
  read_at (Some m) None xs h = absurd h
  read_at None (Some r) xs h = absurd h

  no_reader : (main : Option ClassId) (r : Option Reader) (xs : List Event) (e : Event) → r ≡ None → IsReaderAfter p t main r xs → MatchOption main (xs ++ e ∷ [] ≡ []) (λ m. (more : List Event) × ThreadWord p t m ((xs ++ e ∷ []) ++ more)) → ⊥
  no_reader None r xs e q h k = not_empty xs e k
  no_reader (Some m) None xs e q h k = h
  no_reader (Some m) (Some r) xs e q h k = cc

  no_next : (main : Option ClassId) (o : Option Reader) (r : Reader) (xs : List Event) (e : Event) → o ≡ Some r → ((d : Bool) (w : Standing) → Reads p t r.begun r.procedures e d w → ⊥) → IsReaderAfter p t main o xs →
      MatchOption main (xs ++ e ∷ [] ≡ []) (λ m. (more : List Event) × ThreadWord p t m ((xs ++ e ∷ []) ++ more)) → ⊥
  no_next None o r xs e q never h k = not_empty xs e k
  no_next (Some m) None r xs e q never h k = h
  no_next (Some m) (Some x) r xs e q never h k =
      let same : x ≡ r = cc in
      let h2 : ReadsAll p t false (opening m) xs r.begun r.procedures = subst (λ (z : Reader). ReadsAll p t false (opening m) xs z.begun z.procedures) same h in
      unread xs e r.begun r.procedures h2 never (fronts p t m (xs ++ e ∷ []) k.0 k.1)

  next_read : (main : Option ClassId) (o : Option Reader) (r new : Reader) (xs : List Event) (e : Event) → o ≡ Some r → Reads p t r.begun r.procedures e new.begun new.procedures → IsReaderAfter p t main o xs → IsReaderAfter p t main (Some new) (xs ++ e ∷ [])
  next_read None None r new xs e q x h = cc
  next_read None (Some y) r new xs e q x h = absurd h
  next_read (Some m) None r new xs e q x h = absurd h
  next_read (Some m) (Some y) r new xs e q x h =
      let same : y ≡ r = cc in
      let h2 : ReadsAll p t false (opening m) xs r.begun r.procedures = subst (λ (z : Reader). ReadsAll p t false (opening m) xs z.begun z.procedures) same h in
      read_last p t h2 x

module _ (p : LinkedProgram) (mains : List ClassId) (readers : List Reader) (h : List Event) where
  -- what is read is the beginning of a word
  pub threads_begin : AreReadersAfter p mains readers h → ThreadsBegin p mains h
  threads_begin all t = begin_at p t (slice_get mains t) (slice_get readers t) (of_thread t h) (all t)

  module _ (e : Event) (all : AreReadersAfter p mains readers h) where
    own : (ThreadsBegin p mains (h ++ e ∷ [])) → MatchOption (slice_get mains e.thread) (of_thread e.thread h ++ e ∷ [] ≡ []) (λ m. (more : List Event) × ThreadWord p e.thread m ((of_thread e.thread h ++ e ∷ []) ++ more))
    own k = subst (λ (xs : List Event). MatchOption (slice_get mains e.thread) (xs ≡ []) (λ m. (more : List Event) × ThreadWord p e.thread m (xs ++ more))) (thread_same h e e.thread (eq-eqb e.thread e.thread refl)) (k e.thread)

    -- an event of a thread that isn't there
    pub thread_unknown : length readers ≤ e.thread → ThreadsBegin p mains (h ++ e ∷ []) → ⊥
    thread_unknown past k = no_reader p e.thread (slice_get mains e.thread) (slice_get readers e.thread) (of_thread e.thread h) e (slice_get_past readers e.thread past) (all e.thread) (own k)

    -- an event that isn't read
    pub event_unread : (r : Reader) → slice_get readers e.thread ≡ Some r → ((d : Bool) (w : Standing) → Reads p e.thread r.begun r.procedures e d w → ⊥) → ThreadsBegin p mains (h ++ e ∷ []) → ⊥
    event_unread r at never k = no_next p e.thread (slice_get mains e.thread) (slice_get readers e.thread) r (of_thread e.thread h) e at never (all e.thread) (own k)

    -- an event that is
    pub event_read : (r new : Reader) → slice_get readers e.thread ≡ Some r → Reads p e.thread r.begun r.procedures e new.begun new.procedures → AreReadersAfter p mains (set readers e.thread new) (h ++ e ∷ [])
    event_read r new at x t = by (eqb_tells e.thread t)
      where
        here : IsReaderAfter p e.thread (slice_get mains e.thread) (slice_get (set readers e.thread new) e.thread) (of_thread e.thread (h ++ e ∷ []))
        here =
            let k : IsReaderAfter p e.thread (slice_get mains e.thread) (Some new) (of_thread e.thread h ++ e ∷ []) = next_read p e.thread (slice_get mains e.thread) (slice_get readers e.thread) r new (of_thread e.thread h) e at x (all e.thread) in
            let l = subst (λ (xs : List Event). IsReaderAfter p e.thread (slice_get mains e.thread) (Some new) xs) (sym (thread_same h e e.thread (eq-eqb e.thread e.thread refl))) k in
            subst (λ (o : Option Reader). IsReaderAfter p e.thread (slice_get mains e.thread) o (of_thread e.thread (h ++ e ∷ []))) (sym (get_set_same readers e.thread new r at)) l

        by : (((e.thread == t) ≡ true) × (e.thread ≡ t)) ⊎ (((e.thread == t) ≡ false) × (e.thread ≢ t)) → IsReaderAfter p t (slice_get mains t) (slice_get (set readers e.thread new) t) (of_thread t (h ++ e ∷ []))
        by (inl q) = subst (λ (u : ℕ). IsReaderAfter p u (slice_get mains u) (slice_get (set readers e.thread new) u) (of_thread u (h ++ e ∷ []))) q.1 here
        by (inr q) =
            let l = subst (λ (xs : List Event). IsReaderAfter p t (slice_get mains t) (slice_get readers t) xs) (sym (thread_other h e t q.0)) (all t) in
            subst (λ (o : Option Reader). IsReaderAfter p t (slice_get mains t) o (of_thread t (h ++ e ∷ []))) (sym (get_set_other readers e.thread t new q.1)) l

-- An event of thread t, that its reader reads or doesn't.
module _ (p : LinkedProgram) (readers : List Reader) (t : ℕ) (o : Option ClassId) (k : Kind) where
  module _ (r : Reader) (result : Result Bool AllocError) (within : t < length readers) (value : r ≡ slice_index_or readers t r) where
    there : slice_get readers t ≡ Some r
    there = slice_get_read readers (length readers) t r refl within value

    pub reader_reads : (new : Reader) → IfOk result (λ b. b ≡ true → (u : ℕ) → Reads p u r.begun r.procedures (made_by u o k) new.begun new.procedures) →
        IfOk result (λ b. b ≡ true → (mains : List ClassId) (h : List Event) → AreReadersAfter p mains readers h → AreReadersAfter p mains (set readers t new) (h ++ made_by t o k ∷ []))
    reader_reads new reads = at result reads
      where
        at : (x : Result Bool AllocError) → IfOk x (λ b. b ≡ true → (u : ℕ) → Reads p u r.begun r.procedures (made_by u o k) new.begun new.procedures) →
            IfOk x (λ b. b ≡ true → (mains : List ClassId) (h : List Event) → AreReadersAfter p mains readers h → AreReadersAfter p mains (set readers t new) (h ++ made_by t o k ∷ []))
        at (Ok b) f = λ q mains h all. event_read p mains readers h (made_by t o k) all r new there (f q t)
        at (Err e) f = tt

    pub reader_refuses : IfOk result (λ b. b ≡ false → (u : ℕ) (begun : Bool) (after : Standing) → Reads p u r.begun r.procedures (made_by u o k) begun after → ⊥) →
        IfOk result (λ b. b ≡ false → (mains : List ClassId) (h : List Event) → AreReadersAfter p mains readers h → ThreadsBegin p mains (h ++ made_by t o k ∷ []) → ⊥)
    reader_refuses refuses = at result refuses
      where
        at : (x : Result Bool AllocError) → IfOk x (λ b. b ≡ false → (u : ℕ) (begun : Bool) (after : Standing) → Reads p u r.begun r.procedures (made_by u o k) begun after → ⊥) →
            IfOk x (λ b. b ≡ false → (mains : List ClassId) (h : List Event) → AreReadersAfter p mains readers h → ThreadsBegin p mains (h ++ made_by t o k ∷ []) → ⊥)
        at (Ok b) f = λ q mains h all. event_unread p mains readers h (made_by t o k) all r there (f q t)
        at (Err e) f = tt

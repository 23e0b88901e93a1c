-- What is read of a print, whatever its text.
use Rattle.std.proofs.Common.{◌≡◌, ℕ, ◌<◌, length, List, [], ◌∷◌, ◌++◌, Option, Some, None, slice_get, set, Bool, true, false, refl, sym, ap, subst, ◌∙◌}
use Rattle.std.specs.Prelude.{Result, Ok, Err, IfOk, slice_index_or, is_some}
use Rattle.std.specs.declared.alloc.AllocError.{AllocError}
use Rattle.std.proofs.lemmas.Option.{slice_get_read}
use Rattle.hierarchy.specs.declared.class.ClassId.{ClassId}
use Rattle.hierarchy.specs.LinkedProgram.{LinkedProgram}
use Rattle.init_core.specs.declared.event.Event.{Event}
use Rattle.init_core.specs.declared.event.Kind.{Kind}
use Rattle.init_core.specs.declared.event.Kind.TheVariants as kind
use Rattle.init_core.specs.declared.frames.Completed.{Completed}
use Rattle.init_core.specs.declared.frames.Ending.{Ending}
use Rattle.init_core.specs.declared.frames.Ending.TheVariants as ending
use Rattle.init_core.specs.declared.frames.Frame.{Frame}
use Rattle.init_core.specs.declared.frames.Phase.{Phase}
use Rattle.init_core.specs.declared.frames.Phase.TheVariants.{Looking, Needing, Running, EndingBy}
use Rattle.init_core.specs.EventParts.{text_of}
use Rattle.init_core.specs.ProcedureWord.{given_up, printed}
use Rattle.init_core.specs.Standing.{Standing}
use Rattle.judge.specs.declared.judge.Judge.{Judge}
use Rattle.judge.specs.declared.reader.Reader.{Reader}
use Rattle.judge.specs.declared.verdict.Rule.{Rule}
use Rattle.judge.specs.Judging.{AreReadersAfter, HasJudged}
use Rattle.judge.specs.NextEvent.{MayBeInBody, body_to, MayInPhase, phase_to, MayBeInMain, MayRead, read_to, begun_after}
use Rattle.judge.specs.Reading.{Reads, made_by}
use Rattle.judge.specs.Verdicts.{ThreadsBegin}
use Rattle.judge.proofs.Tested.{reads, tested}
use Rattle.judge.proofs.Threads.{event_read, event_unread}

module _ (p : LinkedProgram) (x y : List ℕ) where
  -- what a print may do and where it leads: the same for both texts
  abbrev Alike : (Kind → Type 0) → (Kind → Standing) → Type 0
  Alike may leads = (may (kind.Prints x) → may (kind.Prints y)) × (leads (kind.Prints x) ≡ leads (kind.Prints y))

  in_main : (b : Bool) (last : Option Completed) → MayBeInMain p b last None (kind.Prints x) → MayBeInMain p b last None (kind.Prints y)
  in_main true last m = m
  in_main false None m = m
  in_main false (Some d) m = m

  in_body : (by : Option ClassId) (c : ClassId) (fs : List Frame) (last : Option Completed) → Alike (λ k. MayBeInBody p by c last None k) (λ k. body_to p by c fs None k)
  in_body None c fs last = ((λ m. m), refl)
  in_body (Some e) c fs last = ((λ m. m), refl)

  in_end : (e : Ending) (m : Bool) (c : ClassId) (fs : List Frame) (last : Option Completed) → Alike (λ k. MayInPhase p (EndingBy e m) c fs last None k) (λ k. phase_to p (EndingBy e m) c fs last None k)
  in_end ending.Completes m c fs last = ((λ k. k), refl)
  in_end (ending.SuperFails e) m c fs last = ((λ k. k), refl)
  in_end (ending.Fails e) m c fs last = ((λ k. k), refl)

  in_phase : (phase : Phase) (c : ClassId) (fs : List Frame) (last : Option Completed) → Alike (λ k. MayInPhase p phase c fs last None k) (λ k. phase_to p phase c fs last None k)
  in_phase (Looking w) c fs last = ((λ m. m), refl)
  in_phase (Needing rest) c fs last = ((λ m. m), refl)
  in_phase (Running false) c fs last = ((λ m. m), refl)
  in_phase (Running true) c fs last = in_body (given_up last) c fs last
  in_phase (EndingBy e m) c fs last = in_end e m c fs last

  alike : (b : Bool) (fs : List Frame) (last : Option Completed) → Alike (λ k. MayRead p b fs last None k) (λ k. read_to p fs last None k)
  alike b [] last = (in_main b last, refl)
  alike b (f ∷ fs) last = in_phase f.phase f.class fs last

  pub reads_print : (t : ℕ) {a b : Bool} {s u : Standing} → Reads p t a s (printed t x) b u → Reads p t a s (printed t y) b u
  reads_print t {a} {b} {s} {u} r =
      let q = tested p t r in
      let k = alike a s.frames s.last in
      subst (λ (c : Bool). Reads p t a s (printed t y) c u) (sym q.1)
      (subst (λ (v : Standing). Reads p t a s (printed t y) (begun_after a s.frames) v) (sym (q.2 ∙ k.1))
      (reads p t a s.frames s.last None (kind.Prints y) (k.0 q.0)))

module _ (p : LinkedProgram) (a : Bool) (s : Standing) (x : List ℕ) where
  pub is_read_print : (b : Bool) (u : Standing) (r : Result Bool AllocError) → IfOk r (λ it. it ≡ true → (t : ℕ) → Reads p t a s (printed t x) b u) → IfOk r (λ it. it ≡ true → (text : List ℕ) (t : ℕ) → Reads p t a s (printed t text) b u)
  is_read_print b u (Ok it) h = λ q text t. reads_print p x text t (h q t)
  is_read_print b u (Err e) h = tt

  pub is_unread_print : (r : Result Bool AllocError) → IfOk r (λ it. it ≡ false → (t : ℕ) (begun : Bool) (after : Standing) → Reads p t a s (printed t x) begun after → ⊥) →
      IfOk r (λ it. it ≡ false → (text : List ℕ) (t : ℕ) (begun : Bool) (after : Standing) → Reads p t a s (printed t text) begun after → ⊥)
  is_unread_print (Ok it) h = λ q text t begun after r. h q t begun after (reads_print p text x t r)
  is_unread_print (Err e) h = tt

module _ (p : LinkedProgram) (readers : List Reader) (t : ℕ) (r : Reader) (within : t < length readers) (value : r ≡ slice_index_or readers t r) where
  there : slice_get readers t ≡ Some r
  there = slice_get_read readers (length readers) t r refl within value

  pub readers_read : (new : Reader) (result : Result Bool AllocError) → IfOk result (λ b. b ≡ true → (text : List ℕ) (u : ℕ) → Reads p u r.begun r.procedures (printed u text) new.begun new.procedures) →
      IfOk result (λ b. b ≡ true → (text : List ℕ) (mains : List ClassId) (h : List Event) → AreReadersAfter p mains readers h → AreReadersAfter p mains (set readers t new) (h ++ printed t text ∷ []))
  readers_read new (Ok b) f = λ q text mains h all. event_read p mains readers h (printed t text) all r new there (f q text t)
  readers_read new (Err e) f = tt

  pub readers_refuse : (result : Result Bool AllocError) → IfOk result (λ b. b ≡ false → (text : List ℕ) (u : ℕ) (begun : Bool) (after : Standing) → Reads p u r.begun r.procedures (printed u text) begun after → ⊥) →
      IfOk result (λ b. b ≡ false → (text : List ℕ) (mains : List ClassId) (h : List Event) → AreReadersAfter p mains readers h → ThreadsBegin p mains (h ++ printed t text ∷ []) → ⊥)
  readers_refuse (Ok b) f = λ q text mains h all. event_unread p mains readers h (printed t text) all r there (f q text t)
  readers_refuse (Err e) f = tt

kind_of_text : (k : Kind) (text : List ℕ) → text_of k ≡ Some text → k ≡ kind.Prints text
kind_of_text kind.Waits text q = cc
kind_of_text kind.Recurs text q = cc
kind_of_text kind.FindsInitialized text q = cc
kind_of_text kind.FindsErroneous text q = cc
kind_of_text kind.Begins text q = cc
kind_of_text (kind.SuperFails e) text q = cc
kind_of_text kind.Runs text q = cc
kind_of_text kind.Completes text q = cc
kind_of_text (kind.Fails e) text q = cc
kind_of_text (kind.Gets place value) text q = cc
kind_of_text (kind.Puts place value) text q = cc
kind_of_text (kind.Prints x) text q = cc

-- an event of no class that has a text is a print of it
pub is_print : (e : Event) (text : List ℕ) → e.class ≡ None → text_of e.kind ≡ Some text → e ≡ printed e.thread text
is_print e text c q = ap (λ (o : Option ClassId). made_by e.thread o e.kind) c ∙ ap (λ (k : Kind). made_by e.thread None k) (kind_of_text e.kind text q)

is_some_print : (e : Event) (o : Option (List ℕ)) → text_of e.kind ≡ o → e.class ≡ None → is_some o ≡ true → (text : List ℕ) × (e ≡ printed e.thread text)
is_some_print e (Some text) q c s = (text, is_print e text c q)
is_some_print e None q c s = cc

-- what is said of prints of every text is said of this one
pub fits_print : (p : LinkedProgram) (j new : Judge) (e : Event) (r : Result (Option Rule) AllocError) → e.class ≡ None → is_some (text_of e.kind) ≡ true →
    IfOk r (λ it. it ≡ None → (text : List ℕ) (mains : List ClassId) (h : List Event) → HasJudged p mains j h → HasJudged p mains new (h ++ printed e.thread text ∷ [])) →
    IfOk r (λ it. it ≡ None → (mains : List ClassId) (h : List Event) → HasJudged p mains j h → HasJudged p mains new (h ++ e ∷ []))
fits_print p j new e (Ok it) c s f = let k = is_some_print e (text_of e.kind) refl c s in λ q mains h judged. subst (λ (x : Event). HasJudged p mains new (h ++ x ∷ [])) (sym k.1) (f q k.0 mains h judged)
fits_print p j new e (Err x) c s f = tt

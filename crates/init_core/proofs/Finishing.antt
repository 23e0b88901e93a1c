-- What a thread has done so far can be finished by endings of classes alone.
use Rattle.std.proofs.Common.{◌≡◌, ℕ, List, [], ◌∷◌, ◌++◌, Option, Some, None, Bool, true, false, refl, append-nil, append_assoc, inl}
use Rattle.hierarchy.specs.declared.class.ClassId.{ClassId}
use Rattle.hierarchy.specs.declared.built_in.BuiltIn.TheVariants.{InternalError, OutOfMemoryError}
use Rattle.hierarchy.specs.LinkedProgram.{LinkedProgram, built_in}
use Rattle.init_core.specs.declared.event.Event.{Event}
use Rattle.init_core.specs.declared.event.Kind.TheVariants as kind
use Rattle.init_core.specs.declared.frames.Completed.{Completed}
use Rattle.init_core.specs.declared.frames.Ending.{Ending}
use Rattle.init_core.specs.declared.frames.Ending.TheVariants as ending
use Rattle.init_core.specs.declared.frames.Frame.{Frame}
use Rattle.init_core.specs.declared.frames.Outcome.{Outcome}
use Rattle.init_core.specs.declared.frames.Outcome.TheVariants.{Normal, Abrupt, Ended}
use Rattle.init_core.specs.declared.frames.Phase.{Phase}
use Rattle.init_core.specs.declared.frames.Phase.TheVariants.{Looking, Needing, Running, EndingBy}
use Rattle.init_core.specs.Decisions.{event}
use Rattle.init_core.specs.ProcedureWord.{free, completed, given_up, GoesOn}
use Rattle.init_core.specs.Standing.{Standing}
use Rattle.init_core.specs.Leads.{frame, standing, kind_of_ending, outcome_of, Leads, idle}
use Rattle.init_core.specs.Advance.{after_needs, after_word, after_in}
use Rattle.init_core.proofs.Forgetting.{ProcedureWord}
use Rattle.init_core.proofs.Leading.{has_ended, body_is_ended, body_is_stopped, body_is_given_up, look_is_given_up}
use Rattle.init_core.specs.LegalSoFar.{EndsItsClass, AreEndings}

-- Outer says what may come before a request from outside of any class, Idle what has been done where no class is open,
-- and W what is to hold of the whole.
module _ (p : LinkedProgram) (t : ℕ) (Outer : ClassId → List Event → Type 0) (Idle : Option Completed → List Event → Type 0)
    (goes : (c : ClassId) (xs w : List Event) (r : Outcome) (s z : Unit {0}) → Outer c xs → ProcedureWord p t c w r → Idle (Some (completed c r)) (xs ++ w))
    (W : List Event → Type 0) (stop : (last : Option Completed) (xs : List Event) → Idle last xs → W xs) where
  abbrev At : Standing → List Event → Type 0
  At s xs = Leads p t Outer Idle s xs

  -- endings make it whole
  abbrev Finishes : List Event → Type 0
  Finishes xs = (ys : List Event) × AreEndings t ys × W (xs ++ ys)

  here : {xs : List Event} → W xs → Finishes xs
  here w = ([], tt, rw append-nil w)

  later : (xs : List Event) (e : Event) → (e.thread ≡ t) × EndsItsClass e.kind → Finishes (xs ++ e ∷ []) → Finishes xs
  later xs e is k = (e ∷ k.0, (is, k.1), (let h : W ((xs ++ e ∷ []) ++ k.0) = k.2 in simp append_assoc at h))

  stopped : {last : Option Completed} {xs : List Event} → At (standing [] last) xs → W xs
  stopped (idle i) = stop _ _ i

  ends : {fs : List Frame} {c : ClassId} (k : Ending) (m : Bool) {last : Option Completed} {xs : List Event} → At (standing (frame c (EndingBy k m) ∷ fs) last) xs → At (after_word fs c (outcome_of k m)) (xs ++ event t c (kind_of_ending k) ∷ [])
  ends k m h = has_ended p t free (λ d ys z. Outer d ys) (λ last ys z. Idle last ys) goes h

  lacks : {fs : List Frame} {c : ClassId} {last : Option Completed} {xs : List Event} → At (standing (frame c (Running false) ∷ fs) last) xs → At (after_word fs c (Ended (built_in p OutOfMemoryError))) (xs ++ event t c (kind.SuperFails (built_in p OutOfMemoryError)) ∷ [])
  lacks h = ends (ending.SuperFails (built_in p OutOfMemoryError)) true (body_is_given_up p t free (λ d ys z. Outer d ys) (λ last ys z. Idle last ys) goes h)

  is_stopped : {fs : List Frame} {c : ClassId} {last : Option Completed} {xs : List Event} → GoesOn last → At (standing (frame c (Running true) ∷ fs) last) xs → At (after_word fs c (Ended (built_in p InternalError))) (xs ++ event t c (kind.Fails (built_in p InternalError)) ∷ [])
  is_stopped on h = ends (ending.Fails (built_in p InternalError)) true (body_is_stopped p t free (λ d ys z. Outer d ys) (λ last ys z. Idle last ys) goes {y = tt} {z = tt} (built_in p InternalError) (inl refl) on tt h)

  is_ended_by : {fs : List Frame} {c e : ClassId} {last : Option Completed} {xs : List Event} → given_up last ≡ Some e → At (standing (frame c (Running true) ∷ fs) last) xs → At (after_word fs c (Ended e)) (xs ++ event t c (kind.Fails e) ∷ [])
  is_ended_by {e = e} gone h = ends (ending.Fails e) true (body_is_ended p t free (λ d ys z. Outer d ys) (λ last ys z. Idle last ys) goes {y = tt} {z = tt} e gone tt h)

  not_looking : {fs : List Frame} {b : ClassId} {w : Bool} {d : Completed} {xs : List Event} → At (standing (frame b (Looking w) ∷ fs) (Some d)) xs → ⊥
  not_looking h = elim h [ ]

  not_before_run : {fs : List Frame} {b : ClassId} {d : Completed} {xs : List Event} → At (standing (frame b (Running false) ∷ fs) (Some d)) xs → ⊥
  not_before_run h = elim h [ ]

  not_needing : {fs : List Frame} {b : ClassId} {rest : List ClassId} {last : Option Completed} {xs : List Event} → At (standing (frame b (Needing rest) ∷ fs) last) xs → ⊥
  not_needing h = elim h [ ]

  not_ending : {fs : List Frame} {b : ClassId} {k : Ending} {m : Bool} {d : Completed} {xs : List Event} → At (standing (frame b (EndingBy k m) ∷ fs) (Some d)) xs → ⊥
  not_ending h = elim h [ ]

  -- the machine ended the class within
  ended_at : (phase : Phase) (b : ClassId) (gs : List Frame) (c e : ClassId) (xs : List Event) → ((xs : List Event) → At (after_word gs b (Ended e)) xs → Finishes xs) → At (after_in phase b gs c (Ended e)) xs → Finishes xs
  ended_at (Needing rest) b gs c e xs k h = later xs (event t b (kind.SuperFails e)) (refl, tt) (k (xs ++ event t b (kind.SuperFails e) ∷ []) (ends (ending.SuperFails e) true h))
  ended_at (Running true) b gs c e xs k h = later xs (event t b (kind.Fails e)) (refl, tt) (k (xs ++ event t b (kind.Fails e) ∷ []) (is_ended_by refl h))
  ended_at (Running false) b gs c e xs k h = absurd (not_before_run h)
  ended_at (Looking w) b gs c e xs k h = absurd (not_looking h)
  ended_at (EndingBy x m) b gs c e xs k h = absurd (not_ending h)

  by_ending : (fs : List Frame) (c e : ClassId) (xs : List Event) → At (after_word fs c (Ended e)) xs → Finishes xs
  by_ending [] c e xs h = here (stopped h)
  by_ending (f ∷ gs) c e xs h = ended_at f.phase f.class gs c e xs (λ ys k. by_ending gs f.class e ys k) h

  from_body : (gone : Option ClassId) (fs : List Frame) (c : ClassId) (last : Option Completed) (xs : List Event) → given_up last ≡ gone → At (standing (frame c (Running true) ∷ fs) last) xs → Finishes xs
  from_body None fs c last xs on h = later xs (event t c (kind.Fails (built_in p InternalError))) (refl, tt) (by_ending fs c (built_in p InternalError) (xs ++ event t c (kind.Fails (built_in p InternalError)) ∷ []) (is_stopped on h))
  from_body (Some e) fs c last xs gone h = later xs (event t c (kind.Fails e)) (refl, tt) (by_ending fs c e (xs ++ event t c (kind.Fails e) ∷ []) (is_ended_by gone h))

  from_step_9 : (fs : List Frame) (c : ClassId) (last : Option Completed) (xs : List Event) → At (standing (frame c (Running false) ∷ fs) last) xs → Finishes xs
  from_step_9 fs c last xs h = later xs (event t c (kind.SuperFails (built_in p OutOfMemoryError))) (refl, tt) (by_ending fs c (built_in p OutOfMemoryError) (xs ++ event t c (kind.SuperFails (built_in p OutOfMemoryError)) ∷ []) (lacks h))

  from_look : (fs : List Frame) (c : ClassId) (w : Bool) (last : Option Completed) (xs : List Event) → At (standing (frame c (Looking w) ∷ fs) last) xs → Finishes xs
  from_look fs c w last xs h = by_ending fs c (built_in p InternalError) xs (look_is_given_up p t free (λ d ys z. Outer d ys) (λ last ys z. Idle last ys) goes (built_in p InternalError) (inl refl) h)

  from_needs : (rest : List ClassId) (b : ClassId) (gs : List Frame) (xs : List Event) → At (after_needs b rest gs) xs → Finishes xs
  from_needs [] b gs xs h = from_step_9 gs b None xs h
  from_needs (d ∷ rest) b gs xs h = from_look (frame b (Needing rest) ∷ gs) d false None xs h

  -- the class within completed abruptly
  abrupt_at : (phase : Phase) (b : ClassId) (gs : List Frame) (c e : ClassId) (xs : List Event) → ((e : ClassId) (xs : List Event) → At (after_word gs b (Abrupt e)) xs → Finishes xs) → At (after_in phase b gs c (Abrupt e)) xs → Finishes xs
  abrupt_at (Needing rest) b gs c e xs k h = later xs (event t b (kind.SuperFails e)) (refl, tt) (k e (xs ++ event t b (kind.SuperFails e) ∷ []) (ends (ending.SuperFails e) false h))
  abrupt_at (Running true) b gs c e xs k h = from_body None gs b (Some (completed c (Abrupt e))) xs refl h
  abrupt_at (Running false) b gs c e xs k h = absurd (not_before_run h)
  abrupt_at (Looking w) b gs c e xs k h = absurd (not_looking h)
  abrupt_at (EndingBy x m) b gs c e xs k h = absurd (not_ending h)

  abruptly : (fs : List Frame) (c e : ClassId) (xs : List Event) → At (after_word fs c (Abrupt e)) xs → Finishes xs
  abruptly [] c e xs h = here (stopped h)
  abruptly (f ∷ gs) c e xs h = abrupt_at f.phase f.class gs c e xs (λ d ys k. abruptly gs f.class d ys k) h

  -- the class within completed normally
  normal_at : (phase : Phase) (b : ClassId) (gs : List Frame) (c : ClassId) (xs : List Event) → At (after_in phase b gs c Normal) xs → Finishes xs
  normal_at (Needing rest) b gs c xs h = from_needs rest b gs xs h
  normal_at (Running true) b gs c xs h = from_body None gs b (Some (completed c Normal)) xs refl h
  normal_at (Running false) b gs c xs h = absurd (not_before_run h)
  normal_at (Looking w) b gs c xs h = absurd (not_looking h)
  normal_at (EndingBy x m) b gs c xs h = absurd (not_ending h)

  normally : (fs : List Frame) (c : ClassId) (xs : List Event) → At (after_word fs c Normal) xs → Finishes xs
  normally [] c xs h = here (stopped h)
  normally (f ∷ gs) c xs h = normal_at f.phase f.class gs c xs h

  ended_by_step : (k : Ending) (m : Bool) (fs : List Frame) (c : ClassId) (xs : List Event) → At (after_word fs c (outcome_of k m)) xs → Finishes xs
  ended_by_step ending.Completes m fs c xs h = normally fs c xs h
  ended_by_step (ending.SuperFails e) true fs c xs h = by_ending fs c e xs h
  ended_by_step (ending.SuperFails e) false fs c xs h = abruptly fs c e xs h
  ended_by_step (ending.Fails e) true fs c xs h = by_ending fs c e xs h
  ended_by_step (ending.Fails e) false fs c xs h = abruptly fs c e xs h

  is_ending_step : (k : Ending) → EndsItsClass (kind_of_ending k)
  is_ending_step ending.Completes = tt
  is_ending_step (ending.SuperFails e) = tt
  is_ending_step (ending.Fails e) = tt

  from_phase : (phase : Phase) (fs : List Frame) (c : ClassId) (last : Option Completed) (xs : List Event) → At (standing (frame c phase ∷ fs) last) xs → Finishes xs
  from_phase (Looking w) fs c last xs h = from_look fs c w last xs h
  from_phase (Needing rest) fs c last xs h = absurd (not_needing h)
  from_phase (Running false) fs c last xs h = from_step_9 fs c last xs h
  from_phase (Running true) fs c last xs h = from_body (given_up last) fs c last xs refl h
  from_phase (EndingBy k m) fs c last xs h = later xs (event t c (kind_of_ending k)) (refl, is_ending_step k) (ended_by_step k m fs c (xs ++ event t c (kind_of_ending k) ∷ []) (ends k m h))

  from_frames : (frames : List Frame) (last : Option Completed) (xs : List Event) → At (standing frames last) xs → Finishes xs
  from_frames [] last xs h = here (stopped h)
  from_frames (f ∷ fs) last xs h = from_phase f.phase fs f.class last xs h

  pub can_finish : (s : Standing) (xs : List Event) → At s xs → Finishes xs
  can_finish s xs h = from_frames s.frames s.last xs h

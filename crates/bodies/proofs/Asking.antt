-- What holds where a procedure asks for something, and what it is then told.
use Rattle.std.proofs.Common.{◌≡◌, ◌≢◌, ℕ, List, [], ◌∷◌, Option, None, Bool, true, false, refl, sym, subst, ap, ◌∙◌}
use Rattle.std.specs.List.{AllByRecursion}
use Rattle.hierarchy.specs.declared.built_in.BuiltIn.TheVariants.{OutOfMemoryError}
use Rattle.hierarchy.specs.declared.class.ClassId.{ClassId}
use Rattle.hierarchy.specs.LinkedProgram.{LinkedProgram, built_in}
use Rattle.init_core.specs.declared.event.Event.{Event}
use Rattle.init_core.specs.declared.frames.Completed.{Completed}
use Rattle.init_core.specs.declared.frames.Ending.{Ending}
use Rattle.init_core.specs.declared.frames.Frame.{Frame}
use Rattle.init_core.specs.declared.frames.Outcome.TheVariants.{Ended}
use Rattle.init_core.specs.declared.frames.Phase.{Phase}
use Rattle.init_core.specs.declared.frames.Phase.TheVariants.{Looking, Needing, Running, EndingBy}
use Rattle.init_core.specs.declared.procedure.Answer.{Answer}
use Rattle.init_core.specs.declared.procedure.Answer.TheVariants as answer
use Rattle.init_core.specs.declared.procedure.Next.TheVariants as next
use Rattle.init_core.specs.Advance.{Advances, ends_class, gives_up_look, gives_up_body, Fits, LeavesAt, knows_all, MayRequest, after_word, is_running, next_of, thread_ended}
use Rattle.init_core.specs.Decisions.{event}
use Rattle.init_core.specs.Leads.{frame, standing, kind_of_ending, outcome_of, LeadsOf, idle, looking, not_run, running, ending_by}
use Rattle.init_core.specs.ProcedureWord.{Maker, IsMachineError, IsOfFiles, given_up}
use Rattle.init_core.specs.Standing.{Standing}
use Rattle.init_core.specs.Stands.{NamesFiles, ending_error}

-- the innermost procedure asks for something
abbrev pub AsksIn : Phase → Type 0
AsksIn (Needing rest) = ⊥
AsksIn phase = Unit {0}

abbrev pub AreAsking : List Frame → Type 0
AreAsking [] = Unit {0}
AreAsking (f ∷ fs) = AsksIn f.phase

-- the innermost class is c, in this phase
pub record IsAt (s : Standing) (c : ClassId) (phase : Phase) : Type 0 where
  pub below : List Frame
  pub frames : s.frames ≡ frame c phase ∷ below

looks_in : (b c : ClassId) (phase : Phase) (fs : List Frame) → next_of (frame b phase ∷ fs) ≡ next.Look c → (w : Bool) × (frame b phase ∷ fs ≡ frame c (Looking w) ∷ fs)
looks_in b c (Looking w) fs q = let e : b ≡ c = cc in (w, rw e refl)
looks_in b c (Needing rest) fs q = cc
looks_in b c (Running ran) fs q = cc
looks_in b c (EndingBy k m) fs q = cc

looks_frames : (c : ClassId) (fs : List Frame) → next_of fs ≡ next.Look c → (w : Bool) × (below : List Frame) × (fs ≡ frame c (Looking w) ∷ below)
looks_frames c [] q = cc
looks_frames c (f ∷ fs) q = let x = looks_in f.class c f.phase fs q in (x.0, fs, x.1)

-- it asks for a look
pub looks_at : (s : Standing) (c : ClassId) → next_of s.frames ≡ next.Look c → (w : Bool) × IsAt s c (Looking w)
looks_at s c q = let x = looks_frames c s.frames q in (x.0, record { below = x.1; frames = x.2 })

runs_in : (b c : ClassId) (phase : Phase) (fs : List Frame) (r : Bool) → next_of (frame b phase ∷ fs) ≡ next.Body c → is_running (frame b phase ∷ fs) ≡ r → frame b phase ∷ fs ≡ frame c (Running r) ∷ fs
runs_in b c (Running true) fs r q e = let x : b ≡ c = cc in rw (x, ← e) refl
runs_in b c (Running false) fs r q e = let x : b ≡ c = cc in rw (x, ← e) refl
runs_in b c (Looking w) fs r q e = cc
runs_in b c (Needing rest) fs r q e = cc
runs_in b c (EndingBy k m) fs r q e = cc

runs_frames : (c : ClassId) (fs : List Frame) (r : Bool) → next_of fs ≡ next.Body c → is_running fs ≡ r → (below : List Frame) × (fs ≡ frame c (Running r) ∷ below)
runs_frames c [] r q e = cc
runs_frames c (f ∷ fs) r q e = (fs, runs_in f.class c f.phase fs r q e)

-- it asks for a body, before step 9 or after it
pub runs_at : (s : Standing) (c : ClassId) (r : Bool) → next_of s.frames ≡ next.Body c → is_running s.frames ≡ r → IsAt s c (Running r)
runs_at s c r q e = let x = runs_frames c s.frames r q e in record { below = x.0; frames = x.1 }

ends_in : (b c : ClassId) (k : Ending) (phase : Phase) (fs : List Frame) → next_of (frame b phase ∷ fs) ≡ next.End c k → (m : Bool) × (frame b phase ∷ fs ≡ frame c (EndingBy k m) ∷ fs)
ends_in b c k (EndingBy j m) fs q = let x : b ≡ c = cc in let y : j ≡ k = cc in (m, rw (x, y) refl)
ends_in b c k (Looking w) fs q = cc
ends_in b c k (Needing rest) fs q = cc
ends_in b c k (Running ran) fs q = cc

ends_frames : (c : ClassId) (k : Ending) (fs : List Frame) → next_of fs ≡ next.End c k → (m : Bool) × (below : List Frame) × (fs ≡ frame c (EndingBy k m) ∷ below)
ends_frames c k [] q = cc
ends_frames c k (f ∷ fs) q = let x = ends_in f.class c k f.phase fs q in (x.0, fs, x.1)

-- it asks for the step that ends a class
pub ends_at : (s : Standing) (c : ClassId) (k : Ending) → next_of s.frames ≡ next.End c k → (m : Bool) × IsAt s c (EndingBy k m)
ends_at s c k q = let x = ends_frames c k s.frames q in (x.0, record { below = x.1; frames = x.2 })

-- where one class is open it is of the files
pub in_files : (p : LinkedProgram) (s : Standing) (c : ClassId) (phase : Phase) → IsAt s c phase → AllByRecursion (λ f. NamesFiles p f) s.frames → IsOfFiles p c
in_files p s c phase at a = let x : AllByRecursion (λ f. NamesFiles p f) (frame c phase ∷ at.below) = subst (λ (fs : List Frame). AllByRecursion (λ f. NamesFiles p f) fs) at.frames a in x.0.0

-- ---- answers

module _ (p : LinkedProgram) (t : ℕ) (s : Standing) (c : ClassId) where
  as_is : (phase : Phase) (a : Answer) (made : List Event) (z : Standing) (at : IsAt s c phase) → Advances p t (standing (frame c phase ∷ at.below) s.last) a made z → Advances p t s a made z
  as_is phase a made z at x = subst (λ (fs : List Frame). Advances p t (standing fs s.last) a made z) (sym at.frames) x

  -- a look may be given up
  pub gives_up : (e : ClassId) (m : Standing) → next_of s.frames ≡ next.Look c → IsMachineError p e → m ≡ thread_ended s e → Advances p t s (answer.GaveUp e false) [] m
  gives_up e m q machine is =
      let l = looks_at s c q in
      let same : thread_ended s e ≡ after_word l.1.below c (Ended e) = ap (λ (fs : List Frame). thread_ended (standing fs s.last) e) l.1.frames in
      subst (λ (v : Standing). Advances p t s (answer.GaveUp e false) [] v) (sym (is ∙ same)) (as_is (Looking l.0) (answer.GaveUp e false) [] (after_word l.1.below c (Ended e)) l.1 (gives_up_look machine))

  -- and so may step 9, when memory runs out
  pub gives_up_run : next_of s.frames ≡ next.Body c → is_running s.frames ≡ false → (z : Standing) × Advances p t s (answer.GaveUp (built_in p OutOfMemoryError) true) [] z
  gives_up_run q e = let l = runs_at s c false q e in (_, as_is (Running false) (answer.GaveUp (built_in p OutOfMemoryError) true) [] _ l gives_up_body)

  -- the step that ends a class was made
  pub ends : (m : Standing) (k : Ending) → next_of s.frames ≡ next.End c k → ((d : ClassId) (j : Ending) (by_machine : Bool) (fs : List Frame) → s.frames ≡ frame d (EndingBy j by_machine) ∷ fs → m ≡ after_word fs d (outcome_of j by_machine)) → Advances p t s answer.Ended (event t c (kind_of_ending k) ∷ []) m
  ends m k q is = let l = ends_at s c k q in rw (is c k l.0 l.1.below l.1.frames) (as_is (EndingBy k l.0) answer.Ended (event t c (kind_of_ending k) ∷ []) _ l.1 ends_class)

-- where an answer is told that may be told
pub may_tell : (p : LinkedProgram) (s : Standing) (a : Answer) → ((t : ℕ) → (z : Standing) × Advances p t s a [] z) → Fits p s a
may_tell p s a x t = (s, [], (x t).0, (x t).1, knows_all)

pub is_told : (p : LinkedProgram) (t : ℕ) (s m : Standing) (a : Answer) → (z : Standing) × Advances p t s a [] z → LeavesAt p s a m → Advances p t s a [] m
is_told p t s m a x is = rw (is t s [] x.0 x.1 knows_all) x.1

-- ---- where the thread's own events lead

module _ {p : LinkedProgram} {t : ℕ} {M : Maker} {Outer : ClassId → List Event → M.State → Type 0} {Idle : Option Completed → List Event → M.State → Type 0} where
  -- nothing was completed last before a look, and before step 9
  pub look_last : {s : Standing} {c : ClassId} {w : Bool} {xs : List Event} {z : M.State} (at : IsAt s c (Looking w)) → LeadsOf p t M Outer Idle s xs z → s.last ≡ None
  look_last {s = s} {xs = xs} {z = z} at h = by (subst (λ (fs : List Frame). LeadsOf p t M Outer Idle (standing fs s.last) xs z) at.frames h) where
    by : {c : ClassId} {w : Bool} {fs : List Frame} {last : Option Completed} {ys : List Event} {y : M.State} → LeadsOf p t M Outer Idle (standing (frame c (Looking w) ∷ fs) last) ys y → last ≡ None
    by (looking waited b) = refl

  pub run_last : {s : Standing} {c : ClassId} {xs : List Event} {z : M.State} (at : IsAt s c (Running false)) → LeadsOf p t M Outer Idle s xs z → s.last ≡ None
  run_last {s = s} {xs = xs} {z = z} at h = by (subst (λ (fs : List Frame). LeadsOf p t M Outer Idle (standing fs s.last) xs z) at.frames h) where
    by : {c : ClassId} {fs : List Frame} {last : Option Completed} {ys : List Event} {y : M.State} → LeadsOf p t M Outer Idle (standing (frame c (Running false) ∷ fs) last) ys y → last ≡ None
    by (not_run waited b g) = refl

idle_in : (phase : Phase) (c : ClassId) (fs : List Frame) → next_of (frame c phase ∷ fs) ≡ next.Idle → (rest : List ClassId) × (phase ≡ Needing rest)
idle_in (Needing rest) c fs q = (rest, refl)
idle_in (Looking w) c fs q = cc
idle_in (Running ran) c fs q = cc
idle_in (EndingBy k m) c fs q = cc

-- where nothing is asked for no class is open
pub is_idle : (fs : List Frame) → AreAsking fs → next_of fs ≡ next.Idle → fs ≡ []
is_idle [] a q = refl
is_idle (f ∷ fs) a q = let x = idle_in f.phase f.class fs q in absurd (subst AsksIn x.1 a)

module _ {p : LinkedProgram} {t : ℕ} {M : Maker} {Outer : ClassId → List Event → M.State → Type 0} {Idle : Option Completed → List Event → M.State → Type 0} where
  -- the innermost class asks for something
  pub are_asking : {s : Standing} {xs : List Event} {z : M.State} → LeadsOf p t M Outer Idle s xs z → AreAsking s.frames
  are_asking (idle i) = tt
  are_asking (looking waited b) = tt
  are_asking (not_run waited b g) = tt
  are_asking (running waited b g st i) = tt
  are_asking (ending_by k m events b x) = tt

-- ---- in a body

-- where a request may be made: outside of any class, or in the body of one after its step 9
pub data IsBodyAt : List Frame → Type 0 where
  of_main : IsBodyAt []
  of_class : (c : ClassId) (fs : List Frame) → IsBodyAt (frame c (Running true) ∷ fs)

body_in : (c : ClassId) (phase : Phase) (fs : List Frame) → MayRequest (frame c phase ∷ fs) → IsBodyAt (frame c phase ∷ fs)
body_in c (Running true) fs b = of_class c fs
body_in c (Running false) fs b = absurd b
body_in c (Looking w) fs b = absurd b
body_in c (Needing rest) fs b = absurd b
body_in c (EndingBy k m) fs b = absurd b

pub body_at : (fs : List Frame) → MayRequest fs → IsBodyAt fs
body_at [] b = of_main
body_at (f ∷ fs) b = body_in f.class f.phase fs b

running_in : (c : ClassId) (phase : Phase) (fs : List Frame) → is_running (frame c phase ∷ fs) ≡ true → IsBodyAt (frame c phase ∷ fs)
running_in c (Running true) fs q = of_class c fs
running_in c (Running false) fs q = cc
running_in c (Looking w) fs q = cc
running_in c (Needing rest) fs q = cc
running_in c (EndingBy k m) fs q = cc

of_running : (fs : List Frame) → IsBodyAt fs → is_running fs ≡ true → (c : ClassId) × (below : List Frame) × (fs ≡ frame c (Running true) ∷ below)
of_running [] of_main q = cc
of_running (f ∷ fs) (of_class c gs) q = (c, gs, refl)

-- the innermost class is in its body
pub running_at : (fs : List Frame) → is_running fs ≡ true → (c : ClassId) × (below : List Frame) × (fs ≡ frame c (Running true) ∷ below)
running_at [] q = cc
running_at (f ∷ fs) q = of_running (f ∷ fs) (running_in f.class f.phase fs q) q

-- so it may make a request
pub running_requests : (fs : List Frame) → is_running fs ≡ true → MayRequest fs × (fs ≢ [])
running_requests fs q = let x = running_at fs q in (subst MayRequest (sym x.2) tt, λ e. let z : frame x.0 (Running true) ∷ x.1 ≡ [] = sym x.2 ∙ e in cc)

not_in : (fs : List Frame) → IsBodyAt fs → is_running fs ≡ false → fs ≡ []
not_in [] of_main q = refl
not_in (f ∷ fs) (of_class c gs) q = cc

-- a body that is of no class is that of main
pub not_running : (fs : List Frame) → MayRequest fs → is_running fs ≡ false → fs ≡ []
not_running fs b q = not_in fs (body_at fs b) q

error_in : (fs : List Frame) (last : Option Completed) → IsBodyAt fs → ending_error (standing fs last) ≡ given_up last
error_in [] last of_main = refl
error_in (f ∷ fs) last (of_class c gs) = refl

-- in a body the machine ends the thread where it ended an active use
pub body_error : (fs : List Frame) (last : Option Completed) → MayRequest fs → ending_error (standing fs last) ≡ given_up last
body_error fs last b = error_in fs last (body_at fs b)

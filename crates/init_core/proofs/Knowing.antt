-- What each step of a thread leaves of what it knows, and what other threads leave of it.
use Rattle.std.proofs.Common.{◌≡◌, ◌≢◌, ℕ, List, [], ◌∷◌, ◌++◌, Option, Some, None, Bool, true, false, ◌==◌, refl, sym, ap, subst, ◌∙◌}
use Rattle.std.specs.List.{AllByRecursion}
use Rattle.hierarchy.specs.declared.class.ClassId.{ClassId}
use Rattle.hierarchy.specs.LinkedProgram.{LinkedProgram}
use Rattle.init_core.specs.Needs.{needs}
use Rattle.init_core.specs.declared.event.Event.{Event}
use Rattle.init_core.specs.declared.event.Kind.{Kind}
use Rattle.init_core.specs.declared.event.Kind.TheVariants as kind
use Rattle.init_core.specs.declared.event.Label.{Label}
use Rattle.init_core.specs.declared.event.Label.TheVariants.{InProgress, Initialized}
use Rattle.init_core.specs.declared.procedure.Answer.{Answer}
use Rattle.init_core.specs.declared.frames.Completed.{Completed}
use Rattle.init_core.specs.declared.frames.Ending.{Ending}
use Rattle.init_core.specs.declared.frames.Ending.TheVariants as ending
use Rattle.init_core.specs.declared.frames.Frame.{Frame}
use Rattle.init_core.specs.declared.frames.Outcome.{Outcome}
use Rattle.init_core.specs.declared.frames.Outcome.TheVariants.{Normal, Abrupt, Ended}
use Rattle.init_core.specs.declared.frames.Phase.{Phase}
use Rattle.init_core.specs.declared.frames.Phase.TheVariants.{Looking, Needing, Running, EndingBy}
use Rattle.init_core.specs.Advance.{Advances, step_2, still_step_2, step_3, step_4, step_5, step_6, leaves_body, ends_class, gives_up_look, gives_up_begun, gives_up_body, FitsBody, MayRequest, after_in, after_needs, after_word, ending_of, is_by_machine, is_waiting}
use Rattle.init_core.specs.Decisions.{event, is_wait, waits}
use Rattle.init_core.specs.Interleaving.{of_class}
use Rattle.init_core.specs.Label.{label_of}
use Rattle.init_core.specs.Lawful.{MayUse}
use Rattle.init_core.specs.Leads.{frame, standing, kind_of_ending, outcome_of, BeforeOf, outermost, needed, used, LeadsOf, idle, looking, not_run, running, ending_by}
use Rattle.init_core.specs.ProcedureWord.{Maker, Word, completed, ended_by, given_up, GoesOn, IsOfFiles}
use Rattle.init_core.specs.Standing.{Standing}
use Rattle.init_core.specs.Stands.{begun_in, begun_classes, AreDifferent, NamesFiles, ending_error, ending_error_in, StandsOf, SeesMore, AreOfOthers}
use Rattle.init_core.proofs.NeedsAbove.{needs_in_files}
use Rattle.init_core.specs.ClassState.{next_label}
use Rattle.init_core.proofs.Leading.{Makes, is_answered, is_requested, has_run}
use Rattle.init_core.proofs.Seeing.{AreMine, all_mine, stays_so, waits_others_from, none_is, mine_same, waits_same, allowed, label_here, mine_still, mine_but, waits_at, calm}

-- ---- the frames

-- what may be below the innermost class
abbrev pub IsOuter : Phase → Type 0
IsOuter (Needing rest) = Unit {0}
IsOuter (Running true) = Unit {0}
IsOuter _ = ⊥

abbrev pub AreOuter : List Frame → Type 0
AreOuter fs = AllByRecursion (λ f. IsOuter f.phase) fs

abbrev pub AreOuterBelow : List Frame → Type 0
AreOuterBelow [] = Unit {0}
AreOuterBelow (f ∷ fs) = AreOuter fs

before_outer : (p : LinkedProgram) (t : ℕ) (M : Maker) {Outer : ClassId → List Event → M.State → Type 0} {z : M.State} {fs : List Frame} {c : ClassId} {xs : List Event} → BeforeOf p t M Outer fs c xs z → AreOuter fs
before_outer p t M (outermost o) = tt
before_outer p t M (needed waited b e g) = (tt, before_outer p t M b)
before_outer p t M (used waited b g st i on within made) = (tt, before_outer p t M b)

module _ (p : LinkedProgram) (t : ℕ) (M : Maker) {Outer : ClassId → List Event → M.State → Type 0} {Idle : Option Completed → List Event → M.State → Type 0} where
  pub leads_outer : {z : M.State} {s : Standing} {xs : List Event} → LeadsOf p t M Outer Idle s xs z → AreOuterBelow s.frames
  leads_outer (idle i) = tt
  leads_outer (looking waited b) = before_outer p t M b
  leads_outer (not_run waited b g) = before_outer p t M b
  leads_outer (running waited b g st i) = before_outer p t M b
  leads_outer (ending_by k m events b x) = before_outer p t M b

  look_last : {z : M.State} {c : ClassId} {w : Bool} {fs : List Frame} {last : Option Completed} {xs : List Event} → LeadsOf p t M Outer Idle (standing (frame c (Looking w) ∷ fs) last) xs z → last ≡ None
  look_last (looking waited b) = refl

pub needs_begun : (b : ClassId) (rest : List ClassId) (fs : List Frame) → begun_classes (after_needs b rest fs).frames ≡ b ∷ begun_classes fs
needs_begun b [] fs = refl
needs_begun b (d ∷ rest) fs = refl

in_begun : (phase : Phase) (b : ClassId) (fs : List Frame) (c : ClassId) (r : Outcome) → IsOuter phase → begun_classes (after_in phase b fs c r).frames ≡ b ∷ begun_classes fs
in_begun (Needing rest) b fs c Normal o = needs_begun b rest fs
in_begun (Needing rest) b fs c (Abrupt e) o = refl
in_begun (Needing rest) b fs c (Ended e) o = refl
in_begun (Running true) b fs c r o = refl
in_begun (Running false) b fs c r o = absurd o
in_begun (Looking w) b fs c r o = absurd o
in_begun (EndingBy k e) b fs c r o = absurd o

outer_begun : (phase : Phase) (b : ClassId) (cs : List ClassId) → IsOuter phase → begun_in b phase cs ≡ b ∷ cs
outer_begun (Needing rest) b cs o = refl
outer_begun (Running true) b cs o = refl
outer_begun (Running false) b cs o = absurd o
outer_begun (Looking w) b cs o = absurd o
outer_begun (EndingBy k e) b cs o = absurd o

pub word_begun : (fs : List Frame) (c : ClassId) (r : Outcome) → AreOuter fs → begun_classes (after_word fs c r).frames ≡ begun_classes fs
word_begun [] c r o = refl
word_begun (f ∷ fs) c r o = in_begun f.phase f.class fs c r o.0 ∙ sym (outer_begun f.phase f.class (begun_classes fs) o.0)

needs_error : (b : ClassId) (rest : List ClassId) (fs : List Frame) → ending_error (after_needs b rest fs) ≡ None
needs_error b [] fs = refl
needs_error b (d ∷ rest) fs = refl

in_error : (phase : Phase) (b : ClassId) (fs : List Frame) (c : ClassId) (r : Outcome) → IsOuter phase → ending_error (after_in phase b fs c r) ≡ ended_by r
in_error (Needing rest) b fs c Normal o = needs_error b rest fs
in_error (Needing rest) b fs c (Abrupt e) o = refl
in_error (Needing rest) b fs c (Ended e) o = refl
in_error (Running true) b fs c r o = refl
in_error (Running false) b fs c r o = absurd o
in_error (Looking w) b fs c r o = absurd o
in_error (EndingBy k e) b fs c r o = absurd o

pub word_error : (fs : List Frame) (c : ClassId) (r : Outcome) → AreOuter fs → ending_error (after_word fs c r) ≡ ended_by r
word_error [] c r o = refl
word_error (f ∷ fs) c r o = in_error f.phase f.class fs c r o.0

needs_calm : (d b : ClassId) (rest : List ClassId) (fs : List Frame) → is_waiting d (after_needs b rest fs).frames ≡ false
needs_calm d b [] fs = refl
needs_calm d b (n ∷ rest) fs = refl

in_calm : (d : ClassId) (phase : Phase) (b : ClassId) (fs : List Frame) (c : ClassId) (r : Outcome) → IsOuter phase → is_waiting d (after_in phase b fs c r).frames ≡ false
in_calm d (Needing rest) b fs c Normal o = needs_calm d b rest fs
in_calm d (Needing rest) b fs c (Abrupt e) o = refl
in_calm d (Needing rest) b fs c (Ended e) o = refl
in_calm d (Running true) b fs c r o = refl
in_calm d (Running false) b fs c r o = absurd o
in_calm d (Looking w) b fs c r o = absurd o
in_calm d (EndingBy k e) b fs c r o = absurd o

word_calm : (d : ClassId) (fs : List Frame) (c : ClassId) (r : Outcome) → AreOuter fs → is_waiting d (after_word fs c r).frames ≡ false
word_calm d [] c r o = refl
word_calm d (f ∷ fs) c r o = in_calm d f.phase f.class fs c r o.0

needs_last : (b : ClassId) (rest : List ClassId) (fs : List Frame) → (after_needs b rest fs).last ≡ None
needs_last b [] fs = refl
needs_last b (d ∷ rest) fs = refl

same_last : (c d : ClassId) (r : Outcome) → Some (completed c r) ≡ Some (completed d Normal) → (c ≡ d) × (r ≡ Normal)
same_last c d r e = let q : completed c r ≡ completed d Normal = cc in (ap (λ (x : Completed). x.class) q, ap (λ (x : Completed). x.outcome) q)

in_last : (phase : Phase) (b : ClassId) (fs : List Frame) (c d : ClassId) (r : Outcome) → IsOuter phase → (after_in phase b fs c r).last ≡ Some (completed d Normal) → (c ≡ d) × (r ≡ Normal)
in_last (Needing rest) b fs c d Normal o e = absurd (let none : None ≡ Some (completed d Normal) = sym (needs_last b rest fs) ∙ e in cc)
in_last (Needing rest) b fs c d (Abrupt x) o e = cc
in_last (Needing rest) b fs c d (Ended x) o e = cc
in_last (Running true) b fs c d r o e = same_last c d r e
in_last (Running false) b fs c d r o e = absurd o
in_last (Looking w) b fs c d r o e = absurd o
in_last (EndingBy k m) b fs c d r o e = absurd o

-- what is completed last is the procedure that was
word_last : (fs : List Frame) (c d : ClassId) (r : Outcome) → AreOuter fs → (after_word fs c r).last ≡ Some (completed d Normal) → (c ≡ d) × (r ≡ Normal)
word_last [] c d r o e = same_last c d r e
word_last (f ∷ fs) c d r o e = in_last f.phase f.class fs c d r o.0 e

-- a class that is ended normally may be used
ended_so : (t : ℕ) (l : Label) (k : Ending) (m : Bool) → outcome_of k m ≡ Normal → MayUse t (next_label l t (kind_of_ending k))
ended_so t l ending.Completes m e = tt
ended_so t l (ending.SuperFails x) true e = absurd (let z : Ended x ≡ Normal = e in cc)
ended_so t l (ending.SuperFails x) false e = absurd (let z : Abrupt x ≡ Normal = e in cc)
ended_so t l (ending.Fails x) true e = absurd (let z : Ended x ≡ Normal = e in cc)
ended_so t l (ending.Fails x) false e = absurd (let z : Abrupt x ≡ Normal = e in cc)

-- a look elsewhere waits not here
look_calm : (c d : ClassId) (w : Bool) (fs : List Frame) → (c.number == d.number) ≡ false → is_waiting d (frame c (Looking w) ∷ fs) ≡ false
look_calm c d true fs e = e
look_calm c d false fs e = refl

-- before a request nothing waits, and the machine doesn't end the thread
pub request_calm : (d : ClassId) (frames : List Frame) → MayRequest frames → is_waiting d frames ≡ false
request_calm d [] body = refl
request_calm d (f ∷ fs) body = at f.class f.phase body where
  at : (b : ClassId) (phase : Phase) → MayRequest (frame b phase ∷ fs) → is_waiting d (frame b phase ∷ fs) ≡ false
  at b (Running true) body = refl
  at b (Running false) body = absurd body
  at b (Looking w) body = absurd body
  at b (Needing rest) body = absurd body
  at b (EndingBy k m) body = absurd body

pub request_error : (frames : List Frame) (last : Option Completed) → MayRequest frames → GoesOn last → ending_error (standing frames last) ≡ None
request_error [] last body on = on
request_error (f ∷ fs) last body on = at f.class f.phase body where
  at : (b : ClassId) (phase : Phase) → MayRequest (frame b phase ∷ fs) → ending_error_in phase last ≡ None
  at b (Running true) body = on
  at b (Running false) body = absurd body
  at b (Looking w) body = absurd body
  at b (Needing rest) body = absurd body
  at b (EndingBy k m) body = absurd body

ending_is_no_wait : (k : Ending) → is_wait (kind_of_ending k) ≡ false
ending_is_no_wait ending.Completes = refl
ending_is_no_wait (ending.SuperFails e) = refl
ending_is_no_wait (ending.Fails e) = refl

body_error : (p : LinkedProgram) (o : Option ClassId) (r : Outcome) → FitsBody p o r → ended_by (outcome_of (ending_of r) (is_by_machine r)) ≡ None → o ≡ None
body_error p None r fits e = refl
body_error p (Some x) Normal fits e = absurd (let z : Normal ≡ Ended x = fits in cc)
body_error p (Some x) (Abrupt y) fits e = absurd (let z : Abrupt y ≡ Ended x = fits in cc)
body_error p (Some x) (Ended y) fits e = absurd (let z : Some y ≡ None = e in cc)

module _ (p : LinkedProgram) where
  pub needs_files : (b : ClassId) (rest : List ClassId) (fs : List Frame) → IsOfFiles p b → AllByRecursion (IsOfFiles p) rest → AllByRecursion (λ f. NamesFiles p f) fs → AllByRecursion (λ f. NamesFiles p f) (after_needs b rest fs).frames
  needs_files b [] fs x a f = ((x, tt), f)
  needs_files b (d ∷ rest) fs x a f = ((a.0, tt), ((x, a.1), f))

  in_files : (phase : Phase) (b : ClassId) (fs : List Frame) (c : ClassId) (r : Outcome) → IsOuter phase → NamesFiles p (frame b phase) → AllByRecursion (λ f. NamesFiles p f) fs → AllByRecursion (λ f. NamesFiles p f) (after_in phase b fs c r).frames
  in_files (Needing rest) b fs c Normal o x f = needs_files b rest fs x.0 x.1 f
  in_files (Needing rest) b fs c (Abrupt e) o x f = ((x.0, tt), f)
  in_files (Needing rest) b fs c (Ended e) o x f = ((x.0, tt), f)
  in_files (Running true) b fs c r o x f = (x, f)
  in_files (Running false) b fs c r o x f = absurd o
  in_files (Looking w) b fs c r o x f = absurd o
  in_files (EndingBy k e) b fs c r o x f = absurd o

  pub word_files : (fs : List Frame) (c : ClassId) (r : Outcome) → AreOuter fs → AllByRecursion (λ f. NamesFiles p f) fs → AllByRecursion (λ f. NamesFiles p f) (after_word fs c r).frames
  word_files [] c r o f = tt
  word_files (g ∷ fs) c r o f = in_files g.phase g.class fs c r o.0 f.0 f.1

-- ---- the steps

module _ (p : LinkedProgram) (t : ℕ) (M : Maker) (Outer : ClassId → List Event → M.State → Type 0) (Idle : Option Completed → List Event → M.State → Type 0)
    (goes : (c : ClassId) (xs w : List Event) (r : Outcome) (y z : M.State) → Outer c xs y → Word p t M y c w r z → Idle (Some (completed c r)) (xs ++ w) z) where
  -- other threads go on
  pub others_go_on : {s : Standing} {own : List Event} {seen more now : ClassId → List Event} {z : M.State} → SeesMore seen more now → ((c : ClassId) → AreOfOthers t (more c)) → StandsOf p t M Outer Idle s own seen z → StandsOf p t M Outer Idle s own now z
  others_go_on {s = s} {seen = seen} {more = more} {now = now} sees others st = record {
    leads = st.leads;
    files = st.files;
    mine = all_mine t seen now (begun_classes s.frames) (λ c q. ap label_of (sees.adds c) ∙ stays_so t (InProgress t) (seen c) (more c) refl q (sees.agrees c) (others c)) st.mine;
    different = st.different;
    waiting = λ e c. ap (waits t) (sees.adds c) ∙ (waits_others_from false t (seen c) (more c) (others c) ∙ st.waiting e c);
    used = λ c q.
        let may : MayUse t (label_of (seen c)) = st.used c q in
        let same : label_of (now c) ≡ label_of (seen c) = ap label_of (sees.adds c) ∙ stays_so t (label_of (seen c)) (seen c) (more c) may refl (sees.agrees c) (others c) in
        subst (λ (l : Label). MayUse t l) (sym same) may;
  }

  -- a request of c
  pub requests_one : {s : Standing} {own : List Event} {seen : ClassId → List Event} {y z : M.State} (c : ClassId) → MayRequest s.frames → GoesOn s.last → IsOfFiles p c → M.asks y s.last c z → (Idle s.last own y → Outer c own z) → StandsOf p t M Outer Idle s own seen y →
      StandsOf p t M Outer Idle (standing (frame c (Looking false) ∷ s.frames) None) own seen z
  requests_one {s = s} c body on within ask outer st = record {
    leads = is_requested p t M Outer Idle goes c body on within ask outer st.leads;
    files = ((within, tt), st.files);
    mine = st.mine;
    different = st.different;
    waiting = λ e d. st.waiting (request_error s.frames s.last body on) d ∙ request_calm d s.frames body;
    used = λ d q. cc;
  }

  -- step 9
  pub runs_body : {c : ClassId} {fs : List Frame} {own : List Event} {seen : ClassId → List Event} {y z : M.State} → M.starts y c z → StandsOf p t M Outer Idle (standing (frame c (Running false) ∷ fs) None) own seen y →
      StandsOf p t M Outer Idle (standing (frame c (Running true) ∷ fs) None) (own ++ event t c kind.Runs ∷ []) seen z
  runs_body start st = record {
    leads = has_run p t M Outer Idle goes start st.leads;
    files = st.files;
    mine = st.mine;
    different = st.different;
    waiting = st.waiting;
    used = λ d q. cc;
  }

  told : {s m : Standing} {a : Answer} {made own : List Event} {seen : ClassId → List Event} {y z : M.State} → Advances p t s a made m → Makes p M s.last a y z → StandsOf p t M Outer Idle s own seen y → LeadsOf p t M Outer Idle m (own ++ made) z
  told x by st = is_answered p t M Outer Idle goes x by st.leads

  -- the innermost procedure is completed
  is_completed : (fs : List Frame) {own : List Event} {now : ClassId → List Event} {z : M.State} (c : ClassId) (r : Outcome) → AreOuter fs → LeadsOf p t M Outer Idle (after_word fs c r) own z → AllByRecursion (λ f. NamesFiles p f) fs → AreMine t now (begun_classes fs) → AreDifferent (begun_classes fs) →
      (ended_by r ≡ None → (d : ClassId) → waits t (now d) ≡ false) → (r ≡ Normal → MayUse t (label_of (now c))) → StandsOf p t M Outer Idle (after_word fs c r) own now z
  is_completed fs {now = now} c r outer leads files mine different calm_now may =
      let cs : begun_classes fs ≡ begun_classes (after_word fs c r).frames = sym (word_begun fs c r outer) in
      record {
        leads = leads;
        files = word_files p fs c r outer files;
        mine = subst (λ (z : List ClassId). AreMine t now z) cs mine;
        different = subst AreDifferent cs different;
        waiting = λ e d. calm_now (sym (word_error fs c r outer) ∙ e) d ∙ sym (word_calm d fs c r outer);
        used = λ d q. let x = word_last fs c d r outer q in subst (λ (b : ClassId). MayUse t (label_of (now b))) x.0 (may x.1);
      }

  look_goes_on : {c : ClassId} {w : Bool} {fs : List Frame} {last : Option Completed} {own : List Event} {seen : ClassId → List Event} {z : M.State} → StandsOf p t M Outer Idle (standing (frame c (Looking w) ∷ fs) last) own seen z → (d : ClassId) → waits t (seen d) ≡ is_waiting d (frame c (Looking w) ∷ fs)
  look_goes_on st d = st.waiting (ap given_up (look_last p t M st.leads)) d

  -- a look that completes the procedure by an event
  looks_once : {c : ClassId} {w : Bool} {fs : List Frame} {last : Option Completed} {own : List Event} {seen now : ClassId → List Event} {y z : M.State} (k : Kind) (r : Outcome) → is_wait k ≡ false → next_label (label_of (seen c)) t k ≡ label_of (seen c) → (r ≡ Normal → MayUse t (label_of (seen c))) →
      LeadsOf p t M Outer Idle (after_word fs c r) (own ++ event t c k ∷ []) z → SeesMore seen (λ d. of_class d (event t c k ∷ [])) now → StandsOf p t M Outer Idle (standing (frame c (Looking w) ∷ fs) last) own seen y → StandsOf p t M Outer Idle (after_word fs c r) (own ++ event t c k ∷ []) now z
  looks_once {c = c} {w = w} {fs = fs} k r none still may leads sees st =
      is_completed fs c r (leads_outer p t M st.leads) leads st.files.1 (mine_still t c k sees (begun_classes fs) still st.mine) st.different (λ e d. calm t c k sees none (λ x q. look_goes_on st x ∙ look_calm c x w fs q) d)
      (λ e. subst (λ (l : Label). MayUse t l) (sym (label_here t c k sees ∙ still)) (may e))

  -- step 4, which the record of the class doesn't keep
  pub passes_by : {c : ClassId} {fs : List Frame} {last : Option Completed} {own : List Event} {seen : ClassId → List Event} {z : M.State} → label_of (seen c) ≡ Initialized → StandsOf p t M Outer Idle (standing (frame c (Looking false) ∷ fs) last) own seen z →
      StandsOf p t M Outer Idle (after_word fs c Normal) (own ++ event t c kind.FindsInitialized ∷ []) seen z
  passes_by {c = c} {fs = fs} ready st =
      is_completed fs c Normal (leads_outer p t M st.leads) (is_answered p t M Outer Idle goes step_4 refl st.leads) st.files.1 st.mine st.different (λ e d. look_goes_on st d)
      (λ e. subst (λ (l : Label). MayUse t l) (sym ready) tt)

  -- step 6
  has_become_mine : (c : ClassId) (cs : List ClassId) {seen now : ClassId → List Event} → SeesMore seen (λ d. of_class d (event t c kind.Begins ∷ [])) now → AreMine t seen cs → AllByRecursion (λ d. d ≢ c) cs × AreMine t now (c ∷ cs)
  has_become_mine c cs {seen = seen} sees mine =
      let apart : AllByRecursion (λ d. d ≢ c) cs = none_is t seen c cs (allowed t c kind.Begins sees) mine in
      (apart, (label_here t c kind.Begins sees, mine_but t c kind.Begins sees cs apart mine))

  -- an answer
  pub takes_answer : {s m : Standing} {a : Answer} {made own : List Event} {seen now : ClassId → List Event} {y z : M.State} → Advances p t s a made m → Makes p M s.last a y z → SeesMore seen (λ c. of_class c made) now → StandsOf p t M Outer Idle s own seen y → StandsOf p t M Outer Idle m (own ++ made) now z
  takes_answer {seen = seen} {now = now} (step_2 {c = c} {fs = fs}) by sees st = record {
    leads = told step_2 by st;
    files = st.files;
    mine = mine_still t c kind.Waits sees (begun_classes fs) refl st.mine;
    different = st.different;
    waiting = λ e d. waits_here d (c.number == d.number) refl;
    used = λ d q. cc;
  } where
    waits_here : (d : ClassId) (b : Bool) → (c.number == d.number) ≡ b → waits t (now d) ≡ (c.number == d.number)
    waits_here d true e = waits_at t c kind.Waits sees d true e ∙ sym e
    waits_here d false e = waits_at t c kind.Waits sees d false e ∙ (look_goes_on st d ∙ sym e)
  takes_answer (still_step_2 {c = c} {fs = fs}) by sees st = record {
    leads = told still_step_2 by st;
    files = st.files;
    mine = mine_same t sees (begun_classes fs) st.mine;
    different = st.different;
    waiting = λ e d. waits_same t sees d ∙ look_goes_on st d;
    used = λ d q. cc;
  }
  takes_answer (step_3 {c = c}) by sees st = looks_once kind.Recurs Normal refl refl (λ e. subst (λ (l : Label). MayUse t l) (sym (allowed t c kind.Recurs sees)) refl) (told step_3 by st) sees st
  takes_answer (step_4 {c = c}) by sees st = looks_once kind.FindsInitialized Normal refl refl (λ e. subst (λ (l : Label). MayUse t l) (sym (allowed t c kind.FindsInitialized sees)) tt) (told step_4 by st) sees st
  takes_answer step_5 by sees st = looks_once kind.FindsErroneous _ refl refl (λ e. cc) (told step_5 by st) sees st
  takes_answer {now = now} (step_6 {c = c} {fs = fs} {waited = w}) by sees st =
      let x = has_become_mine c (begun_classes fs) sees st.mine in
      let cs : c ∷ begun_classes fs ≡ begun_classes (after_needs c (needs p c) fs).frames = sym (needs_begun c (needs p c) fs) in
      record {
        leads = told step_6 by st;
        files = needs_files p c (needs p c) fs st.files.0.0 (needs_in_files p c) st.files.1;
        mine = subst (λ (z : List ClassId). AreMine t now z) cs x.1;
        different = subst AreDifferent cs (x.0, st.different);
        waiting = λ e d. calm t c kind.Begins sees refl (λ y q. look_goes_on st y ∙ look_calm c y w fs q) d ∙ sym (needs_calm d c (needs p c) fs);
        used = λ d q. absurd (let none : None ≡ Some (completed d Normal) = sym (needs_last c (needs p c) fs) ∙ q in cc);
      }
  takes_answer (leaves_body {c = c} {fs = fs} {last = last} {r = r} fits) by sees st = record {
    leads = told (leaves_body fits) by st;
    files = st.files;
    mine = mine_same t sees (c ∷ begun_classes fs) st.mine;
    different = st.different;
    waiting = λ e d. waits_same t sees d ∙ st.waiting (body_error p (given_up last) r fits e) d;
    used = λ d q. cc;
  }
  takes_answer {seen = seen} (ends_class {c = c} {fs = fs} {k = k} {by_machine = m}) by sees st =
      is_completed fs c (outcome_of k m) (leads_outer p t M st.leads) (told ends_class by st) st.files.1 (mine_but t c (kind_of_ending k) sees (begun_classes fs) st.different.0 st.mine.1) st.different.1 (λ e d. calm t c (kind_of_ending k) sees (ending_is_no_wait k) (λ y q. st.waiting e y) d)
      (λ e. subst (λ (l : Label). MayUse t l) (sym (label_here t c (kind_of_ending k) sees)) (ended_so t (label_of (seen c)) k m e))
  takes_answer (gives_up_look {c = c} {e = e} {fs = fs} machine) by sees st =
      is_completed fs c (Ended e) (leads_outer p t M st.leads) (told (gives_up_look machine) by st) st.files.1 (mine_same t sees (begun_classes fs) st.mine) st.different (λ q d. cc) (λ q. cc)
  takes_answer (gives_up_begun {c = c} {fs = fs}) by sees st =
      let x = has_become_mine c (begun_classes fs) sees st.mine in
      record {
        leads = told gives_up_begun by st;
        files = st.files;
        mine = x.1;
        different = (x.0, st.different);
        waiting = λ e d. cc;
        used = λ d q. cc;
      }
  takes_answer (gives_up_body {c = c} {fs = fs}) by sees st = record {
    leads = told gives_up_body by st;
    files = st.files;
    mine = mine_same t sees (c ∷ begun_classes fs) st.mine;
    different = st.different;
    waiting = λ e d. cc;
    used = λ d q. cc;
  }

-- What is read leads to where the thread's procedures stand; where it may stop it is a whole word.
use Rattle.std.proofs.Common.{◌≡◌, ℕ, List, [], ◌∷◌, ◌++◌, Option, Some, None, Bool, true, false, refl, sym, subst, append-nil, append_assoc, inl}
use Rattle.hierarchy.specs.declared.class.ClassId.{ClassId}
use Rattle.hierarchy.specs.declared.built_in.BuiltIn.TheVariants.{InternalError, OutOfMemoryError, Error, Throwable}
use Rattle.hierarchy.specs.LinkedProgram.{LinkedProgram, built_in}
use Rattle.hierarchy.specs.Subclasses.{IsError, IsThrowable, IsSubclass, itself, below, is_built_in}
use Rattle.init_core.specs.Needs.{needs}
use Rattle.init_core.specs.declared.event.Event.{Event}
use Rattle.init_core.specs.declared.event.Kind.{Kind}
use Rattle.init_core.specs.declared.event.Kind.TheVariants as kind
use Rattle.init_core.specs.declared.frames.Completed.{Completed}
use Rattle.init_core.specs.declared.frames.Ending.{Ending}
use Rattle.init_core.specs.declared.frames.Ending.TheVariants as ending
use Rattle.init_core.specs.declared.frames.Frame.{Frame}
use Rattle.init_core.specs.declared.frames.Outcome.{Outcome}
use Rattle.init_core.specs.declared.frames.Outcome.TheVariants.{Normal, Abrupt, Ended}
use Rattle.init_core.specs.declared.frames.Phase.{Phase}
use Rattle.init_core.specs.declared.frames.Phase.TheVariants.{Looking, Needing, Running, EndingBy}
use Rattle.init_core.specs.Decisions.{event}
use Rattle.init_core.specs.ProcedureWord as words
use Rattle.init_core.specs.ProcedureWord.{free, Items, Body, ThreadWord, completed, given_up, GoesOn, IsOfFiles, IsMachineError}
use Rattle.init_core.specs.Standing.{Standing}
use Rattle.init_core.specs.Leads.{frame, standing, kind_of_ending, outcome_of, outermost, used, Leads, idle, looking, running}
use Rattle.init_core.specs.Advance.{after_word}
use Rattle.init_core.specs.MainWord.{MainDone, nothing, main_done, BeforeMain, before_first, MainItems, main_items, BeforeItem, before_item, LeadsMain, LeadsMainBody, BeginsMain, in_procedure, in_body}
use Rattle.init_core.proofs.Forgetting.{ProcedureWord}
use Rattle.init_core.proofs.Leading as leading
use Rattle.init_core.proofs.Mains.{Before, goes_main, goes_item, thread_word}
use Rattle.init_core.proofs.Leading.{body_stops}
use Rattle.judge.specs.Reading.{Looks, waits, recurs, finds_initialized, finds_erroneous, begins, GoesOnBy, requests, uses, prints, Reads, looks, need_unanswered, body_unanswered, runs, lacks_memory, goes_on, completes, fails, is_ended, super_fails, main_begins, main_goes_on, ReadsAll, and_then, opening, MayStop, IsReadAsBeginning, IsReadAsWhole}
use Rattle.judge.specs.Reading as reading

further : (p : LinkedProgram) {c d : ClassId} → IsSubclass p.classes c d → (s : ClassId) → IsSubclass p.classes d s → IsSubclass p.classes c s
further p itself s h = h
further p (below x y) s h = below x (further p y s h)

error_is_throwable : (p : LinkedProgram) (e : ClassId) → IsError p e → IsThrowable p e
error_is_throwable p e h = further p h (built_in p Throwable) (below (is_built_in Error Throwable refl) itself)

module _ (p : LinkedProgram) (t : ℕ) (Outer : ClassId → List Event → Type 0) (Idle : Option Completed → List Event → Type 0)
    (goes : (c : ClassId) (xs w : List Event) (r : Outcome) (s z : Unit {0}) → Outer c xs → ProcedureWord p t c w r → Idle (Some (completed c r)) (xs ++ w)) where
  abbrev At : Standing → List Event → Type 0
  At s xs = Leads p t Outer Idle s xs

  looks_lead : {fs : List Frame} {w : Bool} {c : ClassId} {k : Kind} {s : Standing} {last : Option Completed} {xs : List Event} → Looks p fs w c k s → At (standing (frame c (Looking w) ∷ fs) last) xs → At s (xs ++ event t c k ∷ [])
  looks_lead waits h = leading.waits p t free (λ d ys z. Outer d ys) (λ last ys z. Idle last ys) goes h
  looks_lead recurs h = leading.answered p t free (λ d ys z. Outer d ys) (λ last ys z. Idle last ys) goes (λ s. words.recurs) h
  looks_lead finds_initialized h = leading.answered p t free (λ d ys z. Outer d ys) (λ last ys z. Idle last ys) goes (λ s. words.finds_initialized) h
  looks_lead finds_erroneous h = leading.answered p t free (λ d ys z. Outer d ys) (λ last ys z. Idle last ys) goes (λ s. words.finds_erroneous) h
  looks_lead {c = c} begins h = leading.has_begun p t free (λ d ys z. Outer d ys) (λ last ys z. Idle last ys) goes (needs p c) refl h

  opened : {fs : List Frame} {c : ClassId} {xs : List Event} → Before p t Outer fs c xs → At (standing (frame c (Looking false) ∷ fs) None) xs
  opened {fs} {c} {xs} b = subst (λ ys. At (standing (frame c (Looking false) ∷ fs) None) ys) (append-nil xs) (looking false b)

  requested_in : {fs : List Frame} {b c : ClassId} {last : Option Completed} {xs : List Event} → GoesOn last → IsOfFiles p c → At (standing (frame b (Running true) ∷ fs) last) xs → At (standing (frame c (Looking false) ∷ (frame b (Running true) ∷ fs)) None) xs
  requested_in on files (running waited b g st i) = opened (used waited b g st i on files tt)

  item_leads : {fs : List Frame} {b : ClassId} {last : Option Completed} {e : Event} {s : Standing} {xs : List Event} → GoesOn last → GoesOnBy p t (frame b (Running true) ∷ fs) last e s → At (standing (frame b (Running true) ∷ fs) last) xs → At s (xs ++ e ∷ [])
  item_leads on (requests files l) h = looks_lead l (requested_in on files h)
  item_leads on (uses {k = k} u) h = leading.has_used p t free (λ d ys z. Outer d ys) (λ last ys z. Idle last ys) goes {y = tt} {z = tt} k u tt h
  item_leads on (prints {text = text}) h = leading.has_printed p t free (λ d ys z. Outer d ys) (λ last ys z. Idle last ys) goes {y = tt} {z = tt} text on tt h

  ends : {fs : List Frame} {c : ClassId} (k : Ending) (m : Bool) {last : Option Completed} {xs : List Event} → At (standing (frame c (EndingBy k m) ∷ fs) last) xs → At (after_word fs c (outcome_of k m)) (xs ++ event t c (kind_of_ending k) ∷ [])
  ends k m h = leading.has_ended p t free (λ d ys z. Outer d ys) (λ last ys z. Idle last ys) goes h

  fails_by : {fs : List Frame} {c e : ClassId} {last : Option Completed} {xs : List Event} → IsError p e → GoesOn last → At (standing (frame c (Running true) ∷ fs) last) xs → At (after_word fs c (Abrupt e)) (xs ++ event t c (kind.Fails e) ∷ [])
  fails_by {e = e} x on h = ends (ending.Fails e) false (leading.body_is_abrupt p t free (λ d ys z. Outer d ys) (λ last ys z. Idle last ys) goes {y = tt} {u = tt} {z = tt} e e (error_is_throwable p e x) x on tt tt h)

  is_ended_by : {fs : List Frame} {c e : ClassId} {last : Option Completed} {xs : List Event} → given_up last ≡ Some e → At (standing (frame c (Running true) ∷ fs) last) xs → At (after_word fs c (Ended e)) (xs ++ event t c (kind.Fails e) ∷ [])
  is_ended_by {e = e} x h = ends (ending.Fails e) true (leading.body_is_ended p t free (λ d ys z. Outer d ys) (λ last ys z. Idle last ys) goes {y = tt} {z = tt} e x tt h)

  lacks : {fs : List Frame} {c : ClassId} {last : Option Completed} {xs : List Event} → At (standing (frame c (Running false) ∷ fs) last) xs → At (after_word fs c (Ended (built_in p OutOfMemoryError))) (xs ++ event t c (kind.SuperFails (built_in p OutOfMemoryError)) ∷ [])
  lacks h = ends (ending.SuperFails (built_in p OutOfMemoryError)) true (leading.body_is_given_up p t free (λ d ys z. Outer d ys) (λ last ys z. Idle last ys) goes h)

  given_up_at : {fs : List Frame} {c e : ClassId} {w : Bool} {last : Option Completed} {xs : List Event} → IsMachineError p e → At (standing (frame c (Looking w) ∷ fs) last) xs → At (after_word fs c (Ended e)) xs
  given_up_at {e = e} m h = leading.look_is_given_up p t free (λ d ys z. Outer d ys) (λ last ys z. Idle last ys) goes e m h

  -- a step within an open class
  pub within_leads : {a b : Bool} {f : Frame} {fs : List Frame} {last : Option Completed} {e : Event} {s : Standing} {xs : List Event} → Reads p t a (standing (f ∷ fs) last) e b s → At (standing (f ∷ fs) last) xs → At s (xs ++ e ∷ [])
  within_leads (looks l) h = looks_lead l h
  within_leads (need_unanswered {e = e} m) h = ends (ending.SuperFails e) true (given_up_at m h)
  within_leads (body_unanswered m) h = is_ended_by refl (given_up_at m h)
  within_leads runs h = leading.has_run p t free (λ d ys z. Outer d ys) (λ last ys z. Idle last ys) goes {y = tt} {z = tt} tt h
  within_leads lacks_memory h = lacks h
  within_leads (goes_on on g) h = item_leads on g h
  within_leads (completes on) h = ends ending.Completes false (leading.body_is_normal p t free (λ d ys z. Outer d ys) (λ last ys z. Idle last ys) goes {y = tt} {z = tt} on tt h)
  within_leads (fails on x) h = fails_by x on h
  within_leads (is_ended x) h = is_ended_by x h
  within_leads (super_fails {m = m} {e = e}) h = ends (ending.SuperFails e) m h

  -- W holds of what comes where no class is open
  module _ (W : List Event → Type 0) (stop : (last : Option Completed) (xs : List Event) → Idle last xs → W xs) where
    stopped : {last : Option Completed} {xs : List Event} → At (standing [] last) xs → W xs
    stopped (idle i) = stop _ _ i

    whole_at : (phase : Phase) (b : ClassId) (fs : List Frame) (last : Option Completed) (xs : List Event) → MayStop (standing (frame b phase ∷ fs) last) → At (standing (frame b phase ∷ fs) last) xs → W xs
    whole_at (Looking w) b fs last xs may h = stopped (given_up_at (inl refl) (subst (λ gs. At (standing (frame b (Looking w) ∷ gs) last) xs) may h))
    whole_at (Needing rest) b fs last xs may h = absurd may
    whole_at (Running ran) b fs last xs may h = absurd may
    whole_at (EndingBy k m) b fs last xs may h = absurd may

    -- where it may stop it is whole
    pub whole : (frames : List Frame) (last : Option Completed) (xs : List Event) → MayStop (standing frames last) → At (standing frames last) xs → W xs
    whole [] last xs may h = stopped h
    whole (f ∷ fs) last xs may h = whole_at f.phase f.class fs last xs may h

-- a step within an open class isn't one of main's body
stays : {p : LinkedProgram} {t : ℕ} {a b : Bool} {f : Frame} {fs : List Frame} {last : Option Completed} {e : Event} {s : Standing} → Reads p t a (standing (f ∷ fs) last) e b s → b ≡ a
stays (looks l) = refl
stays (need_unanswered m) = refl
stays (body_unanswered m) = refl
stays runs = refl
stays lacks_memory = refl
stays (goes_on on g) = refl
stays (completes on) = refl
stays (fails on x) = refl
stays (is_ended x) = refl
stays super_fails = refl

module _ (p : LinkedProgram) (t : ℕ) (m : ClassId) where
  -- by whether an item of main's body was made
  abbrev LeadsThread : Bool → Standing → List Event → Type 0
  LeadsThread false s xs = LeadsMain p t m s xs
  LeadsThread true s xs = LeadsMainBody p t m s xs

  item_made : {last : Option Completed} {e : Event} {s : Standing} {xs : List Event} → GoesOn last → GoesOnBy p t [] last e s → MainItems p t m last xs → LeadsMainBody p t m s (xs ++ e ∷ [])
  item_made on (requests files l) (main_items x enters i) = looks_lead p t (BeforeItem p t m) (MainItems p t m) (goes_item p t m) l (opened p t (BeforeItem p t m) (MainItems p t m) (goes_item p t m) (outermost (before_item x enters i on files tt)))
  item_made on (uses {k = k} u) (main_items x enters i) = idle (simp append_assoc (main_items {z = tt} x enters (words.uses k u i tt)))
  item_made on (prints {text = text}) (main_items x enters i) = idle (simp append_assoc (main_items {z = tt} x enters (words.prints text i on tt)))

  no_items_yet : {xs : List Event} → ProcedureWord p t m xs Normal → MainItems p t m None xs
  no_items_yet {xs} x = subst (λ ys. MainItems p t m None ys) (append-nil xs) (main_items {v = tt} x tt words.no_items)

  first_leads : (frames : List Frame) (last : Option Completed) (b : Bool) (e : Event) (u : Standing) (xs : List Event) → Reads p t false (standing frames last) e b u → LeadsMain p t m (standing frames last) xs → LeadsThread b u (xs ++ e ∷ [])
  first_leads [] last b e u xs (main_begins g) (idle (main_done x)) = item_made refl g (no_items_yet x)
  first_leads (f ∷ fs) last b e u xs r h = subst (λ d. LeadsThread d u (xs ++ e ∷ [])) (sym (stays r)) (within_leads p t (BeforeMain p t m) (MainDone p t m) (goes_main p t m) r h)

  later_leads : (frames : List Frame) (last : Option Completed) (b : Bool) (e : Event) (u : Standing) (xs : List Event) → Reads p t true (standing frames last) e b u → LeadsMainBody p t m (standing frames last) xs → LeadsThread b u (xs ++ e ∷ [])
  later_leads [] last b e u xs (main_goes_on on g) (idle i) = item_made on g i
  later_leads (f ∷ fs) last b e u xs r h = subst (λ d. LeadsThread d u (xs ++ e ∷ [])) (sym (stays r)) (within_leads p t (BeforeItem p t m) (MainItems p t m) (goes_item p t m) r h)

  step_leads : (a : Bool) {b : Bool} {e : Event} {s u : Standing} (xs : List Event) → Reads p t a s e b u → LeadsThread a s xs → LeadsThread b u (xs ++ e ∷ [])
  step_leads false {b} {e} {s} {u} xs r h = first_leads s.frames s.last b e u xs r h
  step_leads true {b} {e} {s} {u} xs r h = later_leads s.frames s.last b e u xs r h

  all_lead : {a b : Bool} {s u : Standing} {es : List Event} (xs : List Event) → ReadsAll p t a s es b u → LeadsThread a s xs → LeadsThread b u (xs ++ es)
  all_lead xs reading.nothing h = rw append-nil h
  all_lead {a = a} {b} {s} {u} xs (and_then {e = e} {es = es} r k) h = let l : LeadsThread b u ((xs ++ e ∷ []) ++ es) = all_lead (xs ++ e ∷ []) k (step_leads a xs r h) in simp append_assoc at l

  opens : LeadsMain p t m (opening m) []
  opens = looking false (outermost before_first)

  by_result : (r : Outcome) {w : List Event} → ProcedureWord p t m w r → ThreadWord p t m w
  by_result Normal x = thread_word p t m x
  by_result (Abrupt e) x = (Abrupt e, words.threw x)
  by_result (Ended e) x = (Ended e, words.was_ended x)

  -- the thread may stop where no class is open: at the start the request is given up, and main's body may do nothing
  main_stops : (last : Option Completed) (xs : List Event) → MainDone p t m last xs → ThreadWord p t m xs
  main_stops last xs nothing = (Ended (built_in p InternalError), words.was_ended (words.word false (words.gives_up (inl refl))))
  main_stops last xs (main_done {r = r} x) = by_result r x

  body_is_over : (gone : Option ClassId) (last : Option Completed) (items : List Event) → given_up last ≡ gone → Items p t last items → (r : Outcome) × Body p t free tt items r tt
  body_is_over None last items on i = (Normal, words.stops {r = Normal} i on tt tt)
  body_is_over (Some e) last items gone i = (Ended e, body_stops p t free (λ d ys z. BeforeMain p t m d ys) (λ last ys z. MainDone p t m last ys) (goes_main p t m) e gone i tt)

  items_stop : (last : Option Completed) (xs : List Event) → MainItems p t m last xs → ThreadWord p t m xs
  items_stop last xs (main_items {items = items} x enters i) = let b = body_is_over (given_up last) last items refl i in (b.0, words.ran {v = tt} x tt b.1)

  begun : (b : Bool) (s : Standing) (xs : List Event) → LeadsThread b s xs → BeginsMain p t m xs
  begun false s xs h = in_procedure s h
  begun true s xs h = in_body s h

  whole_of : (b : Bool) (s : Standing) (xs : List Event) → MayStop s → LeadsThread b s xs → ThreadWord p t m xs
  whole_of false s xs may h = whole p t (BeforeMain p t m) (MainDone p t m) (goes_main p t m) (ThreadWord p t m) main_stops s.frames s.last xs may h
  whole_of true s xs may h = whole p t (BeforeItem p t m) (MainItems p t m) (goes_item p t m) (ThreadWord p t m) items_stop s.frames s.last xs may h

  -- what is read leads somewhere
  pub begins_main : (xs : List Event) → IsReadAsBeginning p t m xs → BeginsMain p t m xs
  begins_main xs h = begun h.0 h.1 xs (all_lead [] h.2 opens)

  pub is_word : (xs : List Event) → IsReadAsWhole p t m xs → ThreadWord p t m xs
  is_word xs h = whole_of h.0 h.1 xs h.3 (all_lead [] h.2 opens)

-- Each word is read, and so each front of one.
use Rattle.std.proofs.Common.{◌≡◌, ℕ, List, [], ◌∷◌, ◌++◌, Option, Some, None, Bool, true, false, refl, sym, append-nil, append_assoc, inl, inr}
use Rattle.hierarchy.specs.declared.class.ClassId.{ClassId}
use Rattle.hierarchy.specs.declared.built_in.BuiltIn.TheVariants.{OutOfMemoryError, InternalError, VirtualMachineError, Error}
use Rattle.hierarchy.specs.LinkedProgram.{LinkedProgram, built_in}
use Rattle.hierarchy.specs.Subclasses.{IsError, itself, below, is_built_in}
use Rattle.init_core.specs.Needs.{needs}
use Rattle.init_core.specs.declared.event.Event.{Event}
use Rattle.init_core.specs.declared.event.Kind.{Kind}
use Rattle.init_core.specs.declared.event.Kind.TheVariants as kind
use Rattle.init_core.specs.declared.frames.Completed.{Completed}
use Rattle.init_core.specs.declared.frames.Frame.{Frame}
use Rattle.init_core.specs.declared.frames.Outcome.{Outcome}
use Rattle.init_core.specs.declared.frames.Outcome.TheVariants.{Normal, Abrupt, Ended}
use Rattle.init_core.specs.declared.frames.Phase.{Phase}
use Rattle.init_core.specs.declared.frames.Phase.TheVariants.{Looking, Needing, Running, EndingBy}
use Rattle.init_core.specs.Decisions.{event}
use Rattle.init_core.specs.ProcedureWord as words
use Rattle.init_core.specs.ProcedureWord.{Maker, Word, AfterWait, Begun, ItemsOf, ThreadWordOf, ThreadWord, completed, GoesOn, IsMachineError}
use Rattle.init_core.specs.Standing.{Standing}
use Rattle.init_core.specs.Leads.{frame, standing}
use Rattle.init_core.specs.Advance.{after_needs, after_word, after_in, MayRequest}
use Rattle.judge.specs.Reading.{Looks, waits, recurs, finds_initialized, finds_erroneous, begins, GoesOnBy, requests, uses, prints, Reads, looks, need_unanswered, body_unanswered, runs, lacks_memory, goes_on, completes, fails, is_ended, super_fails, main_begins, main_goes_on, ReadsAll, nothing, and_then, opening, MayStop, IsReadAsBeginning, IsReadAsWhole}

-- the machine's errors are errors
pub machine_is_error : (p : LinkedProgram) (e : ClassId) → IsMachineError p e → IsError p e
machine_is_error p e (inl q) = rw q (below (is_built_in InternalError VirtualMachineError refl) (below (is_built_in VirtualMachineError Error refl) itself))
machine_is_error p e (inr q) = rw q (below (is_built_in OutOfMemoryError VirtualMachineError refl) (below (is_built_in VirtualMachineError Error refl) itself))

-- where the reading of a procedure for c with this result may come to, from a standing before it: where the machine ended
-- it its request may be open still, or not read at all, or it is read as completed, ended or abrupt
pub data After (p : LinkedProgram) (c : ClassId) (fs : List Frame) (a : Bool) (from : Standing) (b : Bool) : Outcome → Bool → Standing → Type 0 where
  normal : After p c fs a from b Normal b (after_word fs c Normal)
  abrupt : {e : ClassId} → After p c fs a from b (Abrupt e) b (after_word fs c (Abrupt e))
  unread : {e : ClassId} → IsMachineError p e → After p c fs a from b (Ended e) a from
  is_open : {e : ClassId} → IsMachineError p e → After p c fs a from b (Ended e) b (standing (frame c (Looking true) ∷ fs) None)
  as_ended : {e : ClassId} → After p c fs a from b (Ended e) b (after_word fs c (Ended e))
  as_abrupt : {e : ClassId} → IsMachineError p e → After p c fs a from b (Ended e) b (after_word fs c (Abrupt e))

-- the same for the items of a body
pub data AfterItems (p : LinkedProgram) (frames : List Frame) (a : Bool) (from : Standing) (b : Bool) : Option Completed → Bool → Standing → Type 0 where
  at_start : AfterItems p frames a from b None a from
  at_item : {last : Option Completed} → GoesOn last → AfterItems p frames a from b last b (standing frames last)
  unread_first : {c e : ClassId} → IsMachineError p e → AfterItems p frames a from b (Some (completed c (Ended e))) a from
  unread_next : {last : Option Completed} {c e : ClassId} → GoesOn last → IsMachineError p e → AfterItems p frames a from b (Some (completed c (Ended e))) b (standing frames last)
  item_open : {c e : ClassId} → IsMachineError p e → AfterItems p frames a from b (Some (completed c (Ended e))) b (standing (frame c (Looking true) ∷ frames) None)
  item_ended : {c e : ClassId} → AfterItems p frames a from b (Some (completed c (Ended e))) b (standing frames (Some (completed c (Ended e))))
  item_abrupt : {c e : ClassId} → IsMachineError p e → AfterItems p frames a from b (Some (completed c (Ended e))) b (standing frames (Some (completed c (Abrupt e))))

-- the list is read, to a standing of which this is so
pub data Read (p : LinkedProgram) (t : ℕ) (a : Bool) (from : Standing) (xs : List Event) (P : Bool → Standing → Type 0) : Type 0 where
  read : {b : Bool} {s : Standing} → ReadsAll p t a from xs b s → P b s → Read p t a from xs P

module _ (p : LinkedProgram) (t : ℕ) where
  pub then_reads : {a b c : Bool} {s u v : Standing} {xs ys : List Event} → ReadsAll p t a s xs b u → ReadsAll p t b u ys c v → ReadsAll p t a s (xs ++ ys) c v
  then_reads nothing k = k
  then_reads (and_then x h) k = and_then x (then_reads h k)

  pub read_last : {a b c : Bool} {s u v : Standing} {xs : List Event} {e : Event} → ReadsAll p t a s xs b u → Reads p t b u e c v → ReadsAll p t a s (xs ++ e ∷ []) c v
  read_last h x = then_reads h (and_then x nothing)

  -- a request in which a look does this
  abbrev Starts : List Frame → Bool → ClassId → Bool → Standing → Bool → Type 0
  Starts fs w c a from b = (k : Kind) (s : Standing) → Looks p fs w c k s → Reads p t a from (event t c k) b s

  from_look : (fs : List Frame) (last : Option Completed) (w : Bool) (c : ClassId) (b : Bool) → Starts fs w c b (standing (frame c (Looking w) ∷ fs) last) b
  from_look fs last w c b k s l = looks l

  -- a wait first
  waited : {c : ClassId} {fs : List Frame} {a b d : Bool} {from s : Standing} {r : Outcome} → After p c fs b (standing (frame c (Looking true) ∷ fs) None) b r d s → After p c fs a from b r d s
  waited normal = normal
  waited abrupt = abrupt
  waited (unread m) = is_open m
  waited (is_open m) = is_open m
  waited as_ended = as_ended
  waited (as_abrupt m) = as_abrupt m

  after_wait : {c : ClassId} {fs : List Frame} {a b : Bool} {from : Standing} {r : Outcome} {xs : List Event} → Reads p t a from (event t c kind.Waits) b (standing (frame c (Looking true) ∷ fs) None) →
      Read p t b (standing (frame c (Looking true) ∷ fs) None) xs (After p c fs b (standing (frame c (Looking true) ∷ fs) None) b r) → Read p t a from (event t c kind.Waits ∷ xs) (After p c fs a from b r)
  after_wait x (read h k) = read (and_then x h) (waited k)

  -- step 7 after a needed class
  need_failed : {c d e : ClassId} {fs : List Frame} {rest : List ClassId} {a b : Bool} {from : Standing} {before w : List Event} → ReadsAll p t a from before b (standing (frame d (Looking false) ∷ (frame c (Needing rest) ∷ fs)) None) →
      Read p t b (standing (frame d (Looking false) ∷ (frame c (Needing rest) ∷ fs)) None) w (After p d (frame c (Needing rest) ∷ fs) b (standing (frame d (Looking false) ∷ (frame c (Needing rest) ∷ fs)) None) b (Abrupt e)) →
      Read p t a from (before ++ (w ++ event t c (kind.SuperFails e) ∷ [])) (After p c fs a from b (Abrupt e))
  need_failed g (read h abrupt) = read (then_reads g (read_last h super_fails)) abrupt

  need_ended : {c d e : ClassId} {fs : List Frame} {rest : List ClassId} {a b : Bool} {from : Standing} {before w : List Event} → ReadsAll p t a from before b (standing (frame d (Looking false) ∷ (frame c (Needing rest) ∷ fs)) None) →
      Read p t b (standing (frame d (Looking false) ∷ (frame c (Needing rest) ∷ fs)) None) w (After p d (frame c (Needing rest) ∷ fs) b (standing (frame d (Looking false) ∷ (frame c (Needing rest) ∷ fs)) None) b (Ended e)) →
      Read p t a from (before ++ (w ++ event t c (kind.SuperFails e) ∷ [])) (After p c fs a from b (Ended e))
  need_ended g (read h (unread m)) = read (then_reads g (read_last h (need_unanswered m))) as_ended
  need_ended g (read h (is_open m)) = read (then_reads g (read_last h (need_unanswered m))) as_ended
  need_ended g (read h as_ended) = read (then_reads g (read_last h super_fails)) as_ended
  need_ended g (read h (as_abrupt m)) = read (then_reads g (read_last h super_fails)) (as_abrupt m)

  -- where the next needed class comes
  next_need : {c d : ClassId} {fs : List Frame} {rest : List ClassId} {a b : Bool} {from : Standing} {before w : List Event} → ReadsAll p t a from before b (standing (frame d (Looking false) ∷ (frame c (Needing rest) ∷ fs)) None) →
      Read p t b (standing (frame d (Looking false) ∷ (frame c (Needing rest) ∷ fs)) None) w (After p d (frame c (Needing rest) ∷ fs) b (standing (frame d (Looking false) ∷ (frame c (Needing rest) ∷ fs)) None) b Normal) →
      ReadsAll p t a from (before ++ w) b (after_needs c rest fs)
  next_need g (read h normal) = then_reads g h

  -- out of memory before step 9
  short : {c : ClassId} (others : List ClassId) {fs : List Frame} {a b : Bool} {from : Standing} {before : List Event} → ReadsAll p t a from before b (after_needs c others fs) →
      Read p t a from (before ++ event t c (kind.SuperFails (built_in p OutOfMemoryError)) ∷ []) (After p c fs a from b (Ended (built_in p OutOfMemoryError)))
  short [] g = read (read_last g lacks_memory) as_ended
  short (d ∷ rest) g = read (read_last g (need_unanswered (inr refl))) as_ended

  by_phase : (phase : Phase) (b : ClassId) (fs : List Frame) (c : ClassId) (r : Outcome) → MayRequest (frame b phase ∷ fs) → after_in phase b fs c r ≡ standing (frame b phase ∷ fs) (Some (completed c r))
  by_phase (Running true) b fs c r h = refl
  by_phase (Running false) b fs c r h = absurd h
  by_phase (Looking w) b fs c r h = absurd h
  by_phase (Needing rest) b fs c r h = absurd h
  by_phase (EndingBy k m) b fs c r h = absurd h

  at_body : (frames : List Frame) (c : ClassId) (r : Outcome) → MayRequest frames → after_word frames c r ≡ standing frames (Some (completed c r))
  at_body [] c r h = refl
  at_body (f ∷ fs) c r h = by_phase f.phase f.class fs c r h

  abbrev in_body : ClassId → List Frame → Standing
  in_body c fs = standing (frame c (Running true) ∷ fs) None

  -- step 10
  body_completes : {c : ClassId} {fs : List Frame} {last : Option Completed} {a b : Bool} {from : Standing} {before items : List Event} → GoesOn last → ReadsAll p t a from before b (standing (frame c (Running false) ∷ fs) None) →
      Read p t b (in_body c fs) items (AfterItems p (frame c (Running true) ∷ fs) b (in_body c fs) b last) →
      Read p t a from (before ++ event t c kind.Runs ∷ (items ++ event t c kind.Completes ∷ [])) (After p c fs a from b Normal)
  body_completes on g (read h at_start) = read (then_reads g (and_then runs (read_last h (completes refl)))) normal
  body_completes on g (read h (at_item o)) = read (then_reads g (and_then runs (read_last h (completes o)))) normal
  body_completes on g (read h (unread_first m)) = cc
  body_completes on g (read h (unread_next o m)) = cc
  body_completes on g (read h (item_open m)) = cc
  body_completes on g (read h item_ended) = cc
  body_completes on g (read h (item_abrupt m)) = cc

  -- step 12
  body_fails : {c e : ClassId} {fs : List Frame} {last : Option Completed} {a b : Bool} {from : Standing} {before items : List Event} → IsError p e → GoesOn last → ReadsAll p t a from before b (standing (frame c (Running false) ∷ fs) None) →
      Read p t b (in_body c fs) items (AfterItems p (frame c (Running true) ∷ fs) b (in_body c fs) b last) →
      ReadsAll p t a from (before ++ event t c kind.Runs ∷ (items ++ event t c (kind.Fails e) ∷ [])) b (after_word fs c (Abrupt e))
  body_fails x on g (read h at_start) = then_reads g (and_then runs (read_last h (fails refl x)))
  body_fails x on g (read h (at_item o)) = then_reads g (and_then runs (read_last h (fails o x)))
  body_fails x on g (read h (unread_first m)) = cc
  body_fails x on g (read h (unread_next o m)) = cc
  body_fails x on g (read h (item_open m)) = cc
  body_fails x on g (read h item_ended) = cc
  body_fails x on g (read h (item_abrupt m)) = cc

  -- the same after a request that the machine ended
  body_was_ended : {c d e : ClassId} {fs : List Frame} {a b : Bool} {from : Standing} {before items : List Event} → ReadsAll p t a from before b (standing (frame c (Running false) ∷ fs) None) →
      Read p t b (in_body c fs) items (AfterItems p (frame c (Running true) ∷ fs) b (in_body c fs) b (Some (completed d (Ended e)))) →
      Read p t a from (before ++ event t c kind.Runs ∷ (items ++ event t c (kind.Fails e) ∷ [])) (After p c fs a from b (Ended e))
  body_was_ended g (read h (at_item o)) = cc
  body_was_ended g (read h (unread_first m)) = read (then_reads g (and_then runs (read_last h (fails refl (machine_is_error p _ m))))) (as_abrupt m)
  body_was_ended g (read h (unread_next o m)) = read (then_reads g (and_then runs (read_last h (fails o (machine_is_error p _ m))))) (as_abrupt m)
  body_was_ended g (read h (item_open m)) = read (then_reads g (and_then runs (read_last h (body_unanswered m)))) as_ended
  body_was_ended g (read h item_ended) = read (then_reads g (and_then runs (read_last h (is_ended refl)))) as_ended
  body_was_ended g (read h (item_abrupt m)) = read (then_reads g (and_then runs (read_last h (fails refl (machine_is_error p _ m))))) (as_abrupt m)

  -- the first item of a body, and a further one
  abbrev FirstItem : List Frame → Bool → Standing → Bool → Type 0
  FirstItem frames a from b = (e : Event) (s : Standing) → GoesOnBy p t frames None e s → Reads p t a from e b s

  abbrev NextItem : List Frame → Bool → Type 0
  NextItem frames b = (last : Option Completed) (e : Event) (s : Standing) → GoesOn last → GoesOnBy p t frames last e s → Reads p t b (standing frames last) e b s

  item_used : {frames : List Frame} {a b : Bool} {from : Standing} {c : ClassId} (k : Kind) {xs : List Event} → NextItem frames b → words.IsUse k → Read p t a from xs (AfterItems p frames a from b (Some (completed c Normal))) → Read p t a from (xs ++ event t c k ∷ []) (AfterItems p frames a from b None)
  item_used k next u (read h (at_item o)) = read (read_last h (next _ _ _ o (uses u))) (at_item refl)

  item_printed : {frames : List Frame} {a b : Bool} {from : Standing} {last : Option Completed} (text : List ℕ) {xs : List Event} → FirstItem frames a from b → NextItem frames b → GoesOn last → Read p t a from xs (AfterItems p frames a from b last) → Read p t a from (xs ++ words.printed t text ∷ []) (AfterItems p frames a from b None)
  item_printed text first next on (read h at_start) = read (read_last h (first _ _ prints)) (at_item refl)
  item_printed text first next on (read h (at_item o)) = read (read_last h (next _ _ _ o prints)) (at_item refl)
  item_printed text first next on (read h (unread_first m)) = cc
  item_printed text first next on (read h (unread_next o m)) = cc
  item_printed text first next on (read h (item_open m)) = cc
  item_printed text first next on (read h item_ended) = cc
  item_printed text first next on (read h (item_abrupt m)) = cc

  first_word : {frames : List Frame} {a b d : Bool} {from s : Standing} {c : ClassId} {r : Outcome} → MayRequest frames → After p c frames a from b r d s → AfterItems p frames a from b (Some (completed c r)) d s
  first_word {frames} {c = c} h normal = rw (at_body frames c Normal h) (at_item refl)
  first_word {frames} {c = c} h (abrupt {e = e}) = rw (at_body frames c (Abrupt e) h) (at_item refl)
  first_word h (unread m) = unread_first m
  first_word h (is_open m) = item_open m
  first_word {frames} {c = c} h (as_ended {e = e}) = rw (at_body frames c (Ended e) h) item_ended
  first_word {frames} {c = c} h (as_abrupt {e = e} m) = rw (at_body frames c (Abrupt e) h) (item_abrupt m)

  next_word : {frames : List Frame} {last : Option Completed} {a b d : Bool} {from s : Standing} {c : ClassId} {r : Outcome} → MayRequest frames → GoesOn last → After p c frames b (standing frames last) b r d s → AfterItems p frames a from b (Some (completed c r)) d s
  next_word {frames} {c = c} h o normal = rw (at_body frames c Normal h) (at_item refl)
  next_word {frames} {c = c} h o (abrupt {e = e}) = rw (at_body frames c (Abrupt e) h) (at_item refl)
  next_word h o (unread m) = unread_next o m
  next_word h o (is_open m) = item_open m
  next_word {frames} {c = c} h o (as_ended {e = e}) = rw (at_body frames c (Ended e) h) item_ended
  next_word {frames} {c = c} h o (as_abrupt {e = e} m) = rw (at_body frames c (Abrupt e) h) (item_abrupt m)

  read_on : {a d : Bool} {from s : Standing} {xs w : List Event} {P Q : Bool → Standing → Type 0} → ReadsAll p t a from xs d s → ((b : Bool) (u : Standing) → P b u → Q b u) → Read p t d s w P → Read p t a from (xs ++ w) Q
  read_on h f (read k x) = read (then_reads h k) (f _ _ x)

  item_requested : {frames : List Frame} {a b : Bool} {from : Standing} {last : Option Completed} {c : ClassId} {r : Outcome} {xs w : List Event} → MayRequest frames → FirstItem frames a from b → NextItem frames b → GoesOn last → words.IsOfFiles p c →
      ((d : Bool) (s : Standing) → Starts frames false c d s b → Read p t d s w (After p c frames d s b r)) →
      Read p t a from xs (AfterItems p frames a from b last) → Read p t a from (xs ++ w) (AfterItems p frames a from b (Some (completed c r)))
  item_requested body first next on files k (read h at_start) = read_on h (λ d s x. first_word body x) (k _ _ (λ k s l. first _ _ (requests files l)))
  item_requested body first next on files k (read h (at_item o)) = read_on h (λ d s x. next_word body o x) (k _ _ (λ k s l. next _ _ _ o (requests files l)))
  item_requested body first next on files k (read h (unread_first m)) = cc
  item_requested body first next on files k (read h (unread_next o m)) = cc
  item_requested body first next on files k (read h (item_open m)) = cc
  item_requested body first next on files k (read h item_ended) = cc
  item_requested body first next on files k (read h (item_abrupt m)) = cc

  as_normal : {c : ClassId} {fs : List Frame} {a b : Bool} {from : Standing} {xs : List Event} {e : ClassId} → IsMachineError p e → ReadsAll p t a from xs b (after_word fs c (Abrupt e)) → Read p t a from xs (After p c fs a from b (Ended e))
  as_normal m h = read h (as_abrupt m)

  mutual
    pub word_reads : {M : Maker} {y z : M.State} {c : ClassId} {w : List Event} {r : Outcome} → Word p t M y c w r z → (fs : List Frame) (a : Bool) (from : Standing) (b : Bool) → Starts fs false c a from b → Read p t a from w (After p c fs a from b r)
    word_reads {c = c} (words.word true x) fs a from b start = after_wait (start kind.Waits (standing (frame c (Looking true) ∷ fs) None) waits) (rest_reads x true fs b (standing (frame c (Looking true) ∷ fs) None) b (from_look fs None true c b))
    word_reads (words.word false x) fs a from b start = rest_reads x false fs a from b start

    rest_reads : {M : Maker} {y z : M.State} {c : ClassId} {w : List Event} {r : Outcome} → AfterWait p t M y c w r z → (looked : Bool) (fs : List Frame) (a : Bool) (from : Standing) (b : Bool) → Starts fs looked c a from b → Read p t a from w (After p c fs a from b r)
    rest_reads words.recurs looked fs a from b start = read (and_then (start _ _ recurs) nothing) normal
    rest_reads words.finds_initialized looked fs a from b start = read (and_then (start _ _ finds_initialized) nothing) normal
    rest_reads words.finds_erroneous looked fs a from b start = read (and_then (start _ _ finds_erroneous) nothing) abrupt
    rest_reads (words.gives_up m) looked fs a from b start = read nothing (unread m)
    rest_reads (words.completes {c = c} g st (words.stops i on h made)) looked fs a from b start =
        body_completes on (begun_reads g [] (sym (append-nil (needs p c))) looked fs a from b start) (items_read i (frame c (Running true) ∷ fs) b (in_body c fs) b tt (λ e s x. goes_on refl x) (λ last e s o x. goes_on o x))
    rest_reads (words.fails {c = c} g st (words.stops i on h made) replaced x) looked fs a from b start =
        read (body_fails x on (begun_reads g [] (sym (append-nil (needs p c))) looked fs a from b start) (items_read i (frame c (Running true) ∷ fs) b (in_body c fs) b tt (λ e s x. goes_on refl x) (λ last e s o x. goes_on o x))) abrupt
    rest_reads (words.is_ended {c = c} g st (words.stops i on m made)) looked fs a from b start =
        as_normal m (body_fails (machine_is_error p _ m) on (begun_reads g [] (sym (append-nil (needs p c))) looked fs a from b start) (items_read i (frame c (Running true) ∷ fs) b (in_body c fs) b tt (λ e s x. goes_on refl x) (λ last e s o x. goes_on o x)))
    rest_reads (words.is_ended {c = c} g st (words.stops_ended i made)) looked fs a from b start =
        body_was_ended (begun_reads g [] (sym (append-nil (needs p c))) looked fs a from b start) (items_read i (frame c (Running true) ∷ fs) b (in_body c fs) b tt (λ e s x. goes_on refl x) (λ last e s o x. goes_on o x))
    rest_reads (words.need_fails {c = c} {next = d} others q g x) looked fs a from b start =
        need_failed (begun_reads g (d ∷ others) q looked fs a from b start) (word_reads x (frame c (Needing others) ∷ fs) b (standing (frame d (Looking false) ∷ (frame c (Needing others) ∷ fs)) None) b (from_look (frame c (Needing others) ∷ fs) None false d b))
    rest_reads (words.need_is_ended {c = c} {next = d} others q g x) looked fs a from b start =
        need_ended (begun_reads g (d ∷ others) q looked fs a from b start) (word_reads x (frame c (Needing others) ∷ fs) b (standing (frame d (Looking false) ∷ (frame c (Needing others) ∷ fs)) None) b (from_look (frame c (Needing others) ∷ fs) None false d b))
    rest_reads (words.lacks_memory others q g) looked fs a from b start = short others (begun_reads g others q looked fs a from b start)

    begun_reads : {M : Maker} {y z : M.State} {c : ClassId} {first : List ClassId} {w : List Event} → Begun p t M y c first w z → (rest : List ClassId) → needs p c ≡ first ++ rest → (looked : Bool) (fs : List Frame) (a : Bool) (from : Standing) (b : Bool) → Starts fs looked c a from b → ReadsAll p t a from w b (after_needs c rest fs)
    begun_reads {c = c} words.begins rest q looked fs a from b start = and_then (start _ _ begins) (rw q nothing)
    begun_reads (words.and_then {c = c} {next = d} g x) rest q looked fs a from b start =
        next_need (begun_reads g (d ∷ rest) (simp append_assoc at q) looked fs a from b start) (word_reads x (frame c (Needing rest) ∷ fs) b (standing (frame d (Looking false) ∷ (frame c (Needing rest) ∷ fs)) None) b (from_look (frame c (Needing rest) ∷ fs) None false d b))

    pub items_read : {M : Maker} {y z : M.State} {last : Option Completed} {xs : List Event} → ItemsOf p t M y last xs z → (frames : List Frame) (a : Bool) (from : Standing) (b : Bool) → MayRequest frames → FirstItem frames a from b → NextItem frames b → Read p t a from xs (AfterItems p frames a from b last)
    items_read words.no_items frames a from b body first next = read nothing at_start
    items_read (words.requests i on files made x) frames a from b body first next = item_requested body first next on files (λ d s start. word_reads x frames d s b start) (items_read i frames a from b body first next)
    items_read (words.uses k u i made) frames a from b body first next = item_used k next u (items_read i frames a from b body first next)
    items_read (words.prints text i on made) frames a from b body first next = item_printed text first next on (items_read i frames a from b body first next)

  -- the whole word of a thread
  after_main : {m : ClassId} {r : Outcome} {xs : List Event} → Read p t false (opening m) xs (After p m [] false (opening m) false r) → Read p t false (opening m) xs (λ b s. MayStop s)
  after_main (read h normal) = read h tt
  after_main (read h abrupt) = read h tt
  after_main (read h (unread m)) = read h refl
  after_main (read h (is_open m)) = read h refl
  after_main (read h as_ended) = read h tt
  after_main (read h (as_abrupt m)) = read h tt

  may_stop : {last : Option Completed} (m : ClassId) (b : Bool) (s : Standing) → AfterItems p [] false (standing [] (Some (completed m Normal))) true last b s → MayStop s
  may_stop m b s at_start = tt
  may_stop m b s (at_item o) = tt
  may_stop m b s (unread_first e) = tt
  may_stop m b s (unread_next o e) = tt
  may_stop m b s (item_open e) = refl
  may_stop m b s item_ended = tt
  may_stop m b s (item_abrupt e) = tt

  main_body : {M : Maker} {y z : M.State} {last : Option Completed} {m : ClassId} {w xs : List Event} → Read p t false (opening m) w (After p m [] false (opening m) false Normal) → ItemsOf p t M y last xs z → Read p t false (opening m) (w ++ xs) (λ b s. MayStop s)
  main_body {m = m} (read h normal) i = read_on h (may_stop m) (items_read i [] false (standing [] (Some (completed m Normal))) true tt (λ e s x. main_begins x) (λ last e s o x. main_goes_on o x))

  main_read : {M : Maker} {y z : M.State} {m : ClassId} {w : List Event} {r : Outcome} → Word p t M y m w r z → Read p t false (opening m) w (After p m [] false (opening m) false r)
  main_read {m = m} x = word_reads x [] false (opening m) false (from_look [] None false m false)

  thread_reads : {M : Maker} {y z : M.State} {m : ClassId} {xs : List Event} {r : Outcome} → ThreadWordOf p t M y m xs r z → Read p t false (opening m) xs (λ b s. MayStop s)
  thread_reads (words.ran x enters (words.stops i on h made)) = main_body (main_read x) i
  thread_reads (words.ran x enters (words.stops_ended i made)) = main_body (main_read x) i
  thread_reads (words.threw x) = after_main (main_read x)
  thread_reads (words.was_ended x) = after_main (main_read x)

  whole_of : {m : ClassId} {xs : List Event} → Read p t false (opening m) xs (λ b s. MayStop s) → IsReadAsWhole p t m xs
  whole_of (read h x) = (_, _, h, x)

  pub wholes : (m : ClassId) (xs : List Event) → ThreadWord p t m xs → IsReadAsWhole p t m xs
  wholes m xs x = whole_of (thread_reads x.1)

  front_of : {a b : Bool} {s u : Standing} (xs ys : List Event) → ReadsAll p t a s (xs ++ ys) b u → (c : Bool) × (v : Standing) × ReadsAll p t a s xs c v
  front_of [] ys h = (_, _, nothing)
  front_of (x ∷ xs) ys (and_then e h) = let k = front_of xs ys h in (k.0, k.1, and_then e k.2)

  pub fronts : (m : ClassId) (xs ys : List Event) → ThreadWord p t m (xs ++ ys) → IsReadAsBeginning p t m xs
  fronts m xs ys x = let k = wholes m (xs ++ ys) x in front_of xs ys k.2

-- The procedure of JLS SE 8 12.4.2 and JVMS SE 8 5.5 as words: which lists of one thread's events do the procedure
-- for a class, with which result. A body is what an initializer, or main, does.
use Rattle.std.specs.Prelude.{◌≡◌, ◌⊎◌, ℕ, ◌<◌, length, List, [], ◌∷◌, ◌++◌, Option, Some, None, Bool, true, false}
use Rattle.hierarchy.specs.declared.class.ClassId.{ClassId}
use Rattle.hierarchy.specs.declared.built_in.BuiltIn.TheVariants.{NoClassDefFoundError, InternalError, OutOfMemoryError}
use Rattle.hierarchy.specs.LinkedProgram.{LinkedProgram, built_in}
use Rattle.hierarchy.specs.Subclasses.{IsError, IsThrowable}
use Rattle.init_core.specs.Needs.{needs}
use Rattle.init_core.specs.declared.event.Event.{Event}
use Rattle.init_core.specs.declared.event.Kind.{Kind}
use Rattle.init_core.specs.declared.event.Kind.TheVariants as kind
use Rattle.init_core.specs.declared.frames.Completed.{Completed}
use Rattle.init_core.specs.declared.frames.Outcome.{Outcome}
use Rattle.init_core.specs.declared.frames.Outcome.TheVariants.{Normal, Abrupt, Ended}
use Rattle.init_core.specs.Decisions.{event}

-- a class or interface of the files
abbrev pub IsOfFiles : LinkedProgram → ClassId → Type 0
IsOfFiles p c = c.number < length p.classes

-- an error by which the machine itself ends a thread
abbrev pub IsMachineError : LinkedProgram → ClassId → Type 0
IsMachineError p e = (e ≡ built_in p InternalError) ⊎ (e ≡ built_in p OutOfMemoryError)

-- a read or a write of a static field
abbrev pub IsUse : Kind → Type 0
IsUse (kind.Gets field value) = Unit {0}
IsUse (kind.Puts field value) = Unit {0}
IsUse _ = ⊥

-- a print of t
abbrev pub printed : ℕ → List ℕ → Event
printed t text = record { thread = t; class = None; kind = kind.Prints text }

-- a wait of t at c, or nothing
abbrev pub wait : ℕ → ClassId → Bool → List Event
wait t c true = event t c kind.Waits ∷ []
wait t c false = []

-- a procedure that is completed: of which class, and with which result
abbrev pub completed : ClassId → Outcome → Completed
completed c r = record { class = c; outcome = r }

-- the error of a procedure that the machine ended
abbrev pub ended_by : Outcome → Option ClassId
ended_by (Ended e) = Some e
ended_by _ = None

-- the error of the thread that is being ended, by what it completed last
abbrev pub given_up : Option Completed → Option ClassId
given_up None = None
given_up (Some d) = ended_by d.outcome

-- the thread goes on: it isn't being ended
abbrev pub GoesOn : Option Completed → Type 0
GoesOn last = given_up last ≡ None

-- how a body may stop of itself: by returning, by a throwable, or ended by the machine
abbrev pub IsStop : LinkedProgram → Outcome → Type 0
IsStop p Normal = Unit {0}
IsStop p (Abrupt e) = IsThrowable p e
IsStop p (Ended e) = IsMachineError p e

-- What makes bodies: its states, and its steps from one to the next. A step represents all that is run up to it without
-- an event. An active use, a print and an end are given the procedure that was completed last, if nothing was done since.
pub record Maker : Type 1 where
  pub State : Type 0
  -- the initializer of a class begins
  pub starts : State → ClassId → State → Type 0
  -- the method main of a class begins
  pub enters : State → ClassId → State → Type 0
  -- a body asks for an active use of a class
  pub asks : State → Option Completed → ClassId → State → Type 0
  -- directly after the procedure for a class a body reads or writes a static field of it
  pub uses : State → ClassId → Kind → State → Type 0
  -- a body prints a text
  pub prints : State → Option Completed → List ℕ → State → Type 0
  -- the body ends with this result
  pub stops : State → Option Completed → Outcome → State → Type 0
  -- step 11: the throwable of this class is replaced by one of that
  pub replaces : State → ClassId → ClassId → State → Type 0

mutual
  -- the procedure for c by t, and its result: at most one step 2 first
  pub data Word (p : LinkedProgram) (t : ℕ) (M : Maker) : M.State → ClassId → List Event → Outcome → M.State → Type 0 where
    word : {s z : M.State} {c : ClassId} {rest : List Event} {r : Outcome} (waited : Bool) → AfterWait p t M s c rest r z → Word p t M s c (wait t c waited ++ rest) r z

  -- what follows the step 2
  pub data AfterWait (p : LinkedProgram) (t : ℕ) (M : Maker) : M.State → ClassId → List Event → Outcome → M.State → Type 0 where
    -- step 3, or step 4
    recurs : {s : M.State} {c : ClassId} → AfterWait p t M s c (event t c kind.Recurs ∷ []) Normal s
    finds_initialized : {s : M.State} {c : ClassId} → AfterWait p t M s c (event t c kind.FindsInitialized ∷ []) Normal s
    -- step 5
    finds_erroneous : {s : M.State} {c : ClassId} → AfterWait p t M s c (event t c kind.FindsErroneous ∷ []) (Abrupt (built_in p NoClassDefFoundError)) s
    -- the request is given up
    gives_up : {s : M.State} {c : ClassId} {e : ClassId} → IsMachineError p e → AfterWait p t M s c [] (Ended e) s
    -- steps 6, 7, 9, 10
    completes : {s u v z : M.State} {c : ClassId} {begun body : List Event} → Begun p t M s c (needs p c) begun u → M.starts u c v → Body p t M v body Normal z →
        AfterWait p t M s c (begun ++ event t c kind.Runs ∷ (body ++ event t c kind.Completes ∷ [])) Normal z
    -- steps 6, 7, 9, 11, 12: the body throws, and step 11 leaves an error
    fails : {s u v y z : M.State} {c : ClassId} {begun body : List Event} {thrown e : ClassId} → Begun p t M s c (needs p c) begun u → M.starts u c v → Body p t M v body (Abrupt thrown) y → M.replaces y thrown e z → IsError p e →
        AfterWait p t M s c (begun ++ event t c kind.Runs ∷ (body ++ event t c (kind.Fails e) ∷ [])) (Abrupt e) z
    -- the same where the machine ended the body
    is_ended : {s u v z : M.State} {c : ClassId} {begun body : List Event} {e : ClassId} → Begun p t M s c (needs p c) begun u → M.starts u c v → Body p t M v body (Ended e) z →
        AfterWait p t M s c (begun ++ event t c kind.Runs ∷ (body ++ event t c (kind.Fails e) ∷ [])) (Ended e) z
    -- steps 6, 7 where the procedure for a needed class completes abruptly
    need_fails : {s u z : M.State} {c next : ClassId} {first : List ClassId} (others : List ClassId) {begun w : List Event} {e : ClassId} →
        needs p c ≡ first ++ next ∷ others → Begun p t M s c first begun u → Word p t M u next w (Abrupt e) z →
        AfterWait p t M s c (begun ++ (w ++ event t c (kind.SuperFails e) ∷ [])) (Abrupt e) z
    -- the same where the machine ended it
    need_is_ended : {s u z : M.State} {c next : ClassId} {first : List ClassId} (others : List ClassId) {begun w : List Event} {e : ClassId} →
        needs p c ≡ first ++ next ∷ others → Begun p t M s c first begun u → Word p t M u next w (Ended e) z →
        AfterWait p t M s c (begun ++ (w ++ event t c (kind.SuperFails e) ∷ [])) (Ended e) z
    -- step 6, and then memory runs out before step 9
    lacks_memory : {s u : M.State} {c : ClassId} {first : List ClassId} (others : List ClassId) {begun : List Event} →
        needs p c ≡ first ++ others → Begun p t M s c first begun u →
        AfterWait p t M s c (begun ++ event t c (kind.SuperFails (built_in p OutOfMemoryError)) ∷ []) (Ended (built_in p OutOfMemoryError)) u

  -- step 6 of c, and the procedures for these classes in order, each normal
  pub data Begun (p : LinkedProgram) (t : ℕ) (M : Maker) : M.State → ClassId → List ClassId → List Event → M.State → Type 0 where
    begins : {s : M.State} {c : ClassId} → Begun p t M s c [] (event t c kind.Begins ∷ []) s
    and_then : {s u z : M.State} {c next : ClassId} {first : List ClassId} {begun w : List Event} → Begun p t M s c first begun u → Word p t M u next w Normal z → Begun p t M s c (first ++ next ∷ []) (begun ++ w) z

  -- The items of a body so far: active uses of classes, reads and writes of statics, prints. A read or a write
  -- comes directly after the procedure for the field's class. The index is the procedure completed last,
  -- with nothing after it.
  pub data ItemsOf (p : LinkedProgram) (t : ℕ) (M : Maker) : M.State → Option Completed → List Event → M.State → Type 0 where
    no_items : {s : M.State} → ItemsOf p t M s None [] s
    requests : {s u v z : M.State} {last : Option Completed} {items events : List Event} {c : ClassId} {r : Outcome} → ItemsOf p t M s last items u → GoesOn last → IsOfFiles p c → M.asks u last c v → Word p t M v c events r z → ItemsOf p t M s (Some (completed c r)) (items ++ events) z
    uses : {s u z : M.State} {items : List Event} {c : ClassId} (k : Kind) → IsUse k → ItemsOf p t M s (Some (completed c Normal)) items u → M.uses u c k z → ItemsOf p t M s None (items ++ event t c k ∷ []) z
    prints : {s u z : M.State} {last : Option Completed} {items : List Event} (text : List ℕ) → ItemsOf p t M s last items u → GoesOn last → M.prints u last text z → ItemsOf p t M s None (items ++ printed t text ∷ []) z

  -- a body and its result
  pub data Body (p : LinkedProgram) (t : ℕ) (M : Maker) : M.State → List Event → Outcome → M.State → Type 0 where
    stops : {s u z : M.State} {last : Option Completed} {items : List Event} {r : Outcome} → ItemsOf p t M s last items u → GoesOn last → IsStop p r → M.stops u last r z → Body p t M s items r z
    -- an active use in it was ended by the machine
    stops_ended : {s u z : M.State} {items : List Event} {c e : ClassId} → ItemsOf p t M s (Some (completed c (Ended e))) items u → M.stops u (Some (completed c (Ended e))) (Ended e) z → Body p t M s items (Ended e) z

-- what a thread of main class m does, and its result: the procedure for m, and then a body if that was normal
pub data ThreadWordOf (p : LinkedProgram) (t : ℕ) (M : Maker) : M.State → ClassId → List Event → Outcome → M.State → Type 0 where
  ran : {s u v z : M.State} {m : ClassId} {w body : List Event} {r : Outcome} → Word p t M s m w Normal u → M.enters u m v → Body p t M v body r z → ThreadWordOf p t M s m (w ++ body) r z
  threw : {s z : M.State} {m : ClassId} {w : List Event} {e : ClassId} → Word p t M s m w (Abrupt e) z → ThreadWordOf p t M s m w (Abrupt e) z
  was_ended : {s z : M.State} {m : ClassId} {w : List Event} {e : ClassId} → Word p t M s m w (Ended e) z → ThreadWordOf p t M s m w (Ended e) z

-- what makes any body
abbrev pub free : Maker
free = record {
  State = Unit {0};
  starts = λ s c z. Unit {0};
  enters = λ s c z. Unit {0};
  asks = λ s last c z. Unit {0};
  uses = λ s c k z. Unit {0};
  prints = λ s last text z. Unit {0};
  stops = λ s last r z. Unit {0};
  replaces = λ s thrown e z. Unit {0};
}

-- the items of a body so far, whatever the bodies do
abbrev pub Items : LinkedProgram → ℕ → Option Completed → List Event → Type 0
Items p t last events = ItemsOf p t free tt last events tt

-- what a thread of main class m does, whatever the bodies do
abbrev pub ThreadWord : LinkedProgram → ℕ → ClassId → List Event → Type 0
ThreadWord p t m events = (r : Outcome) × ThreadWordOf p t free tt m events r tt

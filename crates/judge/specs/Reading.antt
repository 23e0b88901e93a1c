-- How one thread's events are read (JLS SE 8 12.4.2): which event may come next, and the state of the procedures after it.
-- Where a list can be read in several ways, this is the one that lets most follow.
use Rattle.std.specs.Prelude.{◌≡◌, ℕ, List, [], ◌∷◌, Option, Some, None, Bool, true, false}
use Rattle.hierarchy.specs.declared.class.ClassId.{ClassId}
use Rattle.hierarchy.specs.declared.built_in.BuiltIn.TheVariants.{NoClassDefFoundError, OutOfMemoryError}
use Rattle.hierarchy.specs.LinkedProgram.{LinkedProgram, built_in}
use Rattle.hierarchy.specs.Subclasses.{IsError}
use Rattle.init_core.specs.Needs.{needs}
use Rattle.init_core.specs.declared.event.Event.{Event}
use Rattle.init_core.specs.declared.event.Kind.{Kind}
use Rattle.init_core.specs.declared.event.Kind.TheVariants as kind
use Rattle.init_core.specs.declared.frames.Completed.{Completed}
use Rattle.init_core.specs.declared.frames.Ending.TheVariants as ending
use Rattle.init_core.specs.declared.frames.Frame.{Frame}
use Rattle.init_core.specs.declared.frames.Outcome.TheVariants.{Normal, Abrupt, Ended}
use Rattle.init_core.specs.declared.frames.Phase.TheVariants.{Looking, Needing, Running, EndingBy}
use Rattle.init_core.specs.Decisions.{event}
use Rattle.init_core.specs.ProcedureWord.{GoesOn, given_up, IsOfFiles, IsUse, IsMachineError, completed, printed}
use Rattle.init_core.specs.Standing.{Standing}
use Rattle.init_core.specs.Leads.{frame, standing, outcome_of}
use Rattle.init_core.specs.Advance.{after_needs, after_word}

-- an event of t
abbrev pub made_by : ℕ → Option ClassId → Kind → Event
made_by t c k = record { thread = t; class = c; kind = k }

-- a look at c, within these open classes
pub data Looks (p : LinkedProgram) (fs : List Frame) : Bool → ClassId → Kind → Standing → Type 0 where
  waits : {c : ClassId} → Looks p fs false c kind.Waits (standing (frame c (Looking true) ∷ fs) None)
  recurs : {w : Bool} {c : ClassId} → Looks p fs w c kind.Recurs (after_word fs c Normal)
  finds_initialized : {w : Bool} {c : ClassId} → Looks p fs w c kind.FindsInitialized (after_word fs c Normal)
  finds_erroneous : {w : Bool} {c : ClassId} → Looks p fs w c kind.FindsErroneous (after_word fs c (Abrupt (built_in p NoClassDefFoundError)))
  begins : {w : Bool} {c : ClassId} → Looks p fs w c kind.Begins (after_needs c (needs p c) fs)

-- the next event of a body: of a request, a read or a write, or a print
pub data GoesOnBy (p : LinkedProgram) (t : ℕ) (frames : List Frame) : Option Completed → Event → Standing → Type 0 where
  requests : {last : Option Completed} {c : ClassId} {k : Kind} {s : Standing} → IsOfFiles p c → Looks p frames false c k s → GoesOnBy p t frames last (event t c k) s
  uses : {c : ClassId} {k : Kind} → IsUse k → GoesOnBy p t frames (Some (completed c Normal)) (event t c k) (standing frames None)
  prints : {last : Option Completed} {text : List ℕ} → GoesOnBy p t frames last (printed t text) (standing frames None)

-- Whether an item of main's body was made, the state of the procedures, the next event, and the same after it.
pub data Reads (p : LinkedProgram) (t : ℕ) : Bool → Standing → Event → Bool → Standing → Type 0 where
  -- steps 2 to 6
  looks : {b w : Bool} {fs : List Frame} {last : Option Completed} {c : ClassId} {k : Kind} {s : Standing} → Looks p fs w c k s →
      Reads p t b (standing (frame c (Looking w) ∷ fs) last) (event t c k) b s
  -- a needed class's request has no answer: step 7 of the class that needs it
  need_unanswered : {b w : Bool} {fs : List Frame} {last : Option Completed} {c d e : ClassId} {rest : List ClassId} → IsMachineError p e →
      Reads p t b (standing (frame d (Looking w) ∷ (frame c (Needing rest) ∷ fs)) last) (event t c (kind.SuperFails e)) b (after_word fs c (Ended e))
  -- a body's request has no answer: step 12 of the class whose body it is
  body_unanswered : {b w : Bool} {fs : List Frame} {last : Option Completed} {c d e : ClassId} → IsMachineError p e →
      Reads p t b (standing (frame d (Looking w) ∷ (frame c (Running true) ∷ fs)) last) (event t c (kind.Fails e)) b (after_word fs c (Ended e))
  -- step 9
  runs : {b : Bool} {fs : List Frame} {last : Option Completed} {c : ClassId} →
      Reads p t b (standing (frame c (Running false) ∷ fs) last) (event t c kind.Runs) b (standing (frame c (Running true) ∷ fs) None)
  -- out of memory before step 9
  lacks_memory : {b : Bool} {fs : List Frame} {last : Option Completed} {c : ClassId} →
      Reads p t b (standing (frame c (Running false) ∷ fs) last) (event t c (kind.SuperFails (built_in p OutOfMemoryError))) b (after_word fs c (Ended (built_in p OutOfMemoryError)))
  -- in a body
  goes_on : {b : Bool} {fs : List Frame} {last : Option Completed} {c : ClassId} {e : Event} {s : Standing} → GoesOn last → GoesOnBy p t (frame c (Running true) ∷ fs) last e s →
      Reads p t b (standing (frame c (Running true) ∷ fs) last) e b s
  -- step 10
  completes : {b : Bool} {fs : List Frame} {last : Option Completed} {c : ClassId} → GoesOn last →
      Reads p t b (standing (frame c (Running true) ∷ fs) last) (event t c kind.Completes) b (after_word fs c Normal)
  -- step 12: abrupt, also by a machine error
  fails : {b : Bool} {fs : List Frame} {last : Option Completed} {c e : ClassId} → GoesOn last → IsError p e →
      Reads p t b (standing (frame c (Running true) ∷ fs) last) (event t c (kind.Fails e)) b (after_word fs c (Abrupt e))
  -- step 12 while the thread is being ended: the same error
  is_ended : {b : Bool} {fs : List Frame} {last : Option Completed} {c e : ClassId} → given_up last ≡ Some e →
      Reads p t b (standing (frame c (Running true) ∷ fs) last) (event t c (kind.Fails e)) b (after_word fs c (Ended e))
  -- step 7 after a needed class that completed so
  super_fails : {b m : Bool} {fs : List Frame} {last : Option Completed} {c e : ClassId} →
      Reads p t b (standing (frame c (EndingBy (ending.SuperFails e) m) ∷ fs) last) (event t c (kind.SuperFails e)) b (after_word fs c (outcome_of (ending.SuperFails e) m))
  -- the first item of main's body
  main_begins : {m : ClassId} {e : Event} {s : Standing} → GoesOnBy p t [] None e s → Reads p t false (standing [] (Some (completed m Normal))) e true s
  -- a further one
  main_goes_on : {last : Option Completed} {e : Event} {s : Standing} → GoesOn last → GoesOnBy p t [] last e s → Reads p t true (standing [] last) e true s

-- the next event of a thread, whichever it is, is of this class and kind, and its procedures go from one state to another
abbrev pub ReadsNext : LinkedProgram → Bool → Standing → Option ClassId → Kind → Bool → Standing → Type 0
ReadsNext p a s c k b u = (t : ℕ) → Reads p t a s (made_by t c k) b u

-- no such event comes next
abbrev pub RefusesNext : LinkedProgram → Bool → Standing → Option ClassId → Kind → Type 0
RefusesNext p a s c k = (t : ℕ) (b : Bool) (u : Standing) → Reads p t a s (made_by t c k) b u → ⊥

-- the events of a list, one after the other
pub data ReadsAll (p : LinkedProgram) (t : ℕ) : Bool → Standing → List Event → Bool → Standing → Type 0 where
  nothing : {b : Bool} {s : Standing} → ReadsAll p t b s [] b s
  and_then : {a b c : Bool} {s u v : Standing} {e : Event} {es : List Event} → Reads p t a s e b u → ReadsAll p t b u es c v → ReadsAll p t a s (e ∷ es) c v

-- before main's class m
abbrev pub opening : ClassId → Standing
opening m = standing (frame m (Looking false) ∷ []) None

-- the thread may stop here: no class is open, or only a request that is given up
abbrev pub MayStop : Standing → Type 0
MayStop s = elim s.frames [ [] ↦ Unit {0} | f ∷ fs ↦ elim f.phase [ Looking w ↦ fs ≡ [] | _ ↦ ⊥ ] ]

-- these events of t are read as a beginning of the word of main's class m
abbrev pub IsReadAsBeginning : LinkedProgram → ℕ → ClassId → List Event → Type 0
IsReadAsBeginning p t m xs = (b : Bool) × (s : Standing) × ReadsAll p t false (opening m) xs b s

-- and as a whole one
abbrev pub IsReadAsWhole : LinkedProgram → ℕ → ClassId → List Event → Type 0
IsReadAsWhole p t m xs = (b : Bool) × (s : Standing) × ReadsAll p t false (opening m) xs b s × MayStop s

-- The throwables in words are throwables of the program, so their numbers are in range.
use Rattle.std.proofs.Common.{ℕ, ◌+◌, ◌<◌, ◌≤◌, inl, inr, List, Option, Some, None, Bool, true, false, ◌∷◌, length, refl, subst, sym, arith}
use Rattle.std.proofs.lemmas.Option.{slice_get_within}
use Rattle.hierarchy.specs.declared.class.ClassId.{ClassId}
use Rattle.hierarchy.specs.declared.built_in.BuiltIn.{BuiltIn}
use Rattle.hierarchy.specs.declared.built_in.BuiltIn.TheVariants.{NoClassDefFoundError, LinkageError, VirtualMachineError, InternalError, OutOfMemoryError, Error, Throwable}
use Rattle.hierarchy.specs.LinkedProgram.{LinkedProgram, built_in}
use Rattle.hierarchy.specs.Subclasses.{Extends, in_file, is_built_in, IsSubclass, itself, below, IsError, IsThrowable}
use Rattle.hierarchy.proofs.BuiltIns.{number-small}
use Rattle.init_core.specs.declared.event.Decision.{Decision}
use Rattle.init_core.specs.declared.event.Decision.TheVariants as decision
use Rattle.init_core.specs.declared.event.Event.{Event}
use Rattle.init_core.specs.declared.frames.Completed.{Completed}
use Rattle.init_core.specs.declared.frames.Ending.{Ending}
use Rattle.init_core.specs.declared.frames.Ending.TheVariants as ending
use Rattle.init_core.specs.declared.frames.Frame.{Frame}
use Rattle.init_core.specs.declared.frames.Outcome.{Outcome}
use Rattle.init_core.specs.declared.frames.Outcome.TheVariants.{Normal, Abrupt, Ended}
use Rattle.init_core.specs.declared.frames.Phase.TheVariants.{EndingBy}
use Rattle.init_core.specs.Decisions.{kind_of}
use Rattle.init_core.specs.Leads.{frame, standing, LeadsTo, ending_by, kind_of_ending, outcome_of}
use Rattle.init_core.specs.Numbers.{IsInRange}
use Rattle.init_core.specs.ProgramEvents.{IsDoneAt}
use Rattle.init_core.specs.ProcedureWord.{Maker, Word, word, AfterWait, recurs, finds_initialized, finds_erroneous, gives_up, completes, fails, is_ended, need_fails, need_is_ended, lacks_memory, ItemsOf, no_items, requests, uses, prints, Body, stops, stops_ended, IsStop, IsMachineError}

-- a class of the files or a built-in one
abbrev IsOfProgram : LinkedProgram → ClassId → Type 0
IsOfProgram p c = c.number < length p.classes + 32

abbrev IsOfOutcome : LinkedProgram → Outcome → Type 0
IsOfOutcome p Normal = Unit {0}
IsOfOutcome p (Abrupt e) = IsThrowable p e
IsOfOutcome p (Ended e) = IsThrowable p e

abbrev IsOfLast : LinkedProgram → Option Completed → Type 0
IsOfLast p None = Unit {0}
IsOfLast p (Some d) = IsOfOutcome p d.outcome

built_in_small : (p : LinkedProgram) (b : BuiltIn) → IsOfProgram p (built_in p b)
built_in_small p b = omega (arith, number-small b)

extends_small : (p : LinkedProgram) {c s : ClassId} → Extends p.classes c s → IsOfProgram p c
extends_small p (in_file {c} {class} e) = let k : c.number < length p.classes = slice_get_within p.classes c.number class e in omega (arith, k)
extends_small p (is_built_in b s e) = built_in_small p b

subclass_small : (p : LinkedProgram) {c d : ClassId} → IsOfProgram p d → IsSubclass p.classes c d → IsOfProgram p c
subclass_small p q itself = q
subclass_small p q (below x y) = extends_small p x

throwable_small : (p : LinkedProgram) (e : ClassId) → IsThrowable p e → IsOfProgram p e
throwable_small p e is = subclass_small p (built_in_small p Throwable) is

further_below : (p : LinkedProgram) {c d e : ClassId} → IsSubclass p.classes c d → IsSubclass p.classes d e → IsSubclass p.classes c e
further_below p itself y = y
further_below p (below x z) y = below x (further_below p z y)

error_throwable : (p : LinkedProgram) (e : ClassId) → IsError p e → IsThrowable p e
error_throwable p e is = further_below p is (below (is_built_in Error Throwable refl) itself)

refused_throwable : (p : LinkedProgram) → IsThrowable p (built_in p NoClassDefFoundError)
refused_throwable p = below (is_built_in NoClassDefFoundError LinkageError refl) (below (is_built_in LinkageError Error refl) (error_throwable p (built_in p Error) itself))

memory_throwable : (p : LinkedProgram) → IsThrowable p (built_in p OutOfMemoryError)
memory_throwable p = below (is_built_in OutOfMemoryError VirtualMachineError refl) (below (is_built_in VirtualMachineError Error refl) (error_throwable p (built_in p Error) itself))

internal_throwable : (p : LinkedProgram) → IsThrowable p (built_in p InternalError)
internal_throwable p = below (is_built_in InternalError VirtualMachineError refl) (below (is_built_in VirtualMachineError Error refl) (error_throwable p (built_in p Error) itself))

machine_throwable : (p : LinkedProgram) (e : ClassId) → IsMachineError p e → IsThrowable p e
machine_throwable p e (inl is) = subst (IsThrowable p) (sym is) (internal_throwable p)
machine_throwable p e (inr is) = subst (IsThrowable p) (sym is) (memory_throwable p)

stop_throwable : (p : LinkedProgram) (r : Outcome) → IsStop p r → IsOfOutcome p r
stop_throwable p Normal is = tt
stop_throwable p (Abrupt e) is = is
stop_throwable p (Ended e) is = machine_throwable p e is

mutual
  word_throws : (p : LinkedProgram) {t : ℕ} {M : Maker} {s z : M.State} {c : ClassId} {xs : List Event} {r : Outcome} → Word p t M s c xs r z → IsOfOutcome p r
  word_throws p (word waited a) = after_throws p a

  after_throws : (p : LinkedProgram) {t : ℕ} {M : Maker} {s z : M.State} {c : ClassId} {xs : List Event} {r : Outcome} → AfterWait p t M s c xs r z → IsOfOutcome p r
  after_throws p recurs = tt
  after_throws p finds_initialized = tt
  after_throws p finds_erroneous = refused_throwable p
  after_throws p (gives_up {s} {c} {e} m) = machine_throwable p e m
  after_throws p (completes b st body) = tt
  after_throws p (fails b st body left is) = error_throwable p _ is
  after_throws p (is_ended b st body) = body_throws p body
  after_throws p (need_fails others q b w) = word_throws p w
  after_throws p (need_is_ended others q b w) = word_throws p w
  after_throws p (lacks_memory others q b) = memory_throwable p

  items_throws : (p : LinkedProgram) {t : ℕ} {M : Maker} {s z : M.State} {last : Option Completed} {xs : List Event} → ItemsOf p t M s last xs z → IsOfLast p last
  items_throws p no_items = tt
  items_throws p (requests i on known asks w) = word_throws p w
  items_throws p (uses k is i made) = tt
  items_throws p (prints text i on made) = tt

  body_throws : (p : LinkedProgram) {t : ℕ} {M : Maker} {s z : M.State} {xs : List Event} {r : Outcome} → Body p t M s xs r z → IsOfOutcome p r
  body_throws p (stops {r = r} i on is made) = stop_throwable p r is
  body_throws p (stops_ended i made) = items_throws p i

ending_done : (p : LinkedProgram) (c : ClassId) (k : Ending) (m : Bool) → IsOfOutcome p (outcome_of k m) → IsDoneAt p c (kind_of_ending k)
ending_done p c ending.Completes m is = tt
ending_done p c (ending.SuperFails e) false is = is
ending_done p c (ending.SuperFails e) true is = is
ending_done p c (ending.Fails e) false is = is
ending_done p c (ending.Fails e) true is = is

-- the step that a look makes has none
pub decision_done : (p : LinkedProgram) (c : ClassId) (d : Decision) → IsInRange (kind_of d) × IsDoneAt p c (kind_of d)
decision_done p c (decision.Waits first) = (tt, tt)
decision_done p c decision.Recurs = (tt, tt)
decision_done p c decision.FindsInitialized = (tt, tt)
decision_done p c decision.FindsErroneous = (tt, tt)
decision_done p c decision.Begins = (tt, tt)

-- the step that ends a class has a throwable of the program
pub ending_is_done : (p : LinkedProgram) (t : ℕ) (c : ClassId) (k : Ending) (m : Bool) (fs : List Frame) (last : Option Completed) (xs : List Event) → LeadsTo p t (standing (frame c (EndingBy k m) ∷ fs) last) xs → IsDoneAt p c (kind_of_ending k)
ending_is_done p t c k m fs last xs (ending_by j by_machine events before w) = ending_done p c k m (word_throws p w)

-- and so its number is in range
pub ending_in_range : (p : LinkedProgram) (c : ClassId) (k : Ending) → length p.classes ≤ 1024 → IsDoneAt p c (kind_of_ending k) → IsInRange (kind_of_ending k)
ending_in_range p c ending.Completes few is = tt
ending_in_range p c (ending.SuperFails e) few is = let small = throwable_small p e is in omega (arith, few, small)
ending_in_range p c (ending.Fails e) few is = let small = throwable_small p e is in omega (arith, few, small)

-- What bodies do, by the states of what runs them, and what of it the words of a procedure are stated over.
use Rattle.std.specs.Prelude.{◌≡◌, Option, Some, None}
use Rattle.hierarchy.specs.declared.class.ClassId.{ClassId}
use Rattle.hierarchy.specs.declared.value.Value.{Value}
use Rattle.hierarchy.specs.LinkedProgram.{LinkedProgram}
use Rattle.statics.specs.Statics.{statics_of, kept_by}
use Rattle.init_core.specs.declared.event.Kind.{Kind}
use Rattle.init_core.specs.declared.event.Kind.TheVariants as kind
use Rattle.init_core.specs.declared.frames.Completed.{Completed}
use Rattle.init_core.specs.declared.frames.Outcome.{Outcome}
use Rattle.init_core.specs.declared.frames.Outcome.TheVariants.{Normal, Abrupt, Ended}
use Rattle.init_core.specs.ProcedureWord.{GoesOn, Maker, completed}
use Rattle.bodies.specs.declared.report.Limit.{Limit}
use Rattle.bodies.specs.declared.does.Does.{Does}
use Rattle.bodies.specs.declared.does.Does.TheVariants.{Asks, Gets, Puts, Prints, Over}

-- What bodies do, over the states of what runs those of one thread.
pub record Making (S : Type 0) : Type 1 where
  -- the initializer of a class begins
  pub starts : S → ClassId → S → Type 0
  -- the method main of a class begins
  pub enters : S → ClassId → S → Type 0
  -- told the procedure completed last, if nothing was done since, the innermost body does this next
  pub does : S → Option Completed → Does → S → Type 0
  -- it is at something that another thread holds
  pub waits : S → Type 0
  -- it takes the value that it reads
  pub gets : S → Value → S → Type 0
  -- the machine ends it
  pub is_ended : S → S → Type 0
  -- step 11: for a throwable of this class comes an error of that
  pub replaces : S → ClassId → ClassId → S → Type 0
  -- the thread has ended
  pub ends : S → S → Type 0
  -- the machine has ended a body at this limit
  pub limits : Limit → S → Type 0

-- Where the machine may end a body: where it is, or, unless it has ended an active use in it, at what it does next.
pub data HasCome {S : Type 0} (M : Making S) (s : S) (last : Option Completed) : S → Type 0 where
  stays : HasCome M s last s
  comes : {u : S} (d : Does) → GoesOn last → M.does s last d u → HasCome M s last u

-- a body reads a field of the class whose procedure was completed directly before, or writes one
abbrev pub UsesField : {S : Type 0} → LinkedProgram → Making S → S → ClassId → Kind → S → Type 0
UsesField {S} p M s c (kind.Gets field v) z = (u : S) × M.does s (Some (completed c Normal)) (Gets c field) u × M.gets u v z
UsesField p M s c (kind.Puts field v) z = (given : Value) × M.does s (Some (completed c Normal)) (Puts c field given) z × (v ≡ kept_by (statics_of p c) field given)
UsesField p M s c k z = ⊥

-- a body returns, throws, or is ended by the machine
abbrev pub Stops : {S : Type 0} → Making S → S → Option Completed → Outcome → S → Type 0
Stops M s last Normal z = M.does s last (Over None) z
Stops M s last (Abrupt e) z = M.does s last (Over (Some e)) z
Stops {S} M s last (Ended e) z = (u : S) × HasCome M s last u × M.is_ended u z

-- what makes the bodies of words
abbrev pub maker_of : {S : Type 0} → LinkedProgram → Making S → Maker
maker_of {S} p M = record {
  State = S;
  starts = M.starts;
  enters = M.enters;
  asks = λ s last c z. M.does s last (Asks c) z;
  uses = λ s c k z. UsesField p M s c k z;
  prints = λ s last text z. M.does s last (Prints text) z;
  stops = λ s last r z. Stops M s last r z;
  replaces = M.replaces;
}

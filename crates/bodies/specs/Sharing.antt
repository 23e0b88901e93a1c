-- Bodies of several threads that share something, which one thread at a time has: for a touch, and then others may have it.
use Rattle.std.specs.Prelude.{◌≡◌, ◌++◌, ◌∷◌, [], List, Option, None}
use Rattle.hierarchy.specs.declared.class.ClassId.{ClassId}
use Rattle.hierarchy.specs.declared.value.Value.{Value}
use Rattle.hierarchy.specs.LinkedProgram.{LinkedProgram}
use Rattle.init_core.specs.declared.frames.Completed.{Completed}
use Rattle.bodies.specs.declared.report.Limit.{Limit}
use Rattle.bodies.specs.declared.does.Does.{Does}
use Rattle.bodies.specs.declared.does.Does.TheVariants.{Touches, Over}
use Rattle.bodies.specs.Making.{Making}

-- What bodies do, over the states of what runs those of one thread, and of what all threads share.
pub record Sharing (S H : Type 0) : Type 1 where
  -- the initializer of a class begins
  pub starts : S → ClassId → S → Type 0
  -- the method main of a class begins
  pub enters : S → ClassId → S → Type 0
  -- told the procedure completed last, if nothing was done since, the innermost body does this next
  pub does : S → Option Completed → Does → S → Type 0
  -- it touches what is shared, which it meets so, and leaves so
  pub touches : S → H → S → H → Type 0
  -- it is at something that another thread holds
  pub waits : S → H → Type 0
  -- what it comes to takes memory
  pub takes_memory : S → H → Type 0
  -- it takes the value that it reads
  pub gets : S → Value → S → Type 0
  -- the machine ends it
  pub is_ended : S → S → Type 0
  -- step 11: for a throwable of this class comes an error of that
  pub replaces : S → H → ClassId → ClassId → S → H → Type 0
  -- a new error takes memory
  pub error_takes_memory : S → H → Type 0
  -- the thread has ended
  pub ends : S → H → S → H → Type 0
  -- the machine has ended a body at this limit
  pub limits : Limit → S → Type 0

-- the innermost body has come to something that touches what is shared
pub record IsAtTouch {S H : Type 0} (M : Sharing S H) (s : S) : Type 0 where
  pub before : S
  pub last : Option Completed
  pub touches : M.does before last Touches s

-- What runs the bodies of one of several threads, and what it met and left at each of its touches so far of what they share.
pub record Used (S H : Type 0) : Type 0 where
  pub state : S
  pub uses : List (H × H)

-- nothing was touched so far
abbrev pub used_at_start : {S H : Type 0} → S → Used S H
used_at_start s = record { state = s; uses = [] }

-- a step that touches nothing
pub record StepsAlone {S H : Type 0} (R : S → S → Type 0) (s z : Used S H) : Type 0 where
  pub step : R s.state z.state
  pub uses : z.uses ≡ s.uses

-- a step that touches what is shared: it meets this, and leaves that
pub record StepsWith {S H : Type 0} (R : S → H → S → H → Type 0) (s z : Used S H) : Type 0 where
  pub met : H
  pub left : H
  pub step : R s.state met z.state left
  pub uses : z.uses ≡ s.uses ++ (met, left) ∷ []

-- what a body does next, after any number of touches; it is told what was completed last at its first step alone
pub data DoesWith {S H : Type 0} (M : Sharing S H) : Option Completed → Does → Used S H → Used S H → Type 0 where
  says : {last : Option Completed} {d : Does} {s z : Used S H} → StepsAlone (λ u v. M.does u last d v) s z → DoesWith M last d s z
  touches : {last : Option Completed} {d : Does} {s u v z : Used S H} → StepsAlone (λ a b. M.does a last Touches b) s u → StepsWith M.touches u v → DoesWith M None d v z → DoesWith M last d s z

-- what the bodies of one thread do, with what all threads share
abbrev pub used_bodies : {S H : Type 0} → Sharing S H → Making (Used S H)
used_bodies {H} M = record {
  starts = λ s c z. StepsAlone (λ u v. M.starts u c v) s z;
  enters = λ s c z. StepsAlone (λ u v. M.enters u c v) s z;
  does = λ s last d z. DoesWith M last d s z;
  waits = λ s. (met : H) × M.waits s.state met;
  gets = λ s v z. StepsAlone (λ a b. M.gets a v b) s z;
  is_ended = λ s z. StepsAlone M.is_ended s z;
  replaces = λ s thrown e z. StepsWith (λ u met v left. M.replaces u met thrown e v left) s z;
  ends = λ s z. StepsWith M.ends s z;
  limits = λ l s. M.limits l s.state;
}

-- what a body does next, after touches of whatever is shared then
pub data DoesFreely {S H : Type 0} (M : Sharing S H) : Option Completed → Does → S → S → Type 0 where
  says_freely : {last : Option Completed} {d : Does} {s z : S} → M.does s last d z → DoesFreely M last d s z
  touches_freely : {last : Option Completed} {d : Does} {s u v z : S} (met left : H) → M.does s last Touches u → M.touches u met v left → DoesFreely M None d v z → DoesFreely M last d s z

-- What the bodies of one thread do beside others that run freely: what they share may be any at each touch. (No one asks whether such a
-- thread waits.)
abbrev pub free_bodies : {S H : Type 0} → Sharing S H → Making S
free_bodies {H} M = record {
  starts = M.starts;
  enters = M.enters;
  does = λ s last d z. DoesFreely M last d s z;
  waits = λ s. ⊥;
  gets = M.gets;
  is_ended = M.is_ended;
  replaces = λ s thrown e z. (met : H) × ((left : H) × M.replaces s met thrown e z left);
  ends = λ s z. (met : H) × ((left : H) × M.ends s met z left);
  limits = M.limits;
}

-- Bodies that are empty, and share nothing: each returns at once, whatever class it is of.
abbrev pub empty_bodies : {S : Type 0} → Sharing S (Unit {0})
empty_bodies = record {
  starts = λ s c z. s ≡ z;
  enters = λ s c z. s ≡ z;
  does = λ s last d z. (s ≡ z) × (d ≡ Over None);
  touches = λ s met z left. ⊥;
  waits = λ s met. ⊥;
  takes_memory = λ s met. ⊥;
  gets = λ s v z. s ≡ z;
  is_ended = λ s z. s ≡ z;
  replaces = λ s met thrown e z left. s ≡ z;
  error_takes_memory = λ s met. ⊥;
  ends = λ s met z left. s ≡ z;
  limits = λ l s. ⊥;
}

-- an empty body comes to no limit
pub comes_to_no_limit : {S : Type 0} (p : LinkedProgram) (l : Limit) (s z : S) → ⊥ → s ≡ z → ⊥
comes_to_no_limit p l s z h same = h

-- an empty body never waits
pub waits_for_nothing : {S : Type 0} (p : LinkedProgram) (s u z : S) (h : Unit {0}) (last again : Option Completed) (d : Does) →
    (s ≡ u) × (Touches ≡ Over None) → ⊥ → (u ≡ z) × (d ≡ Over None) → (s ≡ z) × (d ≡ Over None)
waits_for_nothing p s u z h last again d comes never does = absurd never

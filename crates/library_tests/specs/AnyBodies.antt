-- Bodies of which nothing is said but where they wait.
use Rattle.hierarchy.specs.LinkedProgram.{LinkedProgram}
use Rattle.bodies.specs.declared.report.Limit.{Limit}
use Rattle.bodies.specs.Sharing.{Sharing}

-- they may come to any limit
abbrev pub any_limits : {S : Type 0} → Limit → S → Type 0
any_limits l s = Unit {0}

-- whatever they do
abbrev pub any_bodies : {S H : Type 0} → (S → Type 0) → Sharing S H
any_bodies waits = record {
  starts = λ s c z. Unit {0};
  enters = λ s c z. Unit {0};
  does = λ s last d z. Unit {0};
  touches = λ s met z left. Unit {0};
  waits = λ s met. waits s;
  takes_memory = λ s met. Unit {0};
  gets = λ s v z. Unit {0};
  is_ended = λ s z. Unit {0};
  replaces = λ s met thrown e z left. Unit {0};
  error_takes_memory = λ s met. Unit {0};
  ends = λ s met z left. Unit {0};
  limits = any_limits;
}

pub may_come_to_it : {S : Type 0} (p : LinkedProgram) (l : Limit) (s z : S) → Unit {0} → Unit {0} → Unit {0}
may_come_to_it p l s z comes ended = tt

-- One main class whose code runs in order.
use Rattle.std.proofs.Common.{ℕ, List, [], ◌∷◌, refl}
use Rattle.hierarchy.specs.declared.class.ClassId.{ClassId}
use Rattle.hierarchy.specs.LinkedProgram.{LinkedProgram}
use Rattle.bodies.specs.declared.report.Limits.{Limits}
use Rattle.bodies.specs.declared.report.Report.{Report}
use Rattle.bodies.specs.Runs.{IsRunOf}
use Rattle.bodies.specs.Sharing.{free_bodies, used_bodies}
use Rattle.interpreter.specs.declared.interpreter.Interpreter.{Interpreter}
use Rattle.interpreter.specs.CodeRun.{alone_bodies}
use Rattle.replayer.specs.OrderedRun.{IsOrderedRunOf, NeverWait}
use Rattle.replayer.proofs.Freely.{run_freely}

alone_never_waits : (p : LinkedProgram) → NeverWait (used_bodies (alone_bodies p))
alone_never_waits p s waits = waits.1

-- no limit of patience ends it, since its code never waits
pub ordered_within : {p : LinkedProgram} {starts : List Interpreter} {main : ClassId} {order : List ℕ} {r : Report} {limits : Limits} → IsOrderedRunOf p (alone_bodies p) tt starts (main ∷ []) order r → IsRunOf p (free_bodies (alone_bodies p)) starts (main ∷ []) limits r
ordered_within {p = p} ordered = run_freely (alone_bodies p) ordered (λ none. (refl, alone_never_waits p))

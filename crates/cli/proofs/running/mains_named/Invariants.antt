use Rattle.std.proofs.Common.{◌≡◌, [], length}
use Rattle.std.specs.List.{AllByRecursion}
use Rattle.init_core.specs.ProcedureWord.{IsOfFiles}
use Rattle.cli.specs.Running.{mains_from}
use Rattle.cli.proofs.Names.{behind}
use Rattle.cli.proofs.running.mains_named.Given as goal

abbrev pub decreases-loop-rest : goal.decreases-loop-rest
decreases-loop-rest l = length l.rest

abbrev pub invariant-loop-rest : goal.invariant-loop-rest
invariant-loop-rest l = (mains_from l.program [] l.names ≡ behind l.mains.items (mains_from l.program l.name.items l.rest)) × AllByRecursion (λ m. IsOfFiles l.program m) l.mains.items

use Rattle.std.proofs.Common.{◌≡◌, length}
use Rattle.interpreter.specs.Leads.{case_target}
use Rattle.interpreter.proofs.switching.target_among.Given as goal

abbrev pub invariant-loop-rest : goal.invariant-loop-rest
invariant-loop-rest l = case_target l.rest l.key ≡ case_target l.cases l.key

abbrev pub decreases-loop-rest : goal.decreases-loop-rest
decreases-loop-rest l = length l.rest

use Rattle.std.proofs.Common.{◌≡◌, length}
use Rattle.clap.specs.Walk.{texts}
use Rattle.command_line.specs.CommandLine.{has_few_dashes}
use Rattle.command_line.proofs.holds_few_dashes.Given as goal

abbrev pub decreases-loop-rest : goal.decreases-loop-rest
decreases-loop-rest l = length l.rest

abbrev pub invariant-loop-rest : goal.invariant-loop-rest
invariant-loop-rest l = has_few_dashes (texts l.names) ≡ has_few_dashes (texts l.rest)

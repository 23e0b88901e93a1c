use Rattle.std.proofs.Common.{◌≡◌, ◌↔◌, ◌+◌, drop, length, reverse}
use Rattle.frames.specs.Activations.{operands_of}
use Rattle.interpreter.specs.Fitting.{ArePlain}
use Rattle.interpreter.proofs.fitting.are_plain.Given as goal

abbrev pub invariant-loop-rest : goal.invariant-loop-rest
invariant-loop-rest l = (l.depth + length l.rest ≡ length l.types) × (ArePlain (reverse l.types) (operands_of l.frames) ↔ ArePlain (reverse l.rest) (drop l.depth (operands_of l.frames)))

abbrev pub decreases-loop-rest : goal.decreases-loop-rest
decreases-loop-rest l = length l.rest

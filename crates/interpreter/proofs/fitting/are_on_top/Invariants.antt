use Rattle.std.proofs.Common.{◌≡◌, ◌↔◌, ◌+◌, drop, length, reverse}
use Rattle.frames.specs.Activations.{operands_of}
use Rattle.interpreter.specs.Fitting.{AreOnTop}
use Rattle.interpreter.proofs.fitting.are_on_top.Given as goal

abbrev pub invariant-loop-rest : goal.invariant-loop-rest
invariant-loop-rest l = (l.depth + length l.rest ≡ length l.types) × (AreOnTop l.program l.heap (reverse l.types) (operands_of l.frames) ↔ AreOnTop l.program l.heap (reverse l.rest) (drop l.depth (operands_of l.frames)))

abbrev pub decreases-loop-rest : goal.decreases-loop-rest
decreases-loop-rest l = length l.rest

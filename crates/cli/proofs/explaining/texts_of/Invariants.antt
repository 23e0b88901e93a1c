use Rattle.std.proofs.Common.{None}
use Rattle.cli.specs.Files.{KeepsAllBut}
use Rattle.cli.proofs.explaining.texts_of.Given as goal

abbrev pub invariant-loop-file : goal.invariant-loop-file
invariant-loop-file g l = KeepsAllBut None (g.N.Named.held l.fn.named) (g.N.Named.held l.named)

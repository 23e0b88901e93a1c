use Rattle.std.proofs.Common.{take, None}
use Rattle.clap.specs.Walk.{texts as texts_of}
use Rattle.cli.specs.Files.{AreSpelled, KeepsAllBut}
use Rattle.cli.proofs.files.read_texts.Given as goal

abbrev pub invariant-loop-file : goal.invariant-loop-file
invariant-loop-file g l = AreSpelled (g.N.Named.held l.fn.named) (texts_of (take l.file-index l.files)) l.texts.items
    × KeepsAllBut None (g.N.Named.held l.fn.named) (g.N.Named.held l.named)

use Rattle.std.proofs.Common.{◌≡◌, ◌++◌, ◌-◌, length}
use Rattle.init_core.specs.Interleaving.{labels_from, labels_of}
use Rattle.replayer.proofs.log.EventLog.labels.Given as goal

abbrev pub invariant-loop-number : goal.invariant-loop-number
invariant-loop-number l = l.labels ++ labels_from l.number (length l.program.classes - l.number) l.self.events.items ≡ labels_of l.program l.self.events.items

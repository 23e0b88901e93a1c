use Rattle.std.proofs.Common.{◌≡◌, ◌-◌, ◌≤◌, length, take}
use Rattle.std.specs.Io.KnownBytes.{Appends}
use Rattle.cli.proofs.sink.emit.Given as goal

abbrev pub invariant-loop-written : goal.invariant-loop-written
invariant-loop-written g l = record {
  within : l.written ≤ length l.piece;
  front : Appends (g.S.Sink.bytes l.initial.sink) (g.S.Sink.bytes l.sink) (take l.written l.piece);
  unfailed : g.S.Sink.failures l.sink ≡ g.S.Sink.failures l.initial.sink;
  same_borrow : g.S.Sink.borrow l.sink ≡ g.S.Sink.borrow l.initial.sink;
}

abbrev pub decreases-loop-written : goal.decreases-loop-written
decreases-loop-written g l = length l.piece - l.written

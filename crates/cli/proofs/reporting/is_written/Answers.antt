use Rattle.cli.proofs.Emitted.{short_front, whole_front}
use Rattle.cli.proofs.KnownOutput.{appends_kept}
use Rattle.cli.proofs.reporting.is_written.Goals as goal

pub returns-in-Err-flush : goal.returns-in-Err-flush
returns-in-Err-flush g c =
    whole_front (g.O.Write.contents c.args.out.now) (g.O.Write.contents c.flush.new.self) c.args.bytes.now
    (appends_kept (g.O.Write.contents c.args.out.now) (g.O.Write.contents c.emit_to.new.out) (g.O.Write.contents c.flush.new.self) c.args.bytes.now c.in-Ok.ensures.whole c.flush.ensures.bytes)

pub returns-in-Ok-flush : goal.returns-in-Ok-flush
returns-in-Ok-flush g c = appends_kept (g.O.Write.contents c.args.out.now) (g.O.Write.contents c.emit_to.new.out) (g.O.Write.contents c.flush.new.self) c.args.bytes.now c.in-Ok.ensures.whole c.flush.ensures.bytes

pub returns-in-Err : goal.returns-in-Err
returns-in-Err g c = short_front (g.O.Write.contents c.args.out.now) (g.O.Write.contents c.emit_to.new.out) c.args.bytes.now c.in-Err.ensures.short

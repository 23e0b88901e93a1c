use Rattle.cli.proofs.Emitted.{all_joined, appends_none, more_joined, on_err, short_joined}
use Rattle.cli.proofs.sink.emit_all.Goals as goal

pub loop-piece-init : goal.loop-piece-init
loop-piece-init g c = appends_none (g.W.Write.contents c.args.out.now)

pub loop-piece-preserved : goal.loop-piece-preserved
loop-piece-preserved g c =
    more_joined (g.W.Write.contents c.args.out.now) (g.W.Write.contents c.loop-piece.out) (g.W.Write.contents c.emit_to.new.out) c.args.pieces.now c.loop-piece.piece-index _ c.loop-piece-test.true
    c.loop-piece.invariant c.in_ok-emit_to.ensures.whole

pub returns-in_err-emit_to-clause-short : goal.returns-in_err-emit_to-clause-short
returns-in_err-emit_to-clause-short g c =
    on_err c.from_residual.result (short_joined (g.W.Write.contents c.args.out.now) (g.W.Write.contents c.loop-piece.out) (g.W.Write.contents c.emit_to.new.out) c.args.pieces.now c.loop-piece.piece-index _ c.loop-piece-test.true
    c.loop-piece.invariant c.in_err-emit_to.ensures.short)

pub returns-clause-whole : goal.returns-clause-whole
returns-clause-whole g c = all_joined (g.W.Write.contents c.args.out.now) (g.W.Write.contents c.loop-piece.out) c.args.pieces.now c.loop-piece.piece-index c.loop-piece-test.false c.loop-piece.invariant

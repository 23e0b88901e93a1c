use Rattle.std.proofs.Common.{◌∙◌, ◌<◌, arith}
use Rattle.std.proofs.lemmas.Grind.{common_steps}
use Rattle.cli.proofs.Emitted.{stays_within, took_some, writes_on}
use Rattle.cli.proofs.sink.emit.Goals as goal

pub loop-written-preserved : goal.loop-written-preserved
loop-written-preserved g c =
    let some : 0 < c.in-Some.count = grind (arith, common_steps) in
    record {
      within = stays_within c.args.piece.now c.loop-written.written c.in-Some.count c.loop-written.invariant.within c.in-Some.ensures.most;
      front = writes_on (g.S.Sink.bytes c.args.sink.now) (g.S.Sink.bytes c.loop-written.sink) (g.S.Sink.bytes c.put.new.self) c.args.piece.now c.loop-written.written c.in-Some.count
          c.loop-written.invariant.front c.in-Some.ensures.written;
      unfailed = c.in-Some.ensures.failed ∙ took_some (g.S.Sink.failures c.loop-written.sink) c.in-Some.count _ some ∙ c.loop-written.invariant.unfailed;
      same_borrow = c.put.ensures.same_borrow ∙ c.loop-written.invariant.same_borrow;
    }

use Rattle.std.proofs.Common.{refl}
use Rattle.replayer.proofs.Logged.{in_range, added}
use Rattle.replayer.proofs.log.EventLog.add.Goals as goal

pub new-requires-clause-kind : goal.new-requires-clause-kind
new-requires-clause-kind c = in_range c.args.program.now c.args.class c.args.kind c.is_linked.ensures.linked c.is_linked.ensures.few c.requires.done

pub returns-clause-log : goal.returns-clause-log
returns-clause-log c =
    added c.args.program.now c.args.self.now _ c.args.thread c.args.class c.args.kind c.index_mut-state.result.now c.add.new.self refl c.requires.thread c.requires.log c.requires.class c.index_mut-state.ensures.value c.add.ensures.step refl
    (rw (c.push_reserved.ensures.items, c.reserve.ensures.items, c.new.ensures) refl)
    c.requires.allowed c.requires.done (in_range c.args.program.now c.args.class c.args.kind c.is_linked.ensures.linked c.is_linked.ensures.few c.requires.done) c.requires.holds

use Rattle.judge.proofs.ReadEvents.{is_read, is_not_read}
use Rattle.judge.proofs.reader.Reader.read.Goals as goal

pub returns-clause-yes : goal.returns-clause-yes
returns-clause-yes c = is_read c.args.program.now c.args.self.now.begun c.args.self.now.procedures c.args.class c.args.kind.now c.begun_after-self.result c.take.new.self c.take.result c.begun_after-self.ensures c.take.ensures

pub returns-clause-no : goal.returns-clause-no
returns-clause-no c = is_not_read c.args.program.now c.args.self.now.begun c.args.self.now.procedures c.args.class c.args.kind.now c.take.new.self c.take.result c.take.ensures

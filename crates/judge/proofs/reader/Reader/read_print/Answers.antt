use Rattle.judge.proofs.Prints.{is_read_print, is_unread_print}
use Rattle.judge.proofs.reader.Reader.read_print.Goals as goal

pub returns-clause-yes : goal.returns-clause-yes
returns-clause-yes c = is_read_print c.args.program.now c.args.self.now.begun c.args.self.now.procedures _ c.read.new.self.begun c.read.new.self.procedures c.read.result c.read.ensures.yes

pub returns-clause-no : goal.returns-clause-no
returns-clause-no c = is_unread_print c.args.program.now c.args.self.now.begun c.args.self.now.procedures _ c.read.result c.read.ensures.no

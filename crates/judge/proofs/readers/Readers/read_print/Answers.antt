use Rattle.std.proofs.Common.{rules}
use Rattle.init_core.specs.ProcedureWord.{printed}
use Rattle.judge.proofs.Prints.{readers_read, readers_refuse}
use Rattle.judge.proofs.Threads.{thread_unknown}
use Rattle.judge.proofs.readers.Readers.read_print.Goals as goal

pub returns-else-thread-len-clause-no : goal.returns-else-thread-len-clause-no
returns-else-thread-len-clause-no c = λ q text mains h all k. thread_unknown c.args.program.now mains c.args.self.now.of_threads.items h (printed c.args.thread text) all (search rules) k

pub returns-then-thread-len-clause-yes : goal.returns-then-thread-len-clause-yes
returns-then-thread-len-clause-yes c =
    readers_read c.args.program.now c.args.self.now.of_threads.items c.args.thread c.index_mut-reader.result.now (search rules) c.index_mut-reader.ensures.value c.read_print.new.self c.read_print.result c.read_print.ensures.yes

pub returns-then-thread-len-clause-no : goal.returns-then-thread-len-clause-no
returns-then-thread-len-clause-no c =
    readers_refuse c.args.program.now c.args.self.now.of_threads.items c.args.thread c.index_mut-reader.result.now (search rules) c.index_mut-reader.ensures.value c.read_print.result c.read_print.ensures.no

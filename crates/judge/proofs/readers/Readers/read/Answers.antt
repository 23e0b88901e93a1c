use Rattle.std.proofs.Common.{rules}
use Rattle.judge.specs.Reading.{made_by}
use Rattle.judge.proofs.Threads.{reader_reads, reader_refuses, thread_unknown}
use Rattle.judge.proofs.readers.Readers.read.Goals as goal

pub returns-then-thread-len-clause-no : goal.returns-then-thread-len-clause-no
returns-then-thread-len-clause-no c = λ q mains h all k. thread_unknown c.args.program.now mains c.args.self.now.of_threads.items h (made_by c.args.thread c.args.class c.args.kind.now) all (search rules) k

pub returns-clause-yes : goal.returns-clause-yes
returns-clause-yes c =
    reader_reads c.args.program.now c.args.self.now.of_threads.items c.args.thread c.args.class c.args.kind.now c.index_mut-reader.result.now c.read.result (search rules) c.index_mut-reader.ensures.value c.read.new.self c.read.ensures.yes

pub returns-clause-no : goal.returns-clause-no
returns-clause-no c =
    reader_refuses c.args.program.now c.args.self.now.of_threads.items c.args.thread c.args.class c.args.kind.now c.index_mut-reader.result.now c.read.result (search rules) c.index_mut-reader.ensures.value c.read.ensures.no

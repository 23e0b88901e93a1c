use Rattle.std.proofs.Common.{sym, ◌∙◌}
use Rattle.interpreter.proofs.Saying.{op_at, read_at}
use Rattle.interpreter.proofs.interpreter.Interpreter.op.Goals as goal

pub returns-clause-some : goal.returns-clause-some
returns-clause-some c = op_at c.args.program.now c.args.self.now.frames c.in-Some.at c.in-Some-method_code.code.now c.copied.result (sym c.at.ensures ∙ c.in-Some.is) c.in-Some-method_code.ensures
    (read_at c.as_slice.result.now c.in-Some-method_code.code.now.ops c.in-Some.at.place c.get.result c.copied.result c.get.ensures.lookup.1 c.get.ensures.lookup.3 c.as_slice.ensures c.copied.ensures)

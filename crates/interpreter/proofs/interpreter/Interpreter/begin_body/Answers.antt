use Rattle.std.proofs.Common.{[], ap, refl, sym, ◌∙◌}
use Rattle.interpreter.specs.Rows.{arguments}
use Rattle.interpreter.proofs.Beginning.{begins_quietly, begins_takes, first_there, nothing_quietly}
use Rattle.interpreter.proofs.CodeBodies.{err_map, on_ok}
use Rattle.interpreter.proofs.interpreter.Interpreter.begin_body.Goals as goal

pub returns-in_default-clause-row : goal.returns-in_default-clause-row
returns-in_default-clause-row c = nothing_quietly c.args.program.now c.args.self.now _ c.args.class c.args.given c.requires.phase (sym c.first_method.ensures ∙ c.in_default.is) refl

pub unreachable-requires : goal.unreachable-requires
unreachable-requires c = first_there c.args.program.now c.args.class c.args.given c.in-Some.method (sym c.first_method.ensures ∙ c.in-Some.is) c.in_default-method_code.ensures

pub returns-in-None-clause-row : goal.returns-in-None-clause-row
returns-in-None-clause-row c = on_ok c.begin.result (begins_quietly c.args.program.now c.args.self.now c.begin.new.self c.args.class c.args.given c.in-Some.method [] c.requires.phase (sym c.first_method.ensures ∙ c.in-Some.is) (sym (ap arguments c.in-None.is))) c.begin.ensures.ok

pub returns-in-None-clause-memory : goal.returns-in-None-clause-memory
returns-in-None-clause-memory c = err_map c.begin.result (begins_takes c.args.program.now c.args.self.now c.args.class c.args.given c.in-Some.method c.in-Some-method_code.code.now [] c.requires.phase (sym c.first_method.ensures ∙ c.in-Some.is) c.in-Some-method_code.ensures (sym (ap arguments c.in-None.is))) c.begin.ensures.memory

pub returns-in-Some-given-clause-row : goal.returns-in-Some-given-clause-row
returns-in-Some-given-clause-row c = on_ok c.begin-in-Some-given.result (begins_quietly c.args.program.now c.args.self.now c.begin-in-Some-given.new.self c.args.class c.args.given c.in-Some.method _ c.requires.phase (sym c.first_method.ensures ∙ c.in-Some.is) (sym (ap arguments c.in-Some-given.is))) c.begin-in-Some-given.ensures.ok

pub returns-in-Some-given-clause-memory : goal.returns-in-Some-given-clause-memory
returns-in-Some-given-clause-memory c = err_map c.begin-in-Some-given.result (begins_takes c.args.program.now c.args.self.now c.args.class c.args.given c.in-Some.method c.in-Some-method_code.code.now _ c.requires.phase (sym c.first_method.ensures ∙ c.in-Some.is) c.in-Some-method_code.ensures (sym (ap arguments c.in-Some-given.is))) c.begin-in-Some-given.ensures.memory

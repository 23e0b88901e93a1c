use Rattle.std.proofs.Common.{◌≡◌, ap, subst, sym, ◌∙◌}
use Rattle.std.specs.Prelude.{OnErr, OnOk}
use Rattle.frames.specs.Activations.{place_of}
use Rattle.frames.specs.declared.run.Stop.{Stop}
use Rattle.frames.specs.declared.run.Stop.TheVariants.{Limit}
use Rattle.interpreter.specs.declared.interpreter.Interpreter.{Interpreter}
use Rattle.interpreter.specs.Memory.{TakesMemory}
use Rattle.interpreter.specs.Rows.{IsStoppedIn, Row}
use Rattle.interpreter.proofs.Running.{not_limit, runs_in, stopped_at, stopped_in_code, stopped_somewhere}
use Rattle.interpreter.proofs.interpreter.Interpreter.touch_running.Goals as goal

pub unreachable-requires : goal.unreachable-requires
unreachable-requires c = stopped_somewhere c.args.program.now c.args.self.now c.requires.touches.0 c.requires.touches.1 c.requires.touches.2 (sym c.at.ensures ∙ c.in_default.is)

pub go_in-stop-requires : goal.go_in-stop-requires
go_in-stop-requires c = runs_in c.args.program.now c.args.self.now c.in-Some.at c.in-Some-method_code.code.now c.requires.touches.2.1.phase (sym c.at.ensures ∙ c.in-Some.is) c.in-Some-method_code.ensures

pub touch_at-requires-clause-stopped : goal.touch_at-requires-clause-stopped
touch_at-requires-clause-stopped c = stopped_at c.args.program.now c.go_in-stop.new.self c.in-Some.at c.in-Some-method_code.code.now c.go_in-stop.result c.go_in-stop.ensures.stopped (ap (λ (s : Interpreter). place_of s.frames) (c.go_in-stop.ensures.still c.requires.touches.1 (stopped_in_code c.args.program.now c.args.self.now c.in-Some.at c.in-Some-method_code.code.now c.requires.touches.0 c.requires.touches.1 (sym c.at.ensures ∙ c.in-Some.is) c.in-Some-method_code.ensures c.requires.touches.2) c.requires.touches.3) ∙ sym c.at.ensures ∙ c.in-Some.is)

pub touch_at-requires-clause-left : goal.touch_at-requires-clause-left
touch_at-requires-clause-left c = λ limit. not_limit c.args.program.now c.args.self.now c.in-Some-method_code.code.now c.requires.touches.1 (stopped_in_code c.args.program.now c.args.self.now c.in-Some.at c.in-Some-method_code.code.now c.requires.touches.0 c.requires.touches.1 (sym c.at.ensures ∙ c.in-Some.is) c.in-Some-method_code.ensures c.requires.touches.2) c.requires.touches.3 (subst (λ (s : Interpreter). IsStoppedIn c.args.program.now s c.in-Some-method_code.code.now Limit) (c.go_in-stop.ensures.still c.requires.touches.1 (stopped_in_code c.args.program.now c.args.self.now c.in-Some.at c.in-Some-method_code.code.now c.requires.touches.0 c.requires.touches.1 (sym c.at.ensures ∙ c.in-Some.is) c.in-Some-method_code.ensures c.requires.touches.2) c.requires.touches.3) (subst (λ (w : Stop). IsStoppedIn c.args.program.now c.go_in-stop.new.self c.in-Some-method_code.code.now w) limit c.go_in-stop.ensures.stopped))

pub returns-clause-row : goal.returns-clause-row
returns-clause-row c = subst (λ (s : Interpreter). OnOk c.touch_at.result (Row c.args.program.now s c.touch_at.new.self)) (c.go_in-stop.ensures.still c.requires.touches.1 (stopped_in_code c.args.program.now c.args.self.now c.in-Some.at c.in-Some-method_code.code.now c.requires.touches.0 c.requires.touches.1 (sym c.at.ensures ∙ c.in-Some.is) c.in-Some-method_code.ensures c.requires.touches.2) c.requires.touches.3) c.touch_at.ensures.row

pub returns-clause-memory : goal.returns-clause-memory
returns-clause-memory c = subst (λ (s : Interpreter). OnErr c.touch_at.result (TakesMemory c.args.program.now s)) (c.go_in-stop.ensures.still c.requires.touches.1 (stopped_in_code c.args.program.now c.args.self.now c.in-Some.at c.in-Some-method_code.code.now c.requires.touches.0 c.requires.touches.1 (sym c.at.ensures ∙ c.in-Some.is) c.in-Some-method_code.ensures c.requires.touches.2) c.requires.touches.3) c.touch_at.ensures.memory

pub returns-clause-err : goal.returns-clause-err
returns-clause-err c = subst (λ (s : Interpreter). OnErr c.touch_at.result (c.touch_at.new.self ≡ s)) (c.go_in-stop.ensures.still c.requires.touches.1 (stopped_in_code c.args.program.now c.args.self.now c.in-Some.at c.in-Some-method_code.code.now c.requires.touches.0 c.requires.touches.1 (sym c.at.ensures ∙ c.in-Some.is) c.in-Some-method_code.ensures c.requires.touches.2) c.requires.touches.3) c.touch_at.ensures.err

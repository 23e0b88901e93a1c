use Rattle.std.proofs.Common.{◌≡◌, Result, Ok, Err, Option, Some, None}
use Rattle.std.specs.Prelude.{IfOk, IfSome, OnErr}
use Rattle.hierarchy.specs.LinkedProgram.{LinkedProgram}
use Rattle.bodies.specs.declared.does.Does.{Does}
use Rattle.bodies.specs.declared.does.Does.TheVariants.{Ended}
use Rattle.bodies.specs.declared.report.Limit.TheVariants.{Memory}
use Rattle.interpreter.specs.declared.interpreter.Interpreter.{Interpreter}
use Rattle.interpreter.specs.Memory.{TakesMemory}
use Rattle.interpreter.specs.Rows.{Row, Rows}
use Rattle.interpreter.specs.Says.{SaysNext}
use Rattle.interpreter.proofs.Running.{nothing_runs, then_refused, then_row_of, then_says}
use Rattle.interpreter.proofs.interpreter.Interpreter.turn.Goals as goal

turn_err : {T E : Type 0} (p : LinkedProgram) (s u z : Interpreter) (r : Result T E) → Rows p s u → OnErr r (TakesMemory p u) → OnErr r (z ≡ u) → OnErr r (SaysNext p s (Ended Memory) z)
turn_err p s u z (Ok x) rows takes same = tt
turn_err p s u z (Err e) rows takes same = then_refused p s u z rows takes same

turn_rows : {E : Type 0} (p : LinkedProgram) (s u z : Interpreter) (r : Result (Option Does) E) → Rows p s u → IfOk r (λ d. d ≡ None → Row p u z) → IfOk r (λ d. d ≡ None → Rows p s z)
turn_rows p s u z (Ok d) rows h = λ none. then_row_of p s u z rows (h none)
turn_rows p s u z (Err e) rows h = tt

turn_says : {E : Type 0} (p : LinkedProgram) (s u z : Interpreter) (r : Result (Option Does) E) → Rows p s u → IfOk r (λ d. IfSome d (λ x. SaysNext p u x z)) → IfOk r (λ d. IfSome d (λ x. SaysNext p s x z))
turn_says p s u z (Ok None) rows h = tt
turn_says p s u z (Ok (Some d)) rows h = then_says p s u z d rows h
turn_says p s u z (Err e) rows h = tt

pub returns-in-Some-clause-err : goal.returns-in-Some-clause-err
returns-in-Some-clause-err c = turn_err c.args.program.now c.args.self.now c.run.new.self c.go_on_from.new.self c.go_on_from.result c.run.ensures.rows c.go_on_from.ensures.memory c.go_on_from.ensures.err

pub returns-in-Some-clause-rows : goal.returns-in-Some-clause-rows
returns-in-Some-clause-rows c = turn_rows c.args.program.now c.args.self.now c.run.new.self c.go_on_from.new.self c.go_on_from.result c.run.ensures.rows c.go_on_from.ensures.row

pub returns-in-Some-clause-says : goal.returns-in-Some-clause-says
returns-in-Some-clause-says c = turn_says c.args.program.now c.args.self.now c.run.new.self c.go_on_from.new.self c.go_on_from.result c.run.ensures.rows c.go_on_from.ensures.says

pub returns-in-None-clause-says : goal.returns-in-None-clause-says
returns-in-None-clause-says c = nothing_runs c.args.program.now c.args.self.now c.run.new.self c.requires.phase c.in-None.ensures.none c.in-None.ensures.same

use Rattle.std.proofs.Common.{sym, ◌∙◌}
use Rattle.interpreter.proofs.Quietly.{idle_quietly, spent_quietly, then_quiet_next, touches_stopped, turned_on, turned_says, turned_to}
use Rattle.interpreter.proofs.Running.{no_frame_runs, no_method_runs}
use Rattle.bodies.specs.declared.does.Does.TheVariants.{Ended}
use Rattle.bodies.specs.declared.report.Limit.TheVariants.{Steps}
use Rattle.interpreter.proofs.interpreter.Interpreter.turn_quietly.Goals as goal

pub returns-in_default-clause-says : goal.returns-in_default-clause-says
returns-in_default-clause-says c = idle_quietly c.args.program.now c.args.self.now c.requires.phase (no_frame_runs c.args.program.now c.args.self.now.frames (sym c.at.ensures ∙ c.in_default.is))

pub returns-in_default-method_code-clause-says : goal.returns-in_default-method_code-clause-says
returns-in_default-method_code-clause-says c = idle_quietly c.args.program.now c.args.self.now c.requires.phase (no_method_runs c.args.program.now c.args.self.now.frames c.in-Some.at (sym c.at.ensures ∙ c.in-Some.is) c.in_default-method_code.ensures)

pub returns-in-Limit-clause-says : goal.returns-in-Limit-clause-says
returns-in-Limit-clause-says c = then_quiet_next c.args.program.now c.args.self.now c.go_in-stop.new.self _ (Ended Steps) c.in-Limit.ensures.quiet (spent_quietly c.args.program.now c.go_in-stop.new.self c.in-Limit.ensures.stopped.0 c.in-Some-method_code.code.now c.in-Limit.ensures.stopped.1)

pub returns-in-LeadsOut-clause-rows : goal.returns-in-LeadsOut-clause-rows
returns-in-LeadsOut-clause-rows c = turned_on c.args.program.now c.args.self.now c.go_in-stop.new.self c.lead_quietly.new.self c.lead_quietly.result c.in-LeadsOut.ensures.quiet c.lead_quietly.ensures.free c.lead_quietly.ensures.row

pub returns-in-LeadsOut-clause-says : goal.returns-in-LeadsOut-clause-says
returns-in-LeadsOut-clause-says c = turned_says c.args.program.now c.args.self.now c.go_in-stop.new.self c.lead_quietly.new.self c.lead_quietly.result c.in-LeadsOut.ensures.quiet c.lead_quietly.ensures.says

pub returns-in-LeadsOut-clause-touches : goal.returns-in-LeadsOut-clause-touches
returns-in-LeadsOut-clause-touches c = λ none. turned_to c.args.program.now c.args.self.now c.go_in-stop.new.self c.lead_quietly.new.self c.in-Some-method_code.code.now c.in-LeadsOut.op c.in-LeadsOut.ensures.quiet c.in-LeadsOut.ensures.stopped (c.lead_quietly.ensures.none none) (c.lead_quietly.ensures.touches none)

pub returns-in_default-stop-clause-touches : goal.returns-in_default-stop-clause-touches
returns-in_default-stop-clause-touches c = λ none. touches_stopped c.args.program.now c.args.self.now c.go_in-stop.new.self c.in-Some-method_code.code.now c.go_in-stop.result c.go_in-stop.ensures.quiet c.go_in-stop.ensures.stopped c.in_default-stop.not-Limit (λ o e nothing. c.in_default-stop.not-LeadsOut o e)

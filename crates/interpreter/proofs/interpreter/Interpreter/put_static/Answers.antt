use Rattle.std.proofs.Common.{List, ap, ◌∙◌}
use Rattle.bodies.specs.declared.does.Does.TheVariants as does
use Rattle.hierarchy.specs.declared.value.Value.{Value}
use Rattle.frames.specs.Activations.{Activation}
use Rattle.interpreter.specs.declared.phase.Phase.TheVariants.{Runs}
use Rattle.interpreter.specs.Says.{value_on_top}
use Rattle.interpreter.proofs.Saying.{puts_quietly, puts_sayable}
use Rattle.interpreter.proofs.interpreter.Interpreter.put_static.Goals as goal

pub returns-clause-says : goal.returns-clause-says
returns-clause-says c = puts_quietly c.args.program.now c.args.self.now _ _ c.args.class c.args.field c.requires.phase c.requires.at
    (ap (λ (v : Value). does.Puts c.args.class c.args.field v) (c.value_on_top-value.ensures ∙ ap value_on_top c.operand.ensures)) (ap (λ (frames : List Activation). record c.args.self.now { frames = frames; phase = Runs }) c.take.ensures)

pub returns-clause-sayable : goal.returns-clause-sayable
returns-clause-sayable c = puts_sayable c.args.program.now c.args.self.now.frames c.args.self.now.phase _ c.args.class c.args.field c.instructions_name_what_is_there.ensures c.requires.phase c.requires.at
    (ap (λ (v : Value). does.Puts c.args.class c.args.field v) (c.value_on_top-value.ensures ∙ ap value_on_top c.operand.ensures))

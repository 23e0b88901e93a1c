use Rattle.std.proofs.Common.{Option, ap, refl, ◌∙◌}
use Rattle.frames.specs.declared.thrown.Thrown.{Thrown}
use Rattle.interpreter.specs.declared.phase.Phase.TheVariants.{Over}
use Rattle.interpreter.proofs.Saying.{returns_quietly, throws_quietly}
use Rattle.interpreter.proofs.interpreter.Interpreter.over.Goals as goal

pub returns-in-Some-clause-says : goal.returns-in-Some-clause-says
returns-in-Some-clause-says c = throws_quietly c.args.program.now c.args.self.now _ c.in-Some.object c.answer-left.result (c.requires ∙ ap (λ (t : Option Thrown). Over t) c.in-Some.is) c.answer-left.ensures refl

pub returns-in-None-clause-says : goal.returns-in-None-clause-says
returns-in-None-clause-says c = returns_quietly c.args.program.now c.args.self.now _ (c.requires ∙ ap (λ (t : Option Thrown). Over t) c.in-None.is) refl

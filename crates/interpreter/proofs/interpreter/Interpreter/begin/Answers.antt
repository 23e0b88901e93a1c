use Rattle.std.proofs.Common.{◌<◌, ◌≤◌, ◌∷◌, List, true, ap, refl, subst, ◌∙◌}
use Rattle.frames.specs.Activations.{Activation, activation}
use Rattle.interpreter.specs.Rows.{enters_first, is_too_deep, lacks_locals}
use Rattle.interpreter.specs.declared.phase.Phase.{Phase}
use Rattle.interpreter.proofs.interpreter.Interpreter.begin.Goals as goal

pub returns-then-given-code-clause-ok : goal.returns-then-given-code-clause-ok
returns-then-given-code-clause-ok c = lacks_locals c.requires c.if-given-code.true refl

pub returns-then-len-ge512-clause-ok : goal.returns-then-len-ge512-clause-ok
returns-then-len-ge512-clause-ok c = is_too_deep c.requires c.if-given-code.false (subst (λ n. 512 ≤ n) c.len.ensures c.if-len-ge512.true) refl

pub returns-clause-ok : goal.returns-clause-ok
returns-clause-ok c = enters_first c.requires c.if-given-code.false (subst (λ n. n < 512) c.len.ensures c.if-len-ge512.false)
    (ap (λ (frames : List Activation). record c.args.self.now { frames = frames; phase = c.phase_of-self.result }) c.in_ok-begin.ensures.ok ∙
    ap (λ (phase : Phase). record c.args.self.now { frames = activation c.args.class.number c.args.method true c.args.code.now c.args.given.now ∷ c.args.self.now.frames; phase = phase }) c.phase_of-self.ensures)

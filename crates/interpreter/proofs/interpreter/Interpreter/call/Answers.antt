use Rattle.std.proofs.Common.{◌<◌, List, ap, subst, ◌∙◌}
use Rattle.frames.specs.Activations.{Activation, called}
use Rattle.interpreter.specs.Rows.{calls}
use Rattle.interpreter.specs.declared.phase.Phase.{Phase}
use Rattle.interpreter.proofs.interpreter.Interpreter.call.Goals as goal

pub returns-clause-ok : goal.returns-clause-ok
returns-clause-ok c = calls c.requires.callee c.requires.few c.requires.fits (subst (λ n. n < 512) c.len.ensures c.if-len-ge512.false)
    (ap (λ (frames : List Activation). record c.args.self.now { frames = frames; phase = c.phase_of-self.result }) c.in_ok-call.ensures.ok ∙
    ap (λ (phase : Phase). record c.args.self.now { frames = called c.args.class c.args.method c.args.callee.now c.args.count c.args.self.now.frames; phase = phase }) c.phase_of-self.ensures)

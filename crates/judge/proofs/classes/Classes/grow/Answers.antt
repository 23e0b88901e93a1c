use Rattle.std.proofs.Common.{rules, ◌≡◌, length, ap, ◌∙◌}
use Rattle.hierarchy.specs.LinkedProgram.{id}
use Rattle.statics.specs.Statics.{statics_of}
use Rattle.judge.proofs.States.{one_more}
use Rattle.judge.proofs.classes.Classes.grow.Goals as goal

pub classes-preserved : goal.classes-preserved
classes-preserved c = λ events h.
    let q : c.len-number.result ≡ length c.classes.self.states.items = search rules in
    rw c.in_ok-push.ensures.items (one_more c.args.program.now c.classes.self.states.items events (c.classes.invariant events h) c.in_ok-state.state (c.in_ok-state.ensures.class ∙ ap id q) (c.in_ok-state.ensures.fields ∙ ap (λ n. statics_of c.args.program.now (id n)) q) c.in_ok-state.ensures.events)

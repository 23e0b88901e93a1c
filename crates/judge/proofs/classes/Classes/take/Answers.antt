use Rattle.judge.proofs.States.{class_stepped, class_breaks}
use Rattle.judge.proofs.classes.Classes.take.Goals as goal

pub returns-clause-fits : goal.returns-clause-fits
returns-clause-fits c = λ none events h.
    class_stepped c.args.program.now c.grow.new.self.states.items events (c.in_ok-grow.ensures.states events h) c.args.thread c.args.class c.args.kind.now c.index_mut-state.result.now c.step.new.state c.in_ok-grow.ensures.within c.index_mut-state.ensures.value (λ st. c.step.ensures.fits none c.args.program.now c.args.class _ st)

pub returns-clause-breaks : goal.returns-clause-breaks
returns-clause-breaks c =
    class_breaks c.args.program.now c.args.self.now.states.items c.grow.new.self.states.items c.args.thread c.args.class c.args.kind.now c.index_mut-state.result.now c.step.result c.in_ok-grow.ensures.within c.index_mut-state.ensures.value c.in_ok-grow.ensures.states c.step.ensures.breaks

use Rattle.std.proofs.Common.{◌+◌, ◌-◌, List, vec_len}
use Rattle.init_core.specs.declared.event.Event.{Event}
use Rattle.judge.specs.Judging.{AreStatesAfter}
use Rattle.judge.proofs.classes.Classes.grow.Given as goal

abbrev pub invariant-classes : goal.invariant-classes
invariant-classes l = (events : List Event) → AreStatesAfter l.program l.initial.self.states.items events → AreStatesAfter l.program l.self.states.items events

abbrev pub decreases-classes : goal.decreases-classes
decreases-classes l = l.class.number + 1 - vec_len l.self.states

use Rattle.bodies.specs.Sharing.{used_bodies}
use Rattle.std.proofs.Common.{refl, sym, ◌∙◌}
use Rattle.replayer.proofs.Stepping.{entered_main, main_left}
use Rattle.replayer.proofs.thread.Thread+Used+B+B+Shared.enter_main.Goals as goal

pub returns-in_default-outcome : goal.returns-in_default-outcome
returns-in_default-outcome g c = record {
  going = main_left c.args.program.now (used_bodies (g.B.Bodies.making c.args.program.now)) c.args.log.now c.args.self.now _ c.requires.idle (sym c.last.ensures ∙ c.in-Some.is) c.in_default-outcome.not-Normal c.requires.before c.requires.going;
  same = record { number = refl; main = refl; start = refl; gave_up = refl; done = refl };
  uses = refl;
}

pub returns-clause-going : goal.returns-clause-going
returns-clause-going g c = entered_main c.args.program.now (used_bodies (g.B.Bodies.making c.args.program.now)) c.args.log.now c.args.self.now c.forget_last.new.self c.enter.new.self c.in-Some.field-0 c.requires.idle (sym c.last.ensures ∙ c.in-Some.is) c.in-Normal.is c.requires.before c.forget_last.ensures.standing c.enter.ensures c.requires.going

use Rattle.std.proofs.Common.{◌∙◌, sym}
use Rattle.bodies.specs.Sharing.{free_bodies}
use Rattle.guest_threads.proofs.Acting.{entered_main, main_left}
use Rattle.guest_threads.proofs.Viewing.{working_at}
use Rattle.guest_threads.proofs.task.Task.enter_main.Goals as goal

pub returns-in_default-outcome : goal.returns-in_default-outcome
returns-in_default-outcome g c = main_left (free_bodies (g.B.Bodies.making c.args.self.now.program)) c.args.self.now c.args.work.now _ c.requires.idle (sym c.last.ensures ∙ c.in-Some.is) c.in_default-outcome.not-Normal c.requires.before c.requires.working

pub returns : goal.returns
returns g c = working_at g.B.Bodies.making c.self.view_is (entered_main _ _ c.args.work.now c.forget_last.new.self c.enter.new.self c.in-Some.field-0 c.requires.idle (sym c.last.ensures ∙ c.in-Some.is) c.in-Normal.is c.requires.before c.forget_last.ensures.standing c.enter.ensures (working_at g.B.Bodies.making (sym c.self.view_is) c.requires.working))

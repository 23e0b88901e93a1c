use Rattle.bodies.specs.Sharing.{used_bodies}
use Rattle.std.proofs.Common.{rules, ◌≡◌, ◌∷◌, [], None, false, refl}
use Rattle.init_core.specs.declared.frames.Phase.TheVariants.{Looking}
use Rattle.init_core.specs.Leads.{frame, standing}
use Rattle.replayer.proofs.Stepping.{starts}
use Rattle.replayer.proofs.thread.Thread+Used+B+B+Shared.begin.Goals as goal

pub returns : goal.returns
returns g c =
    let is : c.request.new.self ≡ standing (frame c.args.main (Looking false) ∷ []) None = search rules in
    let going = starts c.args.program.now (used_bodies (g.B.Bodies.making c.args.program.now)) c.args.log.now _ c.requires.number c.requires.main c.requires.log c.requires.none is c.of.ensures refl refl in
    record { going = going; number = search rules; main = search rules; start = search rules; bodies = search rules; done = search rules; gave_up = search rules }

use Rattle.bodies.specs.Doing.{MayDo}
use Rattle.bodies.specs.Sharing.{used_bodies}
use Rattle.replayer.specs.Going.{IsDoing}
use Rattle.replayer.proofs.Acting.{if_both, next_does}
use Rattle.replayer.proofs.Touching.{held_with}
use Rattle.replayer.proofs.body.Thread+Used+B+B+Shared.next.Goals as goal

pub returns-clause-doing : goal.returns-clause-doing
returns-clause-doing g c =
    let p = c.args.program.now in
    let M = g.B.Bodies.making p in
    let w = c.args.self.now in
    let last = c.last-last.result in
    if_both (λ d. (used_bodies M).does w.bodies last d c.next.new.self) (λ d. MayDo p (used_bodies M).limits last d c.next.new.self) (λ d. IsDoing p (used_bodies M) c.args.log.now d (record w { bodies = c.next.new.self })) c.next.result
    (λ d does fits. next_does p (used_bodies M) c.args.log.now w last d c.next.new.self (λ s u x o came held then. held_with M (λ a b z h last again d. g.met.B.Bodies.waits_on p a b z h last again d) came held.0 held.1 then) c.last-last.ensures does fits c.requires.body c.requires.goes_on c.requires.resting)
    c.next.ensures.does c.next.ensures.fits

use Rattle.std.proofs.Common.{rules, ◌≡◌, ◌+◌, ap, arith}
use Rattle.bodies.specs.Sharing.{free_bodies}
use Rattle.guest_threads.proofs.Passing.{View, roomier}
use Rattle.guest_threads.proofs.task.Task.has_room.Goals as goal

pub returns-clause-working : goal.returns-clause-working
returns-clause-working g c =
    let made : c.reserve.new.self ≡ record c.args.work.now.pass { room = c.args.work.now.pass.room + 64 } = search rules in
    roomier (free_bodies (g.B.Bodies.making c.args.self.now.program)) c.args.self.now c.args.work.now c.reserve.new.self (c.args.work.now.slack + 64)
    (record { table = ap (λ (x : View). x.table) made; number = ap (λ (x : View). x.number) made; opening = ap (λ (x : View). x.opening) made }) (ap (λ (x : View). x.journal) made) (ap (λ (x : View). x.places) made)
    (let r = c.requires.working.room in let m = ap (λ (x : View). x.room) made in omega arith) c.requires.working

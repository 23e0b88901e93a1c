use Rattle.bodies.specs.Sharing.{free_bodies}
use Rattle.guest_threads.proofs.Acting.{has_come, has_come_on, body_on}
use Rattle.guest_threads.proofs.task.Task.go_on.Goals as goal

pub leave-requires-clause-come : goal.leave-requires-clause-come
leave-requires-clause-come g c = has_come (free_bodies (g.B.Bodies.making c.args.self.now.program)) c.args.self.now c.args.work.now c.requires.body c.requires.working

pub leave_at-requires-clause-come : goal.leave_at-requires-clause-come
leave_at-requires-clause-come g c = has_come (free_bodies (g.B.Bodies.making c.args.self.now.program)) c.args.self.now c.has_room.new.work (body_on (free_bodies (g.B.Bodies.making c.args.self.now.program)) c.args.self.now c.args.work.now c.has_room.new.work c.if-not-has_room.ensures.unmoved c.requires.body) c.if-not-has_room.ensures.working

pub leave_at-requires-in-Ended-clause-come : goal.leave_at-requires-in-Ended-clause-come
leave_at-requires-in-Ended-clause-come g c = has_come_on (free_bodies (g.B.Bodies.making c.args.self.now.program)) c.args.self.now c.next.new.work _ c.in-Ok.ensures.doing

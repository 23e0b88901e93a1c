use Rattle.std.proofs.Common.{ℕ, refl, sym, subst}
use Rattle.bodies.specs.declared.report.Limit.TheVariants.{Memory}
use Rattle.bodies.specs.declared.report.ThreadOutcome.TheVariants.{Ended}
use Rattle.bodies.specs.Sharing.{free_bodies}
use Rattle.guest_threads.specs.Working.{Works}
use Rattle.guest_threads.proofs.Telling.{refused, starts}
use Rattle.guest_threads.proofs.work.work_from.Goals as goal

pub returns-in_default-clause-done : goal.returns-in_default-clause-done
returns-in_default-clause-done g c = refused (free_bodies (g.B.Bodies.making c.args.program.now)) (record { program = c.args.program.now; table = c.args.table.now; limits = c.args.limits; number = c.args.pass.number; main = c.args.main; start = c.args.bodies }) (record { pass = c.args.pass; outcome = Ended Memory }) refl refl c.requires.begins.none

pub work-requires : goal.work-requires
work-requires g c = starts (free_bodies (g.B.Bodies.making c.args.program.now)) (record { program = c.args.program.now; table = c.args.table.now; limits = c.args.limits; number = c.number.result; main = c.args.main; start = c.of.result.value }) c.args.pass c.in-Ok.procedure c.args.bodies c.requires.main (subst (λ (n : ℕ). Works c.args.program.now c.args.table.now n c.args.pass) (sym c.number.ensures) c.requires.begins.works) c.requires.begins.none c.requires.begins.unseen c.in-Ok.ensures (sym c.of.ensures)

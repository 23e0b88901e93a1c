use Rattle.init_core.proofs.MainFinishing.{begun_can_finish}
use Rattle.init_core.proofs.ThreadByThread.{begins_legal}
use Rattle.init_core.proofs.laws.beginnings.Goals as goal

pub returns-clause-threads : goal.returns-clause-threads
returns-clause-threads c = λ p t m xs begun. begun_can_finish p t m xs begun

pub returns-clause-all : goal.returns-clause-all
returns-clause-all c = λ p mains events so_far. begins_legal p mains events so_far

use Rattle.hierarchy.specs.Subclasses.{itself}
use Rattle.library_tests.proofs.schedules.ends.Goals as goal

pub body_ended-requires-clause-thrown : goal.body_ended-requires-clause-thrown
body_ended-requires-clause-thrown c = rw (c.built_in.ensures, c.requires.program) itself

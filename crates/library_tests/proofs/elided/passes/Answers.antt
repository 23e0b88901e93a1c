use Rattle.library_tests.proofs.OneRecord.{in_hand}
use Rattle.library_tests.proofs.elided.passes.Goals as goal

pub initializes-is_initialized-requires-clause-hand : goal.initializes-is_initialized-requires-clause-hand
initializes-is_initialized-requires-clause-hand g c =
    let first = c.in_ok-table.ensures.first in
    in_hand c.args.program.now c.in_ok-table.table c.in_ok-table.first c.take-taken.new.pass c.in-Ok.held c.requires first.0 first.2 c.in-Ok.ensures.taken

use Rattle.std.proofs.Common.{rules}
use Rattle.cli.specs.Checking.{no_room}
use Rattle.cli.proofs.checking.judge_events.Goals as goal

pub returns-in_err-verdict-clause-refused : goal.returns-in_err-verdict-clause-refused
returns-in_err-verdict-clause-refused g c = search (rules, no_room)

use Rattle.std.proofs.Common.{ap, sym, ◌∙◌}
use Rattle.clap.specs.Walk.{rows_of}
use Rattle.clap.specs.Words.{found_of}
use Rattle.command_line.specs.CommandLine.{request_by, request_to}
use Rattle.command_line.proofs.CommandLine.{entered_by, entered_none, found_by_rows}
use Rattle.command_line.proofs.parse.Goals as goal

pub returns-in-Some-clause-asked : goal.returns-in-Some-clause-asked
returns-in-Some-clause-asked c =
    let entered = entered_by c.in_ok-matches.matches c.in-Some.name.now (rows_of (found_of c.in-Some.found.now)) c.in-Some.ensures.name c.in-Some.ensures.rows in
    c.asked_of.ensures ∙ ap (request_to c.in-Some.name.now) c.in_ok-options-in-Some.ensures ∙ found_by_rows c.in-Some.name.now (found_of c.in-Some.found.now)
    ∙ ap request_by (sym entered ∙ c.in_ok-matches.ensures.found)

pub returns-clause-asked : goal.returns-clause-asked
returns-clause-asked c = ap request_by (sym (entered_none c.in_ok-matches.matches c.in-None.ensures.name) ∙ c.in_ok-matches.ensures.found)

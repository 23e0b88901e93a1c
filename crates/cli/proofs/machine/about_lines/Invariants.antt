use Rattle.std.proofs.Common.{◌≤◌, vec_len}
use Rattle.cli.specs.declared.machine.TheConstants.{MOST_ABOUT}
use Rattle.cli.proofs.machine.about_lines.Given as goal

abbrev pub invariant-loop-line : goal.invariant-loop-line
invariant-loop-line l =
    (goal.iterator-loop-line).can_next l.line-iterator × (goal.iterator-loop-line).is_finite l.line-iterator ×
    (vec_len l.lines ≤ MOST_ABOUT)

use Rattle.std.proofs.Common.{false, ◌≡◌, ◌++◌, ◌-◌, length}
use Rattle.cli.specs.NeedsText.{needs_from, needs_text}
use Rattle.cli.proofs.needed.write_needs.Given as goal

abbrev pub invariant-loop-number : goal.invariant-loop-number
invariant-loop-number l = l.out.is_lost ≡ false → l.out.text ++ needs_from l.program l.number (length l.program.classes - l.number) ≡ needs_text l.program

use Rattle.std.proofs.Common.{false, ◌≡◌, ◌++◌, drop}
use Rattle.cli.specs.NeedsText.{names_text}
use Rattle.cli.proofs.needed.write_names.Given as goal

abbrev pub invariant-loop-class : goal.invariant-loop-class
invariant-loop-class l = l.out.is_lost ≡ false → (l.fn.out.is_lost ≡ false) × (l.out.text ++ names_text l.program (drop l.class-index l.classes) ≡ l.fn.out.text ++ names_text l.program l.classes)

use Rattle.std.proofs.Common.{◌≡◌, length}
use Rattle.clap.specs.Walk.{texts}
use Rattle.cli.specs.Explained.{texts_of_codes}
use Rattle.cli.proofs.Names.{after_text}
use Rattle.cli.proofs.explaining.texts_of_names.Given as goal

abbrev pub decreases-loop-rest : goal.decreases-loop-rest
decreases-loop-rest l = length l.rest

abbrev pub invariant-loop-rest : goal.invariant-loop-rest
invariant-loop-rest l = texts_of_codes (texts l.names) ≡ after_text l.text.items (texts_of_codes (texts l.rest))

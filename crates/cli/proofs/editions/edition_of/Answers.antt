use Rattle.std.proofs.Common.{rules}
use Rattle.cli.specs.Editions.{no_edition}
use Rattle.cli.proofs.editions.edition_of.Goals as goal

pub returns-clause-refused : goal.returns-clause-refused
returns-clause-refused c = no_edition (search rules)

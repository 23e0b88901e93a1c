use Rattle.std.proofs.Common.{◌≡◌, ◌∷◌, [], List, None, ℕ, rules}
use Rattle.clap.specs.Walk.{texts}
use Rattle.cli.specs.Explained.{explanation_of, texts_of_codes}
use Rattle.cli.specs.Refusals.{no_text, unknown}
use Rattle.cli.proofs.explaining.explanation.Goals as goal

-- one of them is no code
no_code : (names : List (List ℕ)) → texts_of_codes names ≡ None → explanation_of names ≡ None
no_code [] none = cc
no_code (name ∷ names) none = none

pub returns-in_err-list-clause-refused : goal.returns-in_err-list-clause-refused
returns-in_err-list-clause-refused c = search (rules, no_text)

pub returns-in_err-text-clause-refused : goal.returns-in_err-text-clause-refused
returns-in_err-text-clause-refused c = search (rules, no_text)

pub returns-in-None-clause-refused : goal.returns-in-None-clause-refused
returns-in-None-clause-refused c = unknown (no_code (texts c.args.names.now) (search rules))

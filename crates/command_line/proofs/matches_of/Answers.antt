use Rattle.std.proofs.Common.{ap, subst, sym, ◌∙◌}
use Rattle.std.proofs.lemmas.Result.{IfOk-weaker}
use Rattle.clap.specs.Walk.{texts}
use Rattle.clap.specs.Words.{FailsBy, fault_of, is_simple, is_simple_and_free, subcommand_of}
use Rattle.command_line.specs.CommandLine.{faults_in, rows_in}
use Rattle.command_line.proofs.NamedSubcommands.{is_told, is_told_of_faults, same_faults, same_rows}
use Rattle.command_line.proofs.matches_of.Goals as goal

pub returns-clause-found : goal.returns-clause-found
unfolding rows_in
returns-clause-found c =
    let app = c.in_ok-command.ensures in
    let words = texts c.args.words.now in
    IfOk-weaker c.try_get_matches_from.result _ _ (λ m h. (h (ap is_simple app ∙ is_told words)).1 ∙ ap (λ a. subcommand_of a words) app ∙ same_rows words) c.try_get_matches_from.ensures.matches

pub returns-clause-fails : goal.returns-clause-fails
unfolding faults_in
returns-clause-fails c =
    let app = c.in_ok-command.ensures in
    let words = texts c.args.words.now in
    subst (λ kinds. FailsBy kinds c.try_get_matches_from.result) (ap (λ a. fault_of a words) app ∙ same_faults words) (c.try_get_matches_from.ensures.kinds (ap is_simple_and_free app ∙ is_told_of_faults words))

use Rattle.std.proofs.Common.{◌≡◌, rules, codes}
use Rattle.std.proofs.lemmas.Result.{IfOk-weaker}
use Rattle.clap.specs.Words.{App, Rule, Text, app_of, new_app, with_rule}
use Rattle.command_line.specs.CommandLine.{file_words, option_named, subcommand_named, with_run_options, with_trace}
use Rattle.command_line.proofs.line.subcommand.Goals as goal

built : (name : Text) (begun traced limited dated whole : App) (files : Rule) → begun ≡ new_app name → traced ≡ with_trace begun → limited ≡ with_run_options traced
    → dated ≡ with_rule limited (option_named (codes "edition")) → files ≡ file_words → whole ≡ with_rule dated files → whole ≡ subcommand_named name
unfolding subcommand_named
built name begun traced limited dated whole files b t l d f w = cc

pub returns-clause-rules : goal.returns-clause-rules
returns-clause-rules c =
    let begun : app_of c.after_help-command.result ≡ new_app c.args.name.now = search rules in
    IfOk-weaker c.with_argument.result _ _ (λ m is. built c.args.name.now _ _ _ _ _ _ begun c.in_ok-command.ensures.rules c.in_ok-command-2.ensures.rules c.in_ok-command-3.ensures.rules c.files_argument.ensures.rule is) c.with_argument.ensures.rules

use Rattle.std.proofs.Common.{◌≡◌}
use Rattle.std.proofs.lemmas.Result.{IfOk-weaker}
use Rattle.std.specs.Prelude.{codes}
use Rattle.clap.specs.Words.{App, app_of, with_rule}
use Rattle.command_line.specs.CommandLine.{option_named, with_run_options}
use Rattle.command_line.proofs.line.with_run_options.Goals as goal

built : (begun ordered replayed limited whole : App) → ordered ≡ with_rule begun (option_named (codes "order")) → replayed ≡ with_rule ordered (option_named (codes "replay"))
    → limited ≡ with_rule replayed (option_named (codes "steps")) → whole ≡ with_rule limited (option_named (codes "patience")) → whole ≡ with_run_options begun
unfolding with_run_options
built begun ordered replayed limited whole o r s p = cc

pub returns-clause-rules : goal.returns-clause-rules
returns-clause-rules c =
    IfOk-weaker c.with_option-4.result _ _ (λ m is. built (app_of c.args.command) _ _ _ _ c.in_ok-command.ensures.rules c.in_ok-command-2.ensures.rules c.in_ok-command-3.ensures.rules is) c.with_option-4.ensures.rules

use Rattle.std.proofs.Common.{◌≡◌, List, codes}
use Rattle.std.proofs.lemmas.Result.{IfOk-weaker}
use Rattle.clap.specs.Walk.{Text, texts}
use Rattle.clap.specs.Words.{App, app_of, with_subcommand}
use Rattle.command_line.specs.CommandLine.{bare_line, line_for, subcommand_for}
use Rattle.command_line.proofs.line.command.Goals as goal

built : (words : List Text) (bare run check needs whole : App) → bare ≡ bare_line → run ≡ with_subcommand bare (subcommand_for words (codes "run")).top
    → check ≡ with_subcommand run (subcommand_for words (codes "check")).top → needs ≡ with_subcommand check (subcommand_for words (codes "needs")).top
    → whole ≡ with_subcommand needs (subcommand_for words (codes "explain")).top → whole ≡ line_for words
unfolding line_for
built words bare run check needs whole b r c n w = cc

pub returns : goal.returns
returns c =
    IfOk-weaker c.with_subcommand_named-4.result _ _ (λ m is. built (texts c.args.words.now) _ _ _ _ _ c.bare_command-command.ensures c.in_ok-command.ensures c.in_ok-command-2.ensures c.in_ok-command-3.ensures is) c.with_subcommand_named-4.ensures

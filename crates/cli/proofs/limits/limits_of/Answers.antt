use Rattle.std.proofs.Common.{subst, sym}
use Rattle.command_line.specs.CommandLine.{text_of}
use Rattle.cli.specs.Limits.{IsLimitRefusal, no_steps, no_patience}
use Rattle.cli.proofs.limits.limits_of.Goals as goal

pub returns-in-Err-clause-refused : goal.returns-in-Err-clause-refused
returns-in-Err-clause-refused c = subst (IsLimitRefusal (text_of c.args.steps) (text_of c.args.patience)) (sym c.in-Err.ensures.refused.0) (no_steps c.in-Err.ensures.refused.1)

pub returns-in-Err-patience_of-clause-refused : goal.returns-in-Err-patience_of-clause-refused
returns-in-Err-patience_of-clause-refused c = subst (IsLimitRefusal (text_of c.args.steps) (text_of c.args.patience)) (sym c.in-Err-patience_of.ensures.refused.0)
    (no_patience c.in-Ok.steps c.in-Ok.ensures.said c.in-Err-patience_of.ensures.refused.1)

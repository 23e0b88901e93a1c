use Rattle.std.proofs.Common.{rules, arith, ◌≡◌, ◌≤◌, List, length, sym, subst}
use Rattle.interpreter.specs.declared.interpreter.Interpreter.{Interpreter}
use Rattle.cli.specs.Running.{starts_below}
use Rattle.cli.proofs.Starts.{one_more}
use Rattle.cli.proofs.running.interpreters.Goals as goal

pub threads-preserved : goal.threads-preserved
threads-preserved c =
    let few : length c.push.new.self.items ≤ c.args.count = search rules in
    (subst (λ (ys : List Interpreter). ys ≡ starts_below (length ys) c.args.limits.steps) (sym c.in_ok-push.ensures.items) (one_more c.threads.made.items c.new.result c.args.limits.steps _ c.threads.invariant.0 c.new.ensures (search (rules, arith))), few)

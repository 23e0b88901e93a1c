use Rattle.std.proofs.Common.{rules, ◌≡◌, List, [], ◌∷◌, subst}
use Rattle.interpreter.specs.declared.interpreter.Interpreter.{Interpreter}
use Rattle.interpreter.specs.CodeRun.{alone_bodies, interpreter_at_start}
use Rattle.replayer.specs.OrderedRun.{IsOrderedRunOf}
use Rattle.cli.proofs.running.run_alone.Goals as goal

pub returns-clause-ran : goal.returns-clause-ran
returns-clause-ran c =
    let starts : c.push.new.self.items ≡ interpreter_at_start 0 c.args.limits.steps ∷ [] = search rules in
    subst (λ (ss : List Interpreter). IsOrderedRunOf c.args.program.now (alone_bodies c.args.program.now) tt ss (c.args.main ∷ []) c.args.order.now c.in_ok-report.report) starts c.in_ok-report.ensures

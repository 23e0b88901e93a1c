use Rattle.std.proofs.Common.{◌≡◌, ℕ, List, [], ◌∷◌, ◌++◌, ◌<◌, ◌≤◌, Option as Opt, Some, None, IfSome, ap, ◌∙◌, subst, arith}
use Rattle.init_lock.specs.declared.journal.Stamped.{Stamped}
use Rattle.init_lock.specs.Merging.{end_of}
use Rattle.init_lock.proofs.Merges.{end_snoc}
use Rattle.init_lock.proofs.journal.Journal.pop_from.Goals as goal

is_late : {E : Type 0} (o : Opt (Stamped E)) (old new : List (Stamped E)) (start : ℕ) → IfSome o (λ s. old ≡ new ++ s ∷ []) → start < end_of old → IfSome o (λ s. (old ≡ new ++ s ∷ []) × (start ≤ s.stamp))
is_late (Some s) old new start e h = (e, let n = ap end_of e ∙ end_snoc new s in omega arith)
is_late None old new start e h = tt

pub returns-clause-some : goal.returns-clause-some
returns-clause-some g c = is_late c.pop.result c.args.self.now.events c.pop.new.self.events c.args.start c.pop.ensures.some (subst (λ n. c.args.start < n) c.end.ensures c.if-end-start.false)

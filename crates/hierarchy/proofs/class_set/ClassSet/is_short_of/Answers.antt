use Rattle.std.proofs.Common.{◌∙◌, sym, arith}
use Rattle.std.proofs.lemmas.Bool.{not-true}
use Rattle.hierarchy.proofs.ClassSets.{none_apart, one_apart}
use Rattle.hierarchy.proofs.Searches.{length-get_none}
use Rattle.hierarchy.proofs.class_set.ClassSet.is_short_of.Goals as goal

pub returns-then-len-lt2-clause-apart : goal.returns-then-len-lt2-clause-apart
returns-then-len-lt2-clause-apart c = λ h.
    one_apart c.args.self.now c.args.other.now c.in-Some.first (omega (arith, c.len.ensures, c.if-len-lt2.true)) (sym c.in-Some.is ∙ c.at.ensures) c.is_distinct.ensures (sym c.contains.ensures ∙ not-true c.contains.result h)

pub returns-in-None-clause-few : goal.returns-in-None-clause-few
returns-in-None-clause-few c = λ h. let none = length-get_none c.args.self.now 0 (sym c.in-None.is ∙ c.at.ensures) in omega (arith, none)

pub returns-in-None-clause-apart : goal.returns-in-None-clause-apart
returns-in-None-clause-apart c = λ h. none_apart c.args.self.now c.args.other.now (sym c.in-None.is ∙ c.at.ensures) c.is_distinct.ensures

use Rattle.std.proofs.Common.{lit<, rules, tests}
use Rattle.std.proofs.lemmas.Iterator.Search.{find_from_yields_List}
use Rattle.std.proofs.lemmas.Iterator.Splits.{YieldsList-from_str_split}
use Rattle.explanations.specs.Codes as spec
use Rattle.explanations.proofs.codes.section_of.Goals as goal

pub returns : goal.returns
unfolding spec.section_of
returns c =
    find_from_yields_List (λ section. spec.is_code_line (spec.head_of section) c.args.code.now) _ _ _ c.find.ensures.ran
    (YieldsList-from_str_split 126 c.args.text.now (lit< tt) c.split.ensures.text c.split.ensures.has_more c.split.ensures.pattern)
    (λ x b q k. search (rules, tests))

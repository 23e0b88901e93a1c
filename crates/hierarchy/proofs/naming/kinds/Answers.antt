use Rattle.std.proofs.Common.{List, [], ◌∷◌, ◌++◌, sym, ap, ◌∙◌}
use Rattle.std.proofs.lemmas.List.{take_all}
use Rattle.jasmin_text.specs.declared.class_text.ClassKind.{ClassKind}
use Rattle.hierarchy.specs.Linking.{kinds_of}
use Rattle.hierarchy.proofs.Named.{next_kinds}
use Rattle.hierarchy.proofs.naming.kinds.Goals as goal

pub loop-text-preserved : goal.loop-text-preserved
loop-text-preserved c = c.in_ok-push.ensures.items ∙ ap (λ (kinds : List ClassKind). kinds ++ c.text-item.result.kind ∷ []) c.loop-text.invariant ∙ sym (next_kinds c.args.texts.now c.loop-text.text-index c.text-item.result c.loop-text-test.true c.text-item.is)

pub returns : goal.returns
returns c = c.loop-text.invariant ∙ ap kinds_of (take_all c.loop-text.text-index c.args.texts.now c.loop-text-test.false)

use Rattle.std.proofs.Common.{◌∷◌, [], ◌++◌, ◌∙◌, sym, ap, append_assoc}
use Rattle.std.specs.Vec.Iter.{into_iter_items}
use Rattle.std.proofs.lemmas.List.Elements.{All-same, All-push}
use Rattle.jasmin_text.specs.Spellable.{IsSpellable}
use Rattle.hierarchy.proofs.linking.parts_of.Goals as goal

pub loop-text-preserved : goal.loop-text-preserved
loop-text-preserved c =
    let found = c.loop-text.parts.items in
    let text = c.into_parts.result in
    let rest = into_iter_items c.next.new.self in
    record {
      same = ap (λ r. r ++ rest) c.in-Ok.ensures.items ∙ append_assoc found (text ∷ []) rest ∙ ap (λ t. found ++ t ∷ rest) c.into_parts.ensures.parts ∙
          ap (λ r. found ++ r) (sym c.in-Some.ensures.steps.0) ∙
          c.loop-text.invariant.same;
      spellable = All-same IsSpellable _ _ c.in-Ok.ensures.items (All-push IsSpellable found text c.loop-text.invariant.spellable c.into_parts.ensures.spellable);
    }

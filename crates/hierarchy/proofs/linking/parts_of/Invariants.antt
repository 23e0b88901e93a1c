use Rattle.std.proofs.Common.{◌≡◌, ◌++◌}
use Rattle.std.specs.List.{All}
use Rattle.std.specs.Vec.Iter.{into_iter_items}
use Rattle.jasmin_text.specs.Spellable.{IsSpellable}
use Rattle.hierarchy.proofs.linking.parts_of.Given as goal

abbrev pub invariant-loop-text : goal.invariant-loop-text
invariant-loop-text l = record {
  same : l.parts.items ++ into_iter_items l.text-iterator ≡ l.fn.texts.items;
  spellable : All IsSpellable l.parts.items;
}

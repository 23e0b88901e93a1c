use Rattle.std.proofs.Common.{◌∙◌, ◌++◌, ◌∷◌, [], length, ap}
use Rattle.texts.specs.Texts.{has_text}
use Rattle.texts.proofs.Places.{finds_noted}
use Rattle.texts.proofs.Texts.add.Goals as goal

pub invariant_of-self-2 : goal.invariant_of-self-2
invariant_of-self-2 c =
    finds_noted
    c.in_ok-key.key c.in_ok-copy.copy c.args.text.now c.self.inside.places c.insert.new.self c.self.inside.texts.items c.push_reserved.new.self.items c.len.result c.self.invariant
    (ap (has_text c.args.text.now) c.self.view_is ∙ c.requires)
    c.in_ok-key.ensures.items
    c.in_ok-copy.ensures.items
    (c.len.ensures ∙ c.reserve.new.self.ok.0 ∙ ap length c.reserve.ensures.items)
    c.in_ok-insert.ensures.updates
    (c.push_reserved.ensures.items ∙ ap (λ items. items ++ c.in_ok-copy.copy ∷ []) c.reserve.ensures.items)

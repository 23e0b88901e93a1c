use Rattle.std.proofs.Common.{◌≡◌, ◌∙◌, ◌++◌, ◌∷◌, [], refl, ap}
use Rattle.std.specs.List.{zip}
use Rattle.std.proofs.lemmas.List.{length_push}
use Rattle.jasmin_text.specs.Grammar.{place_of}
use Rattle.jasmin_reader.proofs.LabelTables.{new_name, zip_pushed}
use Rattle.jasmin_reader.proofs.labels.Labels.add.Goals as goal

names_after : (c : goal.After-push_reserved) → c.note.new.self ≡ c.self.inside.names ++ c.args.label.now ∷ []
names_after c =
    c.in_ok-note.ensures.noted ∙ rw (new_name c.args.label.now c.self.inside.names c.self.inside.places.items c.self.invariant (ap (λ labels. place_of labels c.args.label.now) c.self.view_is ∙ c.requires)) refl

places_after : (c : goal.After-push_reserved) → c.push_reserved.new.self.items ≡ c.self.inside.places.items ++ c.args.place ∷ []
places_after c = c.push_reserved.ensures.items ∙ ap (λ places. places ++ c.args.place ∷ []) c.reserve.ensures.items

pub invariant_of-self-2 : goal.invariant_of-self-2
invariant_of-self-2 c =
    let named = length_push c.self.inside.names c.args.label.now in
    let placed = length_push c.self.inside.places.items c.args.place in
    rw (names_after c, places_after c, named, placed, c.self.invariant) refl

pub returns-clause-added : goal.returns-clause-added
returns-clause-added c =
    ap (λ names. zip names c.push_reserved.new.self.items) (names_after c) ∙ ap (zip (c.self.inside.names ++ c.args.label.now ∷ [])) (places_after c) ∙
    zip_pushed c.args.label.now c.args.place c.self.inside.names c.self.inside.places.items c.self.invariant ∙ ap (λ labels. labels ++ (c.args.label.now, c.args.place) ∷ []) c.self.view_is

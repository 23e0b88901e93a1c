use Rattle.std.proofs.Common.{◌<◌, ◌∙◌, Some, None, length, refl, sym, ap, arith}
use Rattle.std.proofs.lemmas.Option.{slice_get_read}
use Rattle.jasmin_text.specs.Grammar.{place_of}
use Rattle.jasmin_reader.proofs.LabelTables.{row_of}
use Rattle.jasmin_reader.proofs.labels.Labels.place.Goals as goal

pub returns-in_err-place : goal.returns-in_err-place
returns-in_err-place c =
    let absent = row_of c.args.label.now c.self.inside.names c.self.inside.places.items None c.self.invariant (sym c.in_err-place.was ∙ c.place.ensures.place) in
    c.from_residual.ensures ∙ absent ∙ ap (λ labels. place_of labels c.args.label.now) c.self.view_is

pub returns : goal.returns
returns c =
    let within : c.in_ok-place.place < length c.self.inside.places.items = let named = c.in_ok-place.ensures.within in omega (arith, named, c.self.invariant) in
    let there = row_of c.args.label.now c.self.inside.names c.self.inside.places.items (Some c.in_ok-place.place) c.self.invariant (sym c.in_ok-place.was ∙ c.place.ensures.place) in
    sym (slice_get_read c.self.inside.places.items (length c.self.inside.places.items) c.in_ok-place.place c.index.result.now refl within c.index.ensures) ∙ there ∙ ap (λ labels. place_of labels c.args.label.now) c.self.view_is

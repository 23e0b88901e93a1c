use Rattle.std.proofs.Common.{◌≡◌, ◌∙◌, ap}
use Rattle.std.specs.Option.{is_some}
use Rattle.texts.specs.Texts.{place_of_text}
use Rattle.texts.proofs.Places.{placed, placed_within}
use Rattle.texts.proofs.Texts.place.Goals as goal

is_place : (c : goal.After-copied) → c.copied.result ≡ place_of_text c.args.text.now c.args.self.now
is_place c = c.copied.ensures ∙ c.get.ensures.value ∙ c.self.invariant c.args.text.now ∙ ap (place_of_text c.args.text.now) c.self.view_is

pub returns-clause-found : goal.returns-clause-found
returns-clause-found c = ap is_some (is_place c) ∙ placed c.args.text.now c.args.self.now

pub returns-clause-within : goal.returns-clause-within
returns-clause-within c = placed_within c.args.text.now c.args.self.now c.copied.result (is_place c)

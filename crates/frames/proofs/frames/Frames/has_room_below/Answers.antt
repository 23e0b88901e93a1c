use Rattle.std.proofs.Common.{◌≡◌, ◌-◌, List, Some, length, slice_get, ap, sym, ◌∙◌}
use Rattle.std.specs.Option.{option_copied}
use Rattle.frames.specs.Activations.{Activation, has_room, left}
use Rattle.frames.proofs.Unwound.{room_below}
use Rattle.frames.proofs.frames.Frames.has_room_below.Goals as goal

pub returns-in-Some : goal.returns-in-Some
returns-in-Some c =
    let below : List Activation = c.self.inside.below.items in
    let last : slice_get below (length below - 1) ≡ Some c.in-Some.waiting.now = ap (λ (xs : List Activation). slice_get xs (length xs - 1)) (sym c.as_slice.ensures.value) ∙ sym c.last.ensures.value ∙ ap option_copied c.in-Some.is in
    c.has_room.ensures ∙ sym (room_below _ _ _ c.self.invariant.empty last) ∙ ap (λ (fs : List Activation). has_room (left fs)) c.self.view_is

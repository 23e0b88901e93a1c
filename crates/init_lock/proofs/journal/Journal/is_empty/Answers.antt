use Rattle.std.proofs.Common.{sym, ap, ◌∙◌, map}
use Rattle.init_lock.specs.Packing.{event_in}
use Rattle.init_lock.proofs.Packed.{map_nil}
use Rattle.init_lock.proofs.journal.Journal.is_empty.Goals as goal

pub returns : goal.returns
returns g c =
    let events = ap (λ z. z.events) c.self.view_is in (
      (λ t. sym events ∙ ap (map (event_in g.R.Keeps.unpacked)) (c.is_empty.ensures.0 t)),
      (λ e. c.is_empty.ensures.1 (map_nil (event_in g.R.Keeps.unpacked) c.self.inside.rows.rows (events ∙ e))),
    )

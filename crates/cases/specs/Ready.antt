-- A pass that may begin its rounds.
use Rattle.std.specs.Prelude.{◌≡◌, []}
use Rattle.init_lock.specs.Known.{TableId}
use Rattle.init_lock.specs.Known.{PassFacts, IsAway}

abbrev pub IsReady : {R E : Type 0} → TableId → PassFacts R E → Type 0
IsReady id p = (p.table ≡ id) × (p.journal ≡ []) × (p.room ≡ 0) × IsAway p.places

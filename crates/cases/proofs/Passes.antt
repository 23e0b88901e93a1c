-- Passes of a new table.
use Rattle.std.proofs.Common.{List, [], ◌∷◌, ◌++◌}
use Rattle.std.specs.List.{AllByRecursion}
use Rattle.init_lock.specs.Known.{TableId, PassFacts, IsNewPass}
use Rattle.cases.specs.Ready.{IsReady}

module _ {R E : Type 0} where
  pub are_ready : (id : TableId) (records : List R) (ps : List (PassFacts R E)) → AllByRecursion (IsNewPass id records) ps → AllByRecursion (IsReady id) ps
  are_ready id records [] new = tt
  are_ready id records (p ∷ ps) new = ((new.0.table, new.0.journal, new.0.room, new.0.away), are_ready id records ps new.1)

  -- those before the last one are ready, and it is
  pub last_ready : (id : TableId) (ps : List (PassFacts R E)) (p : PassFacts R E) → AllByRecursion (IsReady id) (ps ++ p ∷ []) → AllByRecursion (IsReady id) ps × IsReady id p
  last_ready id [] p ready = (tt, ready.0)
  last_ready id (q ∷ qs) p ready = let rest = last_ready id qs p ready.1 in ((ready.0, rest.0), rest.1)

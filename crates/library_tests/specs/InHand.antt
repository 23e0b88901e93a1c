-- A record of a class that the first pass of a table has, and changes step by step.
use Rattle.std.specs.Prelude.{◌≡◌, List, Some}
use Rattle.hierarchy.specs.LinkedProgram.{id}
use Rattle.init_core.specs.declared.event.Event.{Event}
use Rattle.init_lock.specs.Known.{PassFacts, HeldFacts, TableFacts, out_of, IsAwayBut}
use Rattle.guest_threads.specs.declared.guarded.Guarded.{Guarded}
use Rattle.guest_threads.specs.Drawing.{Follows}

-- the pass of number 0 has the record of class 0 and no other; it keeps these events, and follows the one that was taken
pub record IsInHand (table : TableFacts) (x : PassFacts Guarded Event) (h : HeldFacts Guarded) (events : List Event) : Type 0 where
  pub of_table : x.table ≡ table.id
  pub number : x.number ≡ 0
  pub place : h.place ≡ 0
  pub out : out_of 0 x.places ≡ Some h.taken
  pub alone : IsAwayBut 0 x.places
  pub class : h.kept.record.class ≡ id 0
  pub keeps : h.kept.record.events ≡ events
  pub follows : Follows h.taken.record h.kept.record

use Rattle.std.proofs.Common.{◌≡◌, ◌++◌, map, Some}
use Rattle.init_lock.proofs.open.shelve.Given as goal

abbrev pub invariant-loop-record : goal.invariant-loop-record
invariant-loop-record g l = (goal.iterator-loop-record g).can_next l.record-iterator × (goal.iterator-loop-record g).is_finite l.record-iterator
    × (l.slots.items ≡ map Some l.yielded) × (l.yielded ++ l.record-iterator.rest.items ≡ l.fn.records.items)

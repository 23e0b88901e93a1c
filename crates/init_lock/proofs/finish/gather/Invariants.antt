use Rattle.std.proofs.Common.{◌≡◌, ◌≤◌, [], ◌++◌, map, vec_capacity}
use Rattle.init_lock.specs.Known.{view_of_pass}
use Rattle.init_lock.specs.Closing.{written}
use Rattle.init_lock.proofs.finish.gather.Given as goal

abbrev pub invariant-loop-pass : goal.invariant-loop-pass
invariant-loop-pass g l = (goal.iterator-loop-pass g).can_next l.pass-iterator × (goal.iterator-loop-pass g).is_finite l.pass-iterator
    × (l.seat.table_id ≡ l.initial.seat.table_id) × (l.seat.id ≡ l.initial.seat.id) × (l.seat.me ≡ (map view_of_pass l.yielded, []))
    × (l.journals.items ≡ map written l.yielded) × (vec_capacity l.initial.journals ≤ vec_capacity l.journals)
    × (l.yielded ++ l.pass-iterator.rest.items ≡ l.fn.passes.items)

use Rattle.std.proofs.Common.{◌≡◌, length}
use Rattle.std.specs.List.{list_all}
use Rattle.hierarchy.specs.ClassLists.{is_among}
use Rattle.hierarchy.proofs.class_set.ClassSet.contains_all.Given as goal

abbrev pub invariant-loop-rest : goal.invariant-loop-rest
invariant-loop-rest l = list_all (λ c. is_among c l.self) l.rest ≡ list_all (λ c. is_among c l.self) l.ids

abbrev pub decreases-loop-rest : goal.decreases-loop-rest
decreases-loop-rest l = length l.rest

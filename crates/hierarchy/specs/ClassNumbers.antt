-- Classes by their numbers alone.
use Rattle.std.specs.Prelude.{ℕ, List, map}
use Rattle.hierarchy.specs.declared.class.ClassId.{ClassId}
use Rattle.hierarchy.specs.declared.class_list.ClassList.{ClassList}
use Rattle.hierarchy.specs.LinkedProgram.{id}

abbrev pub ids : List ℕ → List ClassId
ids numbers = map id numbers

-- the classes that are still to come
abbrev pub classes_in : ClassList → List ClassId
classes_in list = ids list.numbers.now

-- The walk up the superclasses.
use Rattle.std.specs.Prelude.{List}
use Rattle.hierarchy.specs.declared.class.ClassId.{ClassId}
use Rattle.hierarchy.specs.declared.walk.Superclasses.{Superclasses}
use Rattle.hierarchy.specs.Ancestry.{superclasses_from}

-- the classes that are still to come
abbrev pub left : Superclasses → List ClassId
left s = superclasses_from s.program.now.classes s.next

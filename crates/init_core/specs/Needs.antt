-- What the initialization of a class needs first (JVMS SE 8 5.5 step 7, JLS SE 8 12.4.2 step 7; JVMS SE 7 5.5 step 7,
-- JLS SE 7 12.4.2 step 7).
use Rattle.hierarchy.specs.ClassLists.{distinct}
use Rattle.hierarchy.specs.Superinterfaces.{enumeration}
use Rattle.std.specs.Prelude.{Bool, false, nat_lt, List, [], ◌∷◌, ◌++◌, Option, Some, None, length, filter}
use Rattle.std.specs.List.{flat_map}
use Rattle.jasmin_text.specs.declared.class_text.ClassKind.{ClassKind}
use Rattle.jasmin_text.specs.declared.class_text.ClassKind.TheVariants as kind
use Rattle.hierarchy.specs.declared.class.Class.{Class}
use Rattle.hierarchy.specs.declared.class.ClassId.{ClassId}
use Rattle.hierarchy.specs.declared.edition.Edition.{Edition}
use Rattle.hierarchy.specs.declared.edition.Edition.TheVariants as edition
use Rattle.hierarchy.specs.LinkedProgram.{LinkedProgram, class_at}

abbrev pub declares_default_in : Option Class → Bool
declares_default_in None = false
declares_default_in (Some class) = class.declares_default

-- whether it declares a non-abstract, non-static method
abbrev pub declares_default : LinkedProgram → ClassId → Bool
declares_default p c = declares_default_in (class_at p c)

abbrev pub is_in_file : LinkedProgram → ClassId → Bool
is_in_file p c = nat_lt c.number (length p.classes)

-- in edition 7 no superinterface (JVMS SE 7 5.5 step 7); in edition 8 the enumeration of the superinterfaces, of those
-- that declare a non-abstract, non-static method (JVMS SE 8 5.5 step 7)
abbrev pub interfaces_first : Edition → LinkedProgram → List ClassId → List ClassId
interfaces_first edition.Seven p interfaces = []
interfaces_first edition.Eight p interfaces = filter (declares_default p) (flat_map (enumeration p.classes) interfaces)

-- the superclass, if it is in a file, then the superinterfaces that come first in the program's edition; of repeats the first
abbrev pub needs_of_class : LinkedProgram → ClassId → List ClassId → List ClassId
needs_of_class p superclass interfaces = distinct (filter (is_in_file p) (superclass ∷ []) ++ interfaces_first p.edition p interfaces)

abbrev pub needs_by : LinkedProgram → Class → ClassKind → List ClassId
needs_by p class kind.Interface = []
needs_by p class kind.Class = needs_of_class p class.superclass class.interfaces

abbrev pub needs_in : LinkedProgram → Option Class → List ClassId
needs_in p None = []
needs_in p (Some class) = needs_by p class class.kind

-- what is initialized before c: of an interface nothing; of a class its superclass, then in edition 8 its superinterfaces
-- that declare a non-abstract, non-static method
unfoldable pub needs : LinkedProgram → ClassId → List ClassId
needs p c = needs_in p (class_at p c)

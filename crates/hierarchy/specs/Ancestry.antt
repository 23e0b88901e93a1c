-- A class and what lies above it, along some of its direct supertypes (JVMS SE 8 4.1, 5.3.5).
use Rattle.std.specs.Prelude.{ℕ, zero, suc, ◌-◌, List, [], ◌∷◌, Option, Some, None, length, slice_get}
use Rattle.std.specs.List.{flat_map}
use Rattle.std.specs.Option.{option_map, option_or, option_to_list}
use Rattle.hierarchy.specs.declared.class.Class.{Class}
use Rattle.hierarchy.specs.declared.class.ClassId.{ClassId}
use Rattle.hierarchy.specs.declared.built_in.BuiltIn.{BuiltIn}
use Rattle.hierarchy.specs.BuiltIn.{built_ins, superclass_of_built_in}
use Rattle.hierarchy.specs.LinkedProgram.{class_among, built_in_after}
use Rattle.hierarchy.specs.ClassLists.{Among}
use Rattle.hierarchy.specs.Hierarchy.{height}

abbrev pub ancestry_within : ℕ → (ClassId → List ClassId) → ClassId → List ClassId
ancestry_within zero above c = []
ancestry_within (suc depth) above c = c ∷ flat_map (ancestry_within depth above) (above c)

-- c, then the ancestry of each class that is directly above it, in order.
-- In a program each way up ends before the height.
unfoldable pub ancestry : List Class → (ClassId → List ClassId) → ClassId → List ClassId
ancestry classes above c = ancestry_within (height classes) above c

abbrev pub superclass_in : List Class → Option Class → Option BuiltIn → Option ClassId
superclass_in classes (Some class) b = Some class.superclass
superclass_in classes None None = None
superclass_in classes None (Some b) = option_map (built_in_after classes) (superclass_of_built_in b)

-- the direct superclass, an interface's being java/lang/Object, which has none
abbrev pub superclass_of : List Class → ClassId → Option ClassId
superclass_of classes c = superclass_in classes (class_among classes c) (slice_get built_ins (c.number - length classes))

abbrev pub superclass_alone : List Class → ClassId → List ClassId
superclass_alone classes c = option_to_list (superclass_of classes c)

-- c, its direct superclass, and so on up to java/lang/Object
abbrev pub superclasses : List Class → ClassId → List ClassId
superclasses classes c = ancestry classes (superclass_alone classes) c

-- from a class on, if there is one
abbrev pub superclasses_from : List Class → Option ClassId → List ClassId
superclasses_from classes None = []
superclasses_from classes (Some c) = superclasses classes c

-- what the first of these classes gives that gives something
abbrev pub first_given : {X : Type 0} → (ClassId → Option X) → List ClassId → Option X
first_given f [] = None
first_given f (c ∷ cs) = option_or (f c) (first_given f cs)

-- with each class above c its whole ancestry is there
abbrev pub IsWholeAbove : List Class → (ClassId → List ClassId) → ClassId → List ClassId → Type 0
IsWholeAbove classes above c found = (d : ClassId) → Among d (ancestry classes above c) → Among d found → (e : ClassId) → Among e (ancestry classes above d) → Among e found

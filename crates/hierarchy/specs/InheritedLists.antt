-- What a program keeps of the superinterfaces of a class, direct and indirect.
use Rattle.std.specs.Prelude.{List, [], ◌∷◌, Option, Some, None}
use Rattle.hierarchy.specs.declared.class.Class.{Class}
use Rattle.hierarchy.specs.declared.class.ClassId.{ClassId}
use Rattle.hierarchy.specs.Ancestry.{superclass_of}
use Rattle.hierarchy.specs.Methods.{all_superinterfaces}

-- an empty list represents another one
abbrev pub or_other : List ClassId → List ClassId → List ClassId
or_other other [] = other
or_other other (c ∷ cs) = c ∷ cs

abbrev pub unless_none : List ClassId → List ClassId → List ClassId
unless_none [] all = []
unless_none (c ∷ cs) all = all

abbrev pub above : List Class → Option ClassId → List ClassId
above classes None = []
above classes (Some s) = all_superinterfaces classes s

-- All of them; nothing where the superclass has none, since they are then those that c implements by itself.
abbrev pub inherited : List Class → ClassId → List ClassId
inherited classes c = unless_none (above classes (superclass_of classes c)) (all_superinterfaces classes c)

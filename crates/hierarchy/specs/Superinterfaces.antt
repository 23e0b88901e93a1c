-- The enumeration of superinterfaces (JVMS SE 8 5.5, step 7).
use Rattle.std.specs.Prelude.{◌≡◌, ℕ, zero, suc, List, [], ◌∷◌, ◌++◌, Some, length, slice_get}
use Rattle.std.specs.List.{flat_map}
use Rattle.hierarchy.specs.declared.class.ClassId.{ClassId}
use Rattle.hierarchy.specs.declared.class.Class.{Class}
use Rattle.hierarchy.specs.LinkedProgram.{id}
use Rattle.hierarchy.specs.ClassLists.{Among, distinct}
use Rattle.hierarchy.specs.Hierarchy.{interfaces_of, height}

abbrev pub enumeration_within : ℕ → List Class → ClassId → List ClassId
enumeration_within zero classes i = []
enumeration_within (suc depth) classes i = flat_map (enumeration_within depth classes) (interfaces_of classes i) ++ i ∷ []

-- The enumeration of an interface: that of each direct superinterface in order, then the interface itself.
-- In a program each way up ends before the height.
unfoldable pub enumeration : List Class → ClassId → List ClassId
enumeration classes i = enumeration_within (height classes) classes i

-- all superinterfaces that a class implements by itself: the enumeration of each direct one in order, of
-- repeats the first
abbrev pub superinterfaces : List Class → ClassId → List ClassId
superinterfaces classes c = distinct (flat_map (enumeration classes) (interfaces_of classes c))

-- with each class its whole enumeration is there
abbrev pub IsClosed : List Class → List ClassId → Type 0
IsClosed classes found = (c : ClassId) → Among c found → (d : ClassId) → Among d (enumeration classes c) → Among d found

-- f of each of the first classes
pub record IsTable {X : Type 0} (f : ClassId → X) (count : ℕ) (all : List X) : Type 0 where
  pub count_is : length all ≡ count
  pub are : (n : ℕ) (found : X) → slice_get all n ≡ Some found → found ≡ f (id n)

-- The hierarchy: direct supertypes, and where each way up ends (JVMS SE 8 4.1, 5.3.5).
use Rattle.std.specs.Prelude.{◌≡◌, ◌⊎◌, ℕ, zero, suc, ◌+◌, ◌-◌, ◌*◌, ◌<◌, List, [], ◌∷◌, Option, Some, None, length, slice_get}
use Rattle.std.specs.List.{IsDistinct}
use Rattle.hierarchy.specs.declared.class.Class.{Class}
use Rattle.hierarchy.specs.declared.class.ClassId.{ClassId}
use Rattle.hierarchy.specs.declared.built_in.BuiltIn.{BuiltIn}
use Rattle.hierarchy.specs.declared.built_in.TheConstants.{BUILT_IN_COUNT}
use Rattle.hierarchy.specs.BuiltIn.{built_ins, superclass_of_built_in}
use Rattle.hierarchy.specs.ClassLists.{Among, Every, same_class}
use Rattle.hierarchy.specs.LinkedProgram.{class_among, built_in_after, id}

abbrev pub interfaces_in : Option Class → List ClassId
interfaces_in None = []
interfaces_in (Some class) = class.interfaces

-- the direct superinterfaces, in order
abbrev pub interfaces_of : List Class → ClassId → List ClassId
interfaces_of classes c = interfaces_in (class_among classes c)

abbrev pub built_in_list : List Class → Option BuiltIn → List ClassId
built_in_list classes None = []
built_in_list classes (Some b) = built_in_after classes b ∷ []

abbrev pub supers_of_built_in : List Class → Option BuiltIn → List ClassId
supers_of_built_in classes None = []
supers_of_built_in classes (Some b) = built_in_list classes (superclass_of_built_in b)

abbrev pub supers_in : List Class → Option Class → Option BuiltIn → List ClassId
supers_in classes (Some class) b = class.superclass ∷ class.interfaces
supers_in classes None b = supers_of_built_in classes b

-- the direct supertypes: the superclass, then the superinterfaces in order
abbrev pub supers : List Class → ClassId → List ClassId
supers classes c = supers_in classes (class_among classes c) (slice_get built_ins (c.number - length classes))

-- a chain of superclasses and superinterfaces leads up from one to the other
pub data Reaches (classes : List Class) : ClassId → ClassId → Type 0 where
  direct : {c d : ClassId} → Among d (supers classes c) → Reaches classes c d
  further : {c d e : ClassId} → Among d (supers classes c) → Reaches classes d e → Reaches classes c e

-- a is b, or a chain of superclasses and superinterfaces leads up from a to b
abbrev pub IsSubtype : List Class → ClassId → ClassId → Type 0
IsSubtype classes a b = (a ≡ b) ⊎ Reaches classes a b

-- c is on a cycle
abbrev pub IsCyclic : List Class → ClassId → Type 0
IsCyclic classes c = Reaches classes c c

-- the files' class of that number is the first in file order that is on a cycle
pub record IsFirstCyclic (classes : List Class) (n : ℕ) : Type 0 where
  pub within : n < length classes
  pub cyclic : IsCyclic classes (id n)
  pub first : (m : ℕ) → m < n → IsCyclic classes (id m) → ⊥

-- each supertype is a class of the files or a built-in one
abbrev pub IsInRange : List Class → Type 0
IsInRange classes = (c d : ClassId) → Among d (supers classes c) → d.number < length classes + BUILT_IN_COUNT

-- the supertypes of c, each once
pub record AreSupertypes (classes : List Class) (c : ClassId) (found : List ClassId) : Type 0 where
  pub sound : (d : ClassId) → Among d found → Reaches classes c d
  pub complete : (d : ClassId) → Reaches classes c d → Among d found
  pub once : IsDistinct same_class found

-- the ways up from c end within so many steps, c's own included
abbrev pub IsWithin : ℕ → List Class → ClassId → Type 0
IsWithin zero classes c = ⊥
IsWithin (suc depth) classes c = Every (IsWithin depth classes) (supers classes c)

abbrev pub most_steps : List Class → ℕ
most_steps classes = length classes + (2 * BUILT_IN_COUNT + 1)

-- more steps than a way up can have, where no class is on it twice
abbrev pub height : List Class → ℕ
height classes = suc (most_steps classes)

-- each way up ends
abbrev pub IsAcyclic : List Class → Type 0
IsAcyclic classes = (c : ClassId) → IsWithin (height classes) classes c

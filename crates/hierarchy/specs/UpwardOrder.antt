-- Classes in an order in which each comes after its direct supertypes (JVMS SE 8 5.3.5).
use Rattle.std.specs.Prelude.{◌≡◌, ℕ, ◌<◌, List, Some, length, slice_get, take}
use Rattle.std.specs.List.{IsDistinct}
use Rattle.hierarchy.specs.declared.class.Class.{Class}
use Rattle.hierarchy.specs.declared.class.ClassId.{ClassId}
use Rattle.hierarchy.specs.ClassLists.{Among, same_class}
use Rattle.hierarchy.specs.Hierarchy.{supers}
use Rattle.hierarchy.specs.LinkedProgram.{id}

-- each class comes after its direct supertypes
abbrev pub Rises : List Class → List ClassId → Type 0
Rises classes order = (k : ℕ) (c : ClassId) → slice_get order k ≡ Some c → (d : ClassId) → Among d (supers classes c) → Among d (take k order)

-- all classes of the files, and what is above them, each once and after its direct supertypes
pub record IsUpwardOrder (classes : List Class) (order : List ClassId) : Type 0 where
  pub rises : Rises classes order
  pub whole : (n : ℕ) → n < length classes → Among (id n) order
  pub once : IsDistinct same_class order

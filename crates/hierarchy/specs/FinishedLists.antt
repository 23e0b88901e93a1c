-- Lists of classes that are made one after another, each from the finished lists of the classes above.
use Rattle.std.specs.Prelude.{◌≡◌, ℕ, ◌+◌, true, List, [], Option, Some, None, length, slice_get}
use Rattle.hierarchy.specs.declared.class.Class.{Class}
use Rattle.hierarchy.specs.declared.class.ClassId.{ClassId}
use Rattle.hierarchy.specs.ClassLists.{is_among}

-- there is a list for each class of the files, and it is finished for those of which P holds: f of the class
pub record AreFinished (f : ClassId → List ClassId) (classes : List Class) (P : ClassId → Type 0) (all : List (List ClassId)) : Type 0 where
  pub count_is : length all ≡ length classes
  pub are : (c : ClassId) → P c → (found : List ClassId) → slice_get all c.number ≡ Some found → found ≡ f c

abbrev pub list_or_none : Option (List ClassId) → List ClassId
list_or_none None = []
list_or_none (Some found) = found

-- the list at that number; past the end there are no classes
abbrev pub listed : List (List ClassId) → ℕ → List ClassId
listed all n = list_or_none (slice_get all n)

-- the nearest class was found, and its list is shorter by one
pub record IsCovered (all : List (List ClassId)) (list : List ClassId) (nearest : Option ClassId) (found : List ClassId) : Type 0 where
  pub class : ClassId
  pub is_nearest : nearest ≡ Some class
  pub was_found : is_among class found ≡ true
  pub above : List ClassId
  pub there : slice_get all class.number ≡ Some above
  pub shorter : length above + 1 ≡ length list

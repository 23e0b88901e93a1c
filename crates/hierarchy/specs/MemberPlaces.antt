-- Where the members of each class are found.
use Rattle.std.specs.Prelude.{◌≡◌, ℕ, true, false, List, [], ◌∷◌, ◌++◌, Option, Some, None, zero, suc, length, position, slice_get}
use Rattle.hierarchy.specs.declared.class.Class.{Class}
use Rattle.hierarchy.specs.declared.member_places.MemberPlaces.{MemberPlaces}
use Rattle.hierarchy.specs.declared.member_places.MemberSearch.{MemberSearch}
use Rattle.hierarchy.specs.declared.member_places.MemberSearch.TheVariants.{Repeated, Places}
use Rattle.hierarchy.specs.MemberOrder.{key_of_field, key_of_method, AreSortedPlaces}
use Rattle.hierarchy.specs.Members.{repeats_member}

-- 0, 1, .., n - 1
abbrev pub places_below : ℕ → List ℕ
places_below zero = []
places_below (suc n) = places_below n ++ n ∷ []

-- the places of the fields and of the methods of a class
pub record ArePlacesOf (c : Class) (p : MemberPlaces) : Type 0 where
  pub fields : AreSortedPlaces key_of_field c.fields p.fields.items
  pub methods : AreSortedPlaces key_of_method c.methods p.methods.items

-- the places of the members of each of these classes
pub record HavePlaces (classes : List Class) (all : List MemberPlaces) : Type 0 where
  pub count_is : length all ≡ length classes
  pub are : (n : ℕ) (c : Class) (p : MemberPlaces) → slice_get classes n ≡ Some c → slice_get all n ≡ Some p → ArePlacesOf c p

-- none where a class declares a member twice, else the places of its members
abbrev pub IsPlacesResult : Class → Option MemberPlaces → Type 0
IsPlacesResult c None = repeats_member c ≡ true
IsPlacesResult c (Some p) = ArePlacesOf c p × (repeats_member c ≡ false)

-- the first class that declares a member twice, or the places of each class's members where none does
abbrev pub IsSearchResult : List Class → MemberSearch → Type 0
IsSearchResult classes (Repeated n) = position repeats_member classes ≡ Some n
IsSearchResult classes (Places all) = HavePlaces classes all.items × (position repeats_member classes ≡ None)

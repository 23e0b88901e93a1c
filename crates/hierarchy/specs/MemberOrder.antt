-- The order in which the members of a class are searched: by name, then by type.
-- A type is a list of numbers there, so that members compare as lists do.
use Rattle.std.specs.Prelude.{ℕ, ◌<◌, List, [], ◌∷◌, Option, Some, None, length, map, slice_get}
use Rattle.std.specs.Ordering.{nat_cmp}
use Rattle.std.specs.Cmp.Lexicographic.{slice_cmp}
use Rattle.std.specs.List.{Contains}
use Rattle.std.specs.List.Sorted.{IsStrictlySortedBy}
use Rattle.std.specs.declared.cmp.Ordering.{Ordering}
use Rattle.descriptors.specs.Letters.{letter_of}
use Rattle.descriptors.specs.Signature.{Signature}
use Rattle.descriptors.specs.declared.field.ElementType.{ElementType}
use Rattle.descriptors.specs.declared.field.ElementType.TheVariants.{Base, Class as OfClass}
use Rattle.descriptors.specs.declared.field.FieldType.{FieldType}
use Rattle.jasmin_text.specs.declared.class_text.Field.{Field}
use Rattle.jasmin_text.specs.declared.class_text.Method.{Method}

-- a base type's letter, or a class's name
abbrev pub element_numbers : ElementType → List ℕ
element_numbers (Base b) = 0 ∷ letter_of b ∷ []
element_numbers (OfClass name) = 1 ∷ name

abbrev pub type_numbers : FieldType → List ℕ
type_numbers t = t.dimensions ∷ element_numbers t.element

-- none where it is void
abbrev pub result_numbers : Option FieldType → List ℕ
result_numbers None = []
result_numbers (Some t) = type_numbers t

-- what a field is searched by: its name and its type
abbrev pub field_key : List ℕ → FieldType → List (List ℕ)
field_key name type = name ∷ type_numbers type ∷ []

-- what a method is searched by: its name, the type of its result, and those of its parameters
abbrev pub method_key : List ℕ → Signature → List (List ℕ)
method_key name type = name ∷ result_numbers type.result ∷ map type_numbers type.parameters

abbrev pub key_of_field : Field → List (List ℕ)
key_of_field f = field_key f.name f.field_type

abbrev pub key_of_method : Method → List (List ℕ)
key_of_method m = method_key m.name m.method_type

-- keys by the first of their lists that differ
abbrev pub key_cmp : List (List ℕ) → List (List ℕ) → Ordering
key_cmp = slice_cmp (slice_cmp nat_cmp)

abbrev pub key_in : {X : Type 0} → (X → List (List ℕ)) → Option X → List (List ℕ)
key_in key None = []
key_in key (Some x) = key x

-- the key of the member at a place
abbrev pub key_at : {X : Type 0} → (X → List (List ℕ)) → List X → ℕ → List (List ℕ)
key_at key xs k = key_in key (slice_get xs k)

-- places by the keys of the members there
abbrev pub place_cmp : {X : Type 0} → (X → List (List ℕ)) → List X → ℕ → ℕ → Ordering
place_cmp key xs j k = key_cmp (key_at key xs j) (key_at key xs k)

-- the places of all members, in the order of the members' keys, of which no two are equal
pub record AreSortedPlaces {X : Type 0} (key : X → List (List ℕ)) (xs : List X) (places : List ℕ) : Type 0 where
  pub sorted : IsStrictlySortedBy (place_cmp key xs) places
  pub all : (k : ℕ) → k < length xs → Contains places k

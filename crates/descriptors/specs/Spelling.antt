-- The text of each type (JVMS SE 8 4.3.2, 4.3.3).
use Rattle.std.specs.Prelude.{ℕ, ◌≤◌, List, [], ◌∷◌, ◌++◌, length, replicate, Option, Some, None, IfSome}
use Rattle.std.specs.List.{flat_map, AllByRecursion}
use Rattle.descriptors.specs.declared.field.ElementType.{ElementType}
use Rattle.descriptors.specs.declared.field.ElementType.TheVariants.{Base, Class}
use Rattle.descriptors.specs.declared.field.FieldType.{FieldType}
use Rattle.descriptors.specs.Signature.{Signature}
use Rattle.descriptors.specs.Letters.{letter_of}
use Rattle.descriptors.specs.ClassName.{IsClassName}

-- a letter, or L, the name and ;
abbrev pub element_spelling : ElementType → List ℕ
element_spelling (Base b) = letter_of b ∷ []
element_spelling (Class name) = 76 ∷ (name ++ 59 ∷ [])

-- a [ for each dimension, and the element
abbrev pub field_spelling : FieldType → List ℕ
field_spelling t = replicate t.dimensions 91 ++ element_spelling t.element

-- V, or a type
abbrev pub result_spelling : Option FieldType → List ℕ
result_spelling None = 86 ∷ []
result_spelling (Some t) = field_spelling t

-- (, the parameters, ), and the result
abbrev pub method_spelling : Signature → List ℕ
method_spelling m = 40 ∷ (flat_map field_spelling m.parameters ++ 41 ∷ result_spelling m.result)

abbrev pub IsElementType : ElementType → Type 0
IsElementType (Base b) = Unit {0}
IsElementType (Class name) = IsClassName name

-- a type that there is: at most 255 dimensions, and a class has a name
pub record IsFieldType (t : FieldType) : Type 0 where
  pub dimensions : t.dimensions ≤ 255
  pub element : IsElementType t.element

-- a type of a method that there is: at most 255 parameters, each a type that there is, and such a result
pub record IsMethodType (m : Signature) : Type 0 where
  pub limit : length m.parameters ≤ 255
  pub parameters : AllByRecursion IsFieldType m.parameters
  pub result : IfSome m.result IsFieldType

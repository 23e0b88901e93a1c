-- Two types compare as equal exactly where they are the same.
use Rattle.std.proofs.Common.{◌≡◌, ℕ, Bool, List, Option, Some, None, refl, sym, ap, ◌∙◌}
use Rattle.std.specs.Prelude.{nat_eq}
use Rattle.std.specs.Bool.{Decides}
use Rattle.std.specs.Cmp.Lexicographic.{pointwise, pointwise_decides, bytes_decides}
use Rattle.std.proofs.lemmas.Bool.Decides.{Decides-eqb, Decides-and, Decides-like}
use Rattle.descriptors.specs.declared.base.BaseType.{BaseType}
use Rattle.descriptors.specs.declared.base.BaseType.TheVariants.{Boolean, Byte, Char, Short, Int}
use Rattle.descriptors.specs.declared.field.ElementType.{ElementType}
use Rattle.descriptors.specs.declared.field.ElementType.TheVariants.{Base, Class}
use Rattle.descriptors.specs.declared.field.FieldType.{FieldType}
use Rattle.descriptors.specs.Letters.{letter_of, base_of_letter}
use Rattle.descriptors.specs.Signature.{Signature}
use Rattle.descriptors.specs.Same.{same_element, same_field, same_result, same_method}

-- ---- names

pub name_decides : (m n : List ℕ) → Decides (pointwise nat_eq m n) (m ≡ n)
name_decides m n = bytes_decides m n

-- ---- elements

-- base types with one letter are one
pub letter-same : (a b : BaseType) → letter_of a ≡ letter_of b → a ≡ b
letter-same a b e = some_is a b (sym (again a) ∙ ap base_of_letter e ∙ again b)
  where
    again : (a : BaseType) → base_of_letter (letter_of a) ≡ Some a
    again Boolean = refl
    again Byte = refl
    again Char = refl
    again Short = refl
    again Int = refl

    some : BaseType → Option BaseType
    some a = Some a

    some_is : (a b : BaseType) → some a ≡ some b → a ≡ b
    some_is a b e = cc

pub element_decides : (s t : ElementType) → Decides (same_element s t) (s ≡ t)
element_decides (Base a) (Base b) = Decides-like (same_element (Base a) (Base b)) (λ e. ap Base (letter-same a b e)) (λ e. base_is a b e) (Decides-eqb (letter_of a) (letter_of b))
  where
    base_is : (a b : BaseType) → Base a ≡ Base b → letter_of a ≡ letter_of b
    base_is a b e = cc
element_decides (Base a) (Class n) = (λ h. absurd cc, λ e. absurd cc)
element_decides (Class m) (Base b) = (λ h. absurd cc, λ e. absurd cc)
element_decides (Class m) (Class n) = Decides-like (pointwise nat_eq m n) (λ e. ap Class e) (λ e. class_is m n e) (name_decides m n)
  where
    class_is : (m n : List ℕ) → Class m ≡ Class n → m ≡ n
    class_is m n e = cc

-- ---- fields

pub field_decides : (s t : FieldType) → Decides (same_field s t) (s ≡ t)
field_decides s t =
    Decides-like (same_field s t) (λ h. λ i. record { dimensions = h.0 i; element = h.1 i }) (λ e. (ap (λ (u : FieldType). u.dimensions) e, ap (λ (u : FieldType). u.element) e)) (Decides-and _ _ (Decides-eqb s.dimensions t.dimensions) (element_decides s.element t.element))

-- ---- methods

pub result_decides : (s t : Option FieldType) → Decides (same_result s t) (s ≡ t)
result_decides None None = (λ h. refl, λ e. refl)
result_decides None (Some t) = (λ h. absurd cc, λ e. absurd cc)
result_decides (Some s) None = (λ h. absurd cc, λ e. absurd cc)
result_decides (Some s) (Some t) = Decides-like (same_field s t) (λ e. some_ap e) (λ e. some_is s t e) (field_decides s t)
  where
    some : FieldType → Option FieldType
    some t = Some t

    some_ap : {s t : FieldType} → s ≡ t → some s ≡ some t
    some_ap e = ap some e

    some_is : (s t : FieldType) → some s ≡ some t → s ≡ t
    some_is s t e = cc

pub method_decides : (m n : Signature) → Decides (same_method m n) (m ≡ n)
method_decides m n =
    Decides-like (same_method m n) (λ h. λ i. record { parameters = h.1 i; result = h.0 i }) (λ e. (ap (λ (u : Signature). u.result) e, ap (λ (u : Signature). u.parameters) e)) (Decides-and _ _ (result_decides m.result n.result) (pointwise_decides field_decides m.parameters n.parameters))

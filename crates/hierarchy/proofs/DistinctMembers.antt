-- No member is in a class twice.
use Rattle.std.proofs.Common.{◌≡◌, ℕ, zero, suc, ◌<◌, Bool, true, false, inl, inr, Option, Some, None, List, [], ◌∷◌, slice_get, refl, sym, ◌∙◌, subst, arith}
use Rattle.std.proofs.lemmas.Bool.{and_from, or_parts, cases_order, eq-eqb, true≢false}
use Rattle.std.proofs.lemmas.Slice.Eq.{bytes_eq-Decides}
use Rattle.std.specs.List.{list_any}
use Rattle.std.specs.Cmp.Lexicographic.{pointwise}
use Rattle.std.specs.Prelude.{nat_eq}
use Rattle.descriptors.specs.Same.{same_element, same_field, same_result, same_method}
use Rattle.descriptors.specs.Letters.{letter_of}
use Rattle.descriptors.specs.Signature.{Signature}
use Rattle.descriptors.specs.declared.field.ElementType.{ElementType}
use Rattle.descriptors.specs.declared.field.ElementType.TheVariants.{Base, Class as OfClass}
use Rattle.descriptors.specs.declared.field.FieldType.{FieldType}
use Rattle.jasmin_text.specs.declared.class_text.Field.{Field}
use Rattle.jasmin_text.specs.declared.class_text.Method.{Method}
use Rattle.hierarchy.specs.declared.class.Class.{Class}
use Rattle.hierarchy.specs.declared.class.ClassId.{ClassId}
use Rattle.hierarchy.specs.LinkedProgram.{LinkedProgram, class_at}
use Rattle.hierarchy.specs.LinkedTexts.{IsLinked}
use Rattle.hierarchy.specs.Members.{same_field_member, same_method_member, repeats, repeats_member}
use Rattle.hierarchy.specs.OwnNames.{fields_in, methods_in, HasOwnFields, HasOwnMethods}
use Rattle.hierarchy.proofs.Positions.{Some_same, any-at, none_found, position_by_steps}

-- of two members that aren't the same, by their places
pub not_repeated : {X : Type 0} (same : X → X → Bool) (xs : List X) (i j : ℕ) (x y : X) → repeats same xs ≡ false → slice_get xs i ≡ Some x → slice_get xs j ≡ Some y → i < j → same x y ≡ false
not_repeated same [] i j x y r e f l = absurd cc
not_repeated same (z ∷ zs) i zero x y r e f l = absurd (omega (arith, l))
not_repeated same (z ∷ zs) zero (suc j) x y r e f l =
    let s : z ≡ x = Some_same e in
    subst (λ w. same w y ≡ false) s (any-at (same z) zs j y (or_parts (list_any (same z) zs) (repeats same zs) r).0 f)
not_repeated same (z ∷ zs) (suc i) (suc j) x y r e f l = not_repeated same zs i j x y (or_parts (list_any (same z) zs) (repeats same zs) r).1 e f (omega (arith, l))

one_place : {X : Type 0} (same : X → X → Bool) (xs : List X) (i j : ℕ) (x y : X) → repeats same xs ≡ false → slice_get xs i ≡ Some x → slice_get xs j ≡ Some y → same x y ≡ true → same y x ≡ true → i ≡ j
one_place same xs i j x y r e f a b =
    elim (cases_order i j) [
      | inl s ↦ s
      | inr (inl l) ↦ absurd (true≢false (sym a ∙ not_repeated same xs i j x y r e f l))
      | inr (inr l) ↦ absurd (true≢false (sym b ∙ not_repeated same xs j i y x r f e l))
    ]

same_bytes : (xs ys : List ℕ) → xs ≡ ys → pointwise nat_eq xs ys ≡ true
same_bytes xs ys e = (bytes_eq-Decides xs ys).1 e

element_refl : (e : ElementType) → same_element e e ≡ true
element_refl (Base b) = eq-eqb (letter_of b) (letter_of b) refl
element_refl (OfClass n) = same_bytes n n refl

field_refl : (t : FieldType) → same_field t t ≡ true
field_refl t = and_from _ _ (eq-eqb t.dimensions t.dimensions refl) (element_refl t.element)

result_refl : (o : Option FieldType) → same_result o o ≡ true
result_refl None = refl
result_refl (Some t) = field_refl t

parameters_refl : (ts : List FieldType) → pointwise same_field ts ts ≡ true
parameters_refl [] = refl
parameters_refl (t ∷ ts) = and_from _ _ (field_refl t) (parameters_refl ts)

method_refl : (m : Signature) → same_method m m ≡ true
method_refl m = and_from _ _ (result_refl m.result) (parameters_refl m.parameters)

same_fields : (f g : Field) → f.name ≡ g.name → f.field_type ≡ g.field_type → same_field_member f g ≡ true
same_fields f g n t = and_from _ _ (same_bytes f.name g.name n) (subst (λ z. same_field f.field_type z ≡ true) t (field_refl f.field_type))

same_methods : (m n : Method) → m.name ≡ n.name → m.method_type ≡ n.method_type → same_method_member m n ≡ true
same_methods m n e t = and_from _ _ (same_bytes m.name n.name e) (subst (λ z. same_method m.method_type z ≡ true) t (method_refl m.method_type))

class_distinct : (p : LinkedProgram) → IsLinked p → (c : ClassId) (class : Class) → class_at p c ≡ Some class → repeats_member class ≡ false
class_distinct p h c class e = none_found repeats_member 0 p.classes c.number class (sym (position_by_steps repeats_member p.classes) ∙ h.links.members) e

pub own_fields : (p : LinkedProgram) → IsLinked p → (c : ClassId) → HasOwnFields p c
own_fields p h c i j f g = at (class_at p c) refl
  where
    at : (o : Option Class) → class_at p c ≡ o → slice_get (fields_in o) i ≡ Some f → slice_get (fields_in o) j ≡ Some g → f.name ≡ g.name → f.field_type ≡ g.field_type → i ≡ j
    at None e a b n t = absurd cc
    at (Some class) e a b n t =
        one_place same_field_member class.fields i j f g (or_parts _ _ (class_distinct p h c class e)).0 a b (same_fields f g n t) (same_fields g f (sym n) (sym t))

pub own_methods : (p : LinkedProgram) → IsLinked p → (c : ClassId) → HasOwnMethods p c
own_methods p h c i j m n = at (class_at p c) refl
  where
    at : (o : Option Class) → class_at p c ≡ o → slice_get (methods_in o) i ≡ Some m → slice_get (methods_in o) j ≡ Some n → m.name ≡ n.name → m.method_type ≡ n.method_type → i ≡ j
    at None e a b q t = absurd cc
    at (Some class) e a b q t =
        one_place same_method_member class.methods i j m n (or_parts _ _ (class_distinct p h c class e)).1 a b (same_methods m n q t) (same_methods n m (sym q) (sym t))

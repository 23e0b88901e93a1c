-- Members compare as equal where they have one name and one type.
use Rattle.std.proofs.Common.{◌≡◌, ℕ, List, [], ◌∷◌, Option, Some, None, refl, sym, ap, ◌∙◌}
use Rattle.std.specs.Prelude.{map}
use Rattle.std.specs.Bool.{Decides}
use Rattle.std.specs.Cmp.{IsTotalOrder}
use Rattle.std.specs.Cmp.Lexicographic.{slice_cmp}
use Rattle.std.specs.Ordering.{nat_cmp, is_eq, ordering_then}
use Rattle.std.specs.declared.cmp.Ordering.{Ordering}
use Rattle.std.specs.declared.cmp.Ordering.TheVariants.{Less, Equal, Greater}
use Rattle.std.proofs.lemmas.Bool.Decides.{Decides-and, Decides-like}
use Rattle.std.proofs.lemmas.Cmp.{nat_list_cmp_total, lists_total, on_total}
use Rattle.std.proofs.lemmas.Map.Text.{is_eq-slice_cmp}
use Rattle.std.proofs.lemmas.Slice.Eq.{bytes_eq-Decides}
use Rattle.descriptors.proofs.SameLaws.{letter-same, name_decides, field_decides, method_decides}
use Rattle.descriptors.specs.Signature.{Signature}
use Rattle.descriptors.specs.declared.field.ElementType.{ElementType}
use Rattle.descriptors.specs.declared.field.ElementType.TheVariants.{Base, Class as OfClass}
use Rattle.descriptors.specs.declared.field.FieldType.{FieldType}
use Rattle.jasmin_text.specs.declared.class_text.Field.{Field}
use Rattle.jasmin_text.specs.declared.class_text.Method.{Method}
use Rattle.hierarchy.specs.Fields.{is_field}
use Rattle.hierarchy.specs.Methods.{is_method}
use Rattle.hierarchy.specs.MemberOrder.{element_numbers, type_numbers, result_numbers, field_key, method_key, key_of_field, key_of_method, key_cmp, key_at, place_cmp}

-- ---- an order in which equal keys are one

pub key_total : IsTotalOrder key_cmp
key_total = lists_total nat_list_cmp_total

pub place_total : {X : Type 0} (key : X → List (List ℕ)) (xs : List X) → IsTotalOrder (place_cmp key xs)
place_total key xs = on_total (key_at key xs) key_total

both_equal : (o p : Ordering) → ordering_then o p ≡ Equal → (o ≡ Equal) × (p ≡ Equal)
both_equal Less p e = absurd cc
both_equal Equal p e = (refl, e)
both_equal Greater p e = absurd cc

one_list : (xs ys : List ℕ) → slice_cmp nat_cmp xs ys ≡ Equal → xs ≡ ys
one_list xs ys e = (bytes_eq-Decides xs ys).0 (sym (is_eq-slice_cmp xs ys) ∙ ap is_eq e)

pub one_key : (xs ys : List (List ℕ)) → key_cmp xs ys ≡ Equal → xs ≡ ys
one_key [] [] e = refl
one_key [] (y ∷ ys) e = absurd cc
one_key (x ∷ xs) [] e = absurd cc
one_key (x ∷ xs) (y ∷ ys) e =
    let p = both_equal (slice_cmp nat_cmp x y) (key_cmp xs ys) e in
    ap (λ z. z ∷ xs) (one_list x y p.0) ∙ ap (λ zs. y ∷ zs) (one_key xs ys p.1)

-- ---- a key gives the name and the type

element_only : (s t : ElementType) → element_numbers s ≡ element_numbers t → s ≡ t
element_only (Base a) (Base b) e = ap Base (letter-same a b cc)
element_only (Base a) (OfClass n) e = absurd cc
element_only (OfClass m) (Base b) e = absurd cc
element_only (OfClass m) (OfClass n) e = ap OfClass cc

first_same : {X : Type 0} {x y : X} {xs ys : List X} → x ∷ xs ≡ y ∷ ys → x ≡ y
first_same e = cc

rest_same : {X : Type 0} {x y : X} {xs ys : List X} → x ∷ xs ≡ y ∷ ys → xs ≡ ys
rest_same e = cc

type_only : (s t : FieldType) → type_numbers s ≡ type_numbers t → s ≡ t
type_only s t e = λ i. record { dimensions = first_same e i; element = element_only s.element t.element (rest_same e) i }

result_only : (s t : Option FieldType) → result_numbers s ≡ result_numbers t → s ≡ t
result_only None None e = refl
result_only None (Some t) e = absurd cc
result_only (Some s) None e = absurd cc
result_only (Some s) (Some t) e = ap some (type_only s t e)
  where
    some : FieldType → Option FieldType
    some t = Some t

types_only : (ss ts : List FieldType) → map type_numbers ss ≡ map type_numbers ts → ss ≡ ts
types_only [] [] e = refl
types_only [] (t ∷ ts) e = absurd cc
types_only (s ∷ ss) [] e = absurd cc
types_only (s ∷ ss) (t ∷ ts) e = ap (λ z. z ∷ ss) (type_only s t (first_same e)) ∙ ap (λ zs. t ∷ zs) (types_only ss ts (rest_same e))

signature_only : (m n : Signature) → result_numbers m.result ∷ map type_numbers m.parameters ≡ result_numbers n.result ∷ map type_numbers n.parameters → m ≡ n
signature_only m n e = λ i. record { parameters = types_only m.parameters n.parameters (rest_same e) i; result = result_only m.result n.result (first_same e) i }

pub field_tells : (name : List ℕ) (type : FieldType) (f : Field) → Decides (is_field name type f) (key_of_field f ≡ field_key name type)
field_tells name type f =
    Decides-like (is_field name type f) (λ h. ap (λ n. field_key n f.field_type) h.0 ∙ ap (field_key name) h.1) (λ e. (first_same e, type_only f.field_type type (first_same (rest_same e))))
    (Decides-and _ _ (name_decides f.name name) (field_decides f.field_type type))

pub method_tells : (name : List ℕ) (type : Signature) (m : Method) → Decides (is_method name type m) (key_of_method m ≡ method_key name type)
method_tells name type m =
    Decides-like (is_method name type m) (λ h. ap (λ n. method_key n m.method_type) h.0 ∙ ap (method_key name) h.1) (λ e. (first_same e, signature_only m.method_type type (rest_same e)))
    (Decides-and _ _ (name_decides m.name name) (method_decides m.method_type type))

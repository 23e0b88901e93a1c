-- What static fields hold, by what a file can spell and by the types of the program's code.
use Rattle.std.proofs.Common.{◌≡◌, ℕ, zero, suc, ◌+◌, ◌-◌, ◌*◌, ◌<◌, ◌%◌, Bool, true, false, ◌&&◌, ◌==◌, Option, Some, None, List, [], ◌∷◌, length, map, filter, slice_get, refl, sym, ap, subst, ◌∙◌, arith}
use Rattle.std.specs.Prelude.{ℤ, pos, negsuc, ◌+ℤ◌, ◌-ℤ◌, int_lt, if◌then◌else◌}
use Rattle.std.specs.Int.{int_rem_euclid}
use Rattle.std.specs.List.{All, list_all}
use Rattle.std.specs.Option.{option_map}
use Rattle.std.proofs.lemmas.Bool.{and_parts}
use Rattle.std.proofs.lemmas.Int.{ints, int_rem_euclid_is}
use Rattle.std.proofs.lemmas.List.Elements.{All-get_or}
use Rattle.std.proofs.lemmas.Option.{get_or_from_slice_get, same_Some, slice_get-map, slice_get_within}
use native.Mathlib.Nat.{mod-eq_of_lt, mod-lt}
use Rattle.descriptors.specs.declared.base.BaseType.{BaseType}
use Rattle.descriptors.specs.declared.base.BaseType.TheVariants as base
use Rattle.descriptors.specs.declared.field.ElementType.{ElementType}
use Rattle.descriptors.specs.declared.field.ElementType.TheVariants as element_type
use Rattle.jasmin_text.specs.declared.class_text.ClassKind.{ClassKind}
use Rattle.jasmin_text.specs.declared.class_text.ClassKind.TheVariants as kind
use Rattle.jasmin_text.specs.declared.class_text.ClassParts.{ClassParts}
use Rattle.jasmin_text.specs.declared.class_text.Constant.{Constant}
use Rattle.jasmin_text.specs.declared.class_text.Constant.TheVariants as constant
use Rattle.jasmin_text.specs.declared.class_text.Field.{Field}
use Rattle.jasmin_text.specs.Spellable.{is_field, is_method, is_spellable, is_value_of, IsSpellable}
use Rattle.hierarchy.specs.declared.class.Class.{Class}
use Rattle.hierarchy.specs.declared.class.ClassId.{ClassId}
use Rattle.hierarchy.specs.declared.value.Value.{Value}
use Rattle.hierarchy.specs.declared.value.Value.TheVariants as value
use Rattle.code.specs.Code.{class_code, element_by_kind, element_named, element_of, resolved_type}
use Rattle.hierarchy.specs.LinkedProgram.{LinkedProgram, class_at, class_named}
use Rattle.hierarchy.specs.MethodResolution.{kind_of}
use Rattle.hierarchy.specs.SpellableClass.{IsSpellableClass}
use Rattle.statics.specs.Statics.{base_in, base_of_element, constant_value, kept_by, kept_in, narrowed, narrowed_int, referred, signed_low, static_field, static_fields_in, statics_of}
use Rattle.hierarchy.specs.StaticFields.{is_static_field}
use Rattle.init_core.specs.ProgramEvents.{IsHeldBy, IsValueOf}
use Rattle.bodies.specs.Doing.{HoldsConstant}
use Rattle.frames.specs.declared.cell.Cell.{Cell}
use Rattle.frames.specs.declared.cell.Cell.TheVariants.{Unset, Int, Null, Reference}
use Rattle.interpreter.specs.Fitting.{is_base}
use Rattle.interpreter.specs.Methods.{static_in, static_type}
use Rattle.interpreter.specs.Rows.{IsKindOf}
use Rattle.interpreter.specs.Says.{IsSayable, value_on_top}
use Rattle.interpreter.specs.declared.phase.Phase.{Phase}
use Rattle.interpreter.specs.declared.phase.Phase.TheVariants.{Ready}
use Rattle.bodies.specs.declared.does.Does.TheVariants as does
use Rattle.hierarchy.specs.LinkedTexts.{IsLinked}
use Rattle.code.specs.OpTargets.{NamesStaticField}
use Rattle.hierarchy.specs.OwnNames.{fields_in}
use Rattle.hierarchy.proofs.ProvedByLinking.{linked_spellable}
use Rattle.std.proofs.lemmas.List.{length-map}

-- a rest is a number below the divisor
rest_is : (n : ℤ) (d : ℕ) → 0 < d → (r : ℕ) × (int_rem_euclid n (pos d) ≡ pos r) × (r < d)
rest_is (pos a) d some = (a % d, refl, mod-lt a some)
rest_is (negsuc a) d some = (d - 1 - a % d, refl, omega arith)

rest_again : (n : ℤ) (d k r : ℕ) → r < d → n +ℤ pos (k * d) ≡ pos r → int_rem_euclid n (pos d) ≡ pos r
rest_again n d k r small e = int_rem_euclid_is n (pos d) d k r (omega arith) refl e ∙ ap pos (mod-eq_of_lt small)

rest_twice : (n : ℤ) (d : ℕ) → 0 < d → int_rem_euclid (int_rem_euclid n (pos d)) (pos d) ≡ int_rem_euclid n (pos d)
rest_twice n d some =
    let r = rest_is n d some in
    ap (λ m. int_rem_euclid m (pos d)) r.1 ∙ rest_again (pos r.0) d 0 r.0 r.2 (omega (arith, ints)) ∙ sym r.1

-- a rest with a sign
abbrev low_of : ℕ → ℤ → ℤ
low_of h m = if int_lt m (pos h) then m else m -ℤ (pos h +ℤ pos h)

low_rest : (h r : ℕ) → r < h + h → int_rem_euclid (low_of h (pos r)) (pos (h + h)) ≡ pos r
low_rest h r small = by (int_lt (pos r) (pos h))
  where
    by : (t : Bool) → int_rem_euclid (if t then pos r else pos r -ℤ (pos h +ℤ pos h)) (pos (h + h)) ≡ pos r
    by true = rest_again (pos r) (h + h) 0 r small (omega (arith, ints))
    by false = rest_again (pos r -ℤ (pos h +ℤ pos h)) (h + h) 1 r small (omega (arith, ints))

low_twice : (h : ℕ) (n : ℤ) → 0 < h → signed_low (pos h) (signed_low (pos h) n) ≡ signed_low (pos h) n
low_twice h n some =
    let r = rest_is n (h + h) (omega arith) in
    ap (low_of h) (ap (λ m. int_rem_euclid (low_of h m) (pos (h + h))) r.1 ∙ low_rest h r.0 r.2 ∙ sym r.1)

-- what is narrowed stays as it is
pub narrowed_twice : (b : BaseType) (n : ℤ) → narrowed_int b (narrowed_int b n) ≡ narrowed_int b n
narrowed_twice base.Boolean n = rest_twice n 2 (omega arith)
narrowed_twice base.Byte n = low_twice 128 n (omega arith)
narrowed_twice base.Char n = rest_twice n 65536 (omega arith)
narrowed_twice base.Short n = low_twice 32768 n (omega arith)
narrowed_twice base.Int n = refl

reference_held : (o : Option ℕ) → IsHeldBy None (referred o)
reference_held None = tt
reference_held (Some number) = tt

-- a constant that a file can spell is a value that its field holds
constant_held : (p : LinkedProgram) (e : ElementType) (d : ℕ) (k : Constant) → is_value_of (record { dimensions = d; element = e }) (Some k) ≡ true → IsHeldBy (base_of_element e d) (constant_value p (base_of_element e d) k)
constant_held p (element_type.Base b) d (constant.Int n) h = by (d == 0) _ h
  where
    by : (t u : Bool) → (t && u) ≡ true → IsHeldBy (if t then Some b else None) (narrowed (if t then Some b else None) (value.Int n))
    by true u s = narrowed_twice b n
    by false u s = absurd cc
constant_held p (element_type.Base b) d (constant.Text text) h = absurd cc
constant_held p (element_type.Class name) d (constant.Int n) h = absurd cc
constant_held p (element_type.Class name) d (constant.Text text) h = reference_held _

field_holds : (p : LinkedProgram) (f : Field) → is_field f ≡ true → HoldsConstant (Some (static_field p f))
unfolding is_field
field_holds p f spelled = by f.value (and_parts _ (is_value_of f.field_type f.value) spelled).1
  where
    by : (k : Option Constant) → is_value_of f.field_type k ≡ true → (v : Value) → option_map (constant_value p (base_in f.field_type)) k ≡ Some v → IsHeldBy (base_in f.field_type) v
    by None h v e = absurd cc
    by (Some k) h v e = subst (IsHeldBy (base_in f.field_type)) (same_Some _ _ e) (constant_held p f.field_type.element f.field_type.dimensions k h)

one_holds : (p : LinkedProgram) (f : Field) (rest : List Field) (t : Bool) (k : ℕ) → HoldsConstant (Some (static_field p f)) → ((j : ℕ) → HoldsConstant (slice_get (map (static_field p) rest) j)) →
    HoldsConstant (slice_get (map (static_field p) (if t then f ∷ rest else rest)) k)
one_holds p f rest true zero h more = h
one_holds p f rest true (suc k) h more = more k
one_holds p f rest false k h more = more k

fields_hold : (p : LinkedProgram) (fields : List Field) (i : ℕ) → list_all is_field fields ≡ true → HoldsConstant (slice_get (map (static_field p) (filter is_static_field fields)) i)
fields_hold p [] i h = tt
fields_hold p (f ∷ fields) i h =
    let both = and_parts (is_field f) (list_all is_field fields) h in
    one_holds p f (filter is_static_field fields) (is_static_field f) i (field_holds p f both.0) (λ k. fields_hold p fields k both.1)

text_fields : (t : ClassParts) → IsSpellable t → list_all is_field t.fields ≡ true
unfolding is_spellable
text_fields t h = (and_parts _ (list_all is_field t.fields) (and_parts _ (list_all is_method t.methods) h).0).1

class_fields : (class : Class) → IsSpellableClass class → list_all is_field class.fields ≡ true
class_fields class s = subst (λ (z : Class). list_all is_field z.fields ≡ true) s.same (text_fields s.text s.spellable)

-- a field's constant, if it has one, is a value that it holds
constants_are_held : (p : LinkedProgram) → All IsSpellableClass p.classes → (c : ClassId) (f : ℕ) → HoldsConstant (slice_get (statics_of p c) f)
constants_are_held p spelled c f = by (slice_get p.classes c.number) refl
  where
    by : (o : Option Class) → slice_get p.classes c.number ≡ o → HoldsConstant (slice_get (map (static_field p) (static_fields_in o)) f)
    by None e = tt
    by (Some class) e =
        let within = slice_get_within p.classes c.number class e in
        let one = subst IsSpellableClass (get_or_from_slice_get p.classes c.number class class e) (All-get_or IsSpellableClass p.classes c.number class within spelled) in
        fields_hold p class.fields f (class_fields class one)

by_kind_no_base : (c : ClassId) (k : ClassKind) → is_base (element_by_kind c k) ≡ false
by_kind_no_base c kind.Class = refl
by_kind_no_base c kind.Interface = refl

named_no_base : (p : LinkedProgram) (o : Option ClassId) → is_base (element_named p o) ≡ false
named_no_base p None = refl
named_no_base p (Some c) = by_kind_no_base c (kind_of p c)

-- what is of the kind of a type, a field of that type holds, once it is narrowed
kind_held : (p : LinkedProgram) (e : ElementType) (d : ℕ) (top : Option Cell) → IsKindOf (Some (record { dimensions = d; element = element_of p e })) top → IsHeldBy (base_of_element e d) (narrowed (base_of_element e d) (value_on_top top))
kind_held p e d None h = absurd h
kind_held p e d (Some Unset) h = absurd h
kind_held p (element_type.Base b) d (Some (Int n)) h = by (d == 0) h
  where
    by : (t : Bool) → (t && true) ≡ true → IsHeldBy (if t then Some b else None) (narrowed (if t then Some b else None) (value.Int n))
    by true s = narrowed_twice b n
    by false s = absurd cc
kind_held p (element_type.Base b) d (Some Null) h = by (d == 0) h
  where
    by : (t : Bool) → (t && true) ≡ false → IsHeldBy (if t then Some b else None) (narrowed (if t then Some b else None) value.Null)
    by true s = absurd cc
    by false s = tt
kind_held p (element_type.Base b) d (Some (Reference r)) h = by (d == 0) h
  where
    by : (t : Bool) → (t && true) ≡ false → IsHeldBy (if t then Some b else None) (narrowed (if t then Some b else None) (value.Reference r))
    by true s = absurd cc
    by false s = tt
kind_held p (element_type.Class name) d (Some (Int n)) h =
    let is = (and_parts (d == 0) (is_base (element_named p (class_named p name))) h).1 in
    let q : true ≡ false = sym is ∙ named_no_base p (class_named p name) in absurd cc
kind_held p (element_type.Class name) d (Some Null) h = tt
kind_held p (element_type.Class name) d (Some (Reference r)) h = tt

-- an operand of the kind of a field's type, as the field keeps it, is a value that the field holds
writes_are_held : (p : LinkedProgram) (c : ClassId) (f : ℕ) (top : Option Cell) → IsKindOf (static_type p c.number f) top → IsValueOf (slice_get (statics_of p c) f) (kept_by (statics_of p c) f (value_on_top top))
writes_are_held p c f top h = by (slice_get p.classes c.number) h
  where
    of_field : (fields : List Field) (o : Option Field) → slice_get fields f ≡ o → IsKindOf (option_map (λ x. resolved_type p x.field_type) o) top →
        IsValueOf (option_map (static_field p) o) (kept_in (option_map (static_field p) o) (value_on_top top))
    of_field fields None e k = absurd k
    of_field fields (Some x) e k = kind_held p x.field_type.element x.field_type.dimensions top k

    by : (o : Option Class) → IsKindOf (static_in (option_map (class_code p c) o) f) top →
        IsValueOf (slice_get (map (static_field p) (static_fields_in o)) f) (kept_by (map (static_field p) (static_fields_in o)) f (value_on_top top))
    by None k = absurd k
    by (Some class) k =
        let fields = filter is_static_field class.fields in
        let there = slice_get-map (static_field p) fields f in
        let typed = slice_get-map (λ x. resolved_type p x.field_type) fields f in
        subst (λ o. IsValueOf o (kept_in o (value_on_top top))) (sym there) (of_field fields (slice_get fields f) refl (subst (λ o. IsKindOf o top) typed k))

named_within : (p : LinkedProgram) (o : Option Class) (f : ℕ) → f < length (filter is_static_field (fields_in o)) → f < length (map (static_field p) (static_fields_in o))
named_within p None f h = h
named_within p (Some class) f h = subst (λ n. f < n) (sym (length-map _ _)) h

-- so a body may read a static field for which its class was made ready
pub gets_are_sayable : (p : LinkedProgram) (phase : Phase) (c : ClassId) (f : ℕ) → IsLinked p → phase ≡ Ready c → NamesStaticField p c.number f → IsSayable p phase (does.Gets c f)
gets_are_sayable p phase c f linked ready names = (ready, names.class_within, named_within p (class_at p c) f names.place_within, constants_are_held p (linked_spellable p linked) c f)

-- and write one, by an operand of its kind
pub puts_are_sayable : (p : LinkedProgram) (phase : Phase) (c : ClassId) (f : ℕ) (top : Option Cell) → phase ≡ Ready c → NamesStaticField p c.number f → IsKindOf (static_type p c.number f) top → IsSayable p phase (does.Puts c f (value_on_top top))
puts_are_sayable p phase c f top ready names fits = (ready, names.class_within, named_within p (class_at p c) f names.place_within, writes_are_held p c f top fits)

-- Values are words of a line, and are read again; a static field with its value.
use Rattle.std.proofs.Common.{◌≡◌, ℕ, suc, true, not, eqb, nat_lt, List, [], ◌∷◌, ◌++◌, Option, Some, None, Ok, slice_get, refl, sym, ap, subst, ◌∙◌, arith}
use Rattle.std.proofs.lemmas.Bool.{eqb-true, ltb-true, lt-ltb}
use Rattle.std.proofs.lemmas.Bool.Decides.{Decides-int_eq}
use Rattle.std.proofs.lemmas.Option.{slice_get-map}
use Rattle.std.specs.Fmt.{decimal, signed_decimal}
use Rattle.std.specs.Int.{w32}
use Rattle.std.specs.Option.{option_map}
use Rattle.std.specs.Ordering.{int_eq}
use Rattle.std.specs.Prelude.{ℤ, pos, negsuc, FitsSigned, codes}
use Rattle.std.proofs.lemmas.Slice.Eq.{bytes_eq-Decides}
use Rattle.std.specs.Str.{bytes_eq}
use Rattle.descriptors.specs.declared.base.BaseType.{BaseType}
use Rattle.jasmin_text.specs.declared.class_text.Field.{Field}
use Rattle.sequence.proofs.Results.{Holds, bind_holds, HoldsIn, cond_in, guard_in}
use Rattle.hierarchy.specs.declared.class.ClassId.{ClassId}
use Rattle.hierarchy.specs.declared.value.Value.{Value}
use Rattle.hierarchy.specs.declared.value.Value.TheVariants as value
use Rattle.hierarchy.specs.LinkedProgram.{LinkedProgram}
use Rattle.hierarchy.specs.LinkedTexts.{IsLinked}
use Rattle.statics.specs.Statics.{base_in, narrowed_int, static_field, static_fields, statics_of}
use Rattle.init_core.specs.ProgramEvents.{IsHeldBy, IsValueOf}
use Rattle.trace.specs.TraceText.{field_in_trace, field_text, value_text}
use Rattle.trace_reader.specs.Fields.{field_at, kept, most_references, referred, reference_in, value_in, value_or_bad, value_at}
use Rattle.trace_reader.specs.Numbers.{int_in, number_in}
use Rattle.trace_reader.specs.Reading.{use_at}
use Rattle.trace_reader.specs.TraceEvents.{IsInTrace}
use Rattle.trace_reader.specs.Words.{ends_word, next_at}
use Rattle.trace_reader.proofs.FieldWords.{IsFieldAt, static_good, field_found, field_again, field_line}
use Rattle.trace_reader.proofs.LineNumbers.{decimal_line, int_found, int_again, int_word_fits, natural_found, natural_again}
use Rattle.trace_reader.proofs.LineWords.{IsLineWord, next_found, next_again}

-- a value of a field of this base type, and its word
abbrev pub IsSaid : Option BaseType → List ℕ → Value → Type 0
IsSaid base word v = (word ≡ value_text v) × IsHeldBy base v × IsInTrace v

value_is : (base : Option BaseType) (word : List ℕ) → HoldsIn (IsSaid base word) (value_in base word)
value_is (Some base) word = at (int_in word) (int_found word) (int_word_fits word)
  where
    at : (o : Option ℤ) → HoldsIn (λ n. word ≡ signed_decimal n) o → HoldsIn (λ n. FitsSigned w32 n) o → HoldsIn (IsSaid (Some base) word) (kept base o)
    at None h k = tt
    at (Some n) h k = guard_in (IsSaid (Some base) word) (int_eq (narrowed_int base n) n) _ (λ e. (h, (Decides-int_eq (narrowed_int base n) n).0 e, k))
value_is None word = cond_in (IsSaid None word) (bytes_eq word (codes "null")) _ _ (λ e. ((bytes_eq-Decides word (codes "null")).0 e, tt, tt)) (λ _. by word)
  where
    referred_is : (digits : List ℕ) (o : Option ℕ) → HoldsIn (λ n. digits ≡ decimal n) o → HoldsIn (IsSaid None (35 ∷ digits)) (referred o)
    referred_is digits None h = tt
    referred_is digits (Some n) h = guard_in (IsSaid None (35 ∷ digits)) (nat_lt n most_references) _ (λ l. (ap (λ (z : List ℕ). 35 ∷ z) h, tt, ltb-true n most_references l))

    by : (w : List ℕ) → HoldsIn (IsSaid None w) (reference_in w)
    by [] = tt
    by (b ∷ digits) = guard_in (IsSaid None (b ∷ digits)) (eqb b 35) _ (λ e. rw (eqb-true b 35 e) (referred_is digits (number_in digits) (natural_found digits)))

pub value_found : (base : Option BaseType) (word : List ℕ) → Holds (IsSaid base word) (value_at base word)
unfolding value_at
value_found base word = at (value_in base word) (value_is base word)
  where
    at : (o : Option Value) → HoldsIn (IsSaid base word) o → Holds (IsSaid base word) (value_or_bad o)
    at (Some v) h = h
    at None h = tt

pub value_again : (base : Option BaseType) (v : Value) → IsHeldBy base v → IsInTrace v → value_at base (value_text v) ≡ Ok v
unfolding value_at
value_again (Some base) (value.Int n) h k = rw (int_again n k, (Decides-int_eq (narrowed_int base n) n).1 h) refl
value_again (Some base) value.Null h k = absurd h
value_again (Some base) (value.Reference n) h k = absurd h
value_again None (value.Int n) h k = absurd h
value_again None value.Null h k = refl
value_again None (value.Reference n) h k = rw (natural_again n (omega (arith, k)), lt-ltb n most_references k) refl

pub value_line : (v : Value) → IsInTrace v → IsLineWord (value_text v)
value_line (value.Int (pos n)) h = let k = h.sfits in decimal_line n (omega (arith, k))
value_line (value.Int (negsuc n)) h = let k = h.sfits in after 45 (decimal (suc n)) refl (decimal_line (suc n) (omega (arith, k)))
  where
    after : (b : ℕ) (w : List ℕ) → not (ends_word b) ≡ true → IsLineWord w → IsLineWord (b ∷ w)
    after b w e h = record { some = omega arith; whole = rw (e, h.whole) refl }
value_line value.Null h = record { some = omega arith; whole = refl }
value_line (value.Reference n) h = let d = decimal_line n (omega (arith, h)) in record { some = omega arith; whole = d.whole }

-- ---- a static field with its value

-- what a get or a put of the class has after the class's name
pub record IsUsed (p : LinkedProgram) (c : ClassId) (s : List ℕ) (x : (ℕ × Value) × List ℕ) : Type 0 where
  pub spelled : s ≡ 32 ∷ (field_text p (Some c) x.0.0 ++ 32 ∷ (value_text x.0.1 ++ x.1))
  pub value : IsValueOf (slice_get (statics_of p c) x.0.0) x.0.1
  pub in_trace : IsInTrace x.0.1

known_static : (p : LinkedProgram) (c : ClassId) (place : ℕ) (f : Field) → slice_get (static_fields p c) place ≡ Some f → slice_get (statics_of p c) place ≡ Some (static_field p f)
known_static p c place f e = slice_get-map (static_field p) (static_fields p c) place ∙ ap (option_map (static_field p)) e

pub use_found : (p : LinkedProgram) (c : ClassId) (s : List ℕ) → Holds (IsUsed p c s) (use_at p c s)
unfolding use_at
use_found p c s =
    bind_holds (λ x. s ≡ 32 ∷ (x.0 ++ x.1)) (IsUsed p c s) (next_at s) _ (next_found s) (λ word _ a.
    bind_holds (λ f. IsFieldAt (static_fields p c) word.0 f 0) (IsUsed p c s) (field_at p c word.0) _ (field_found p c word.0) (λ f _ b.
    bind_holds (λ x. word.1 ≡ 32 ∷ (x.0 ++ x.1)) (IsUsed p c s) (next_at word.1) _ (next_found word.1) (λ said _ d.
    bind_holds (IsSaid f.1 said.0) (IsUsed p c s) (value_at f.1 said.0) _ (value_found f.1 said.0) (λ v _ h. used word f said v a b d h))))
  where
    used : (word : List ℕ × List ℕ) (f : ℕ × Option BaseType) (said : List ℕ × List ℕ) (v : Value) → s ≡ 32 ∷ (word.0 ++ word.1) → IsFieldAt (static_fields p c) word.0 f 0
        → word.1 ≡ 32 ∷ (said.0 ++ said.1) → IsSaid f.1 said.0 v → IsUsed p c s ((f.0, v), said.1)
    used word f said v a b d h =
        let place : b.place ≡ f.0 = omega (arith, b.counted) in
        let there : slice_get (static_fields p c) f.0 ≡ Some b.field = ap (slice_get (static_fields p c)) (sym place) ∙ b.there in
        let text : word.0 ≡ field_text p (Some c) f.0 = b.spelled ∙ ap field_in_trace (sym there) in
        record {
          spelled = a ∙ ap (λ (z : List ℕ). 32 ∷ (word.0 ++ z)) (d ∙ ap (λ (z : List ℕ). 32 ∷ (z ++ said.1)) h.0) ∙ ap (λ (z : List ℕ). 32 ∷ (z ++ 32 ∷ (value_text v ++ said.1))) text;
          value = rw (known_static p c f.0 b.field there) (subst (λ base. IsHeldBy base v) b.base h.1);
          in_trace = h.2;
        }

-- a value of a field is that of a field that is there
valued : (p : LinkedProgram) (c : ClassId) (place : ℕ) (v : Value) → IsValueOf (slice_get (statics_of p c) place) v → (f : Field) × (slice_get (static_fields p c) place ≡ Some f) × IsHeldBy (base_in f.field_type) v
valued p c place v h = at (slice_get (static_fields p c) place) refl (subst (λ o. IsValueOf o v) (slice_get-map (static_field p) (static_fields p c) place) h)
  where
    at : (o : Option Field) → slice_get (static_fields p c) place ≡ o → IsValueOf (option_map (static_field p) o) v → (f : Field) × (slice_get (static_fields p c) place ≡ Some f) × IsHeldBy (base_in f.field_type) v
    at None e k = absurd k
    at (Some f) e k = (f, e, k)

pub use_again : (p : LinkedProgram) → IsLinked p → (c : ClassId) (place : ℕ) (v : Value) (b : ℕ) (rest : List ℕ) → IsValueOf (slice_get (statics_of p c) place) v → IsInTrace v → ends_word b ≡ true
    → use_at p c (32 ∷ (field_text p (Some c) place ++ 32 ∷ (value_text v ++ b ∷ rest))) ≡ Ok ((place, v), b ∷ rest)
unfolding use_at
use_again p h c place v b rest k t e =
    let f = valued p c place v k in
    let text : field_text p (Some c) place ≡ field_in_trace (Some f.0) = ap field_in_trace f.1 in
    let one = next_again (field_in_trace (Some f.0)) (value_text v ++ b ∷ rest) 32 (field_line f.0 (static_good p h c place f.0 f.1)) refl in
    let two = field_again p h c place f.0 f.1 in
    let three = next_again (value_text v) rest b (value_line v t) e in
    let four = value_again (base_in f.0.field_type) v f.2 t in
    rw (text, one, two, three, four) refl

pub used_line : (p : LinkedProgram) → IsLinked p → (c : ClassId) (place : ℕ) (v : Value) → IsValueOf (slice_get (statics_of p c) place) v → IsLineWord (field_text p (Some c) place)
used_line p h c place v k = let f = valued p c place v k in subst IsLineWord (sym (ap field_in_trace f.1)) (field_line f.0 (static_good p h c place f.0 f.1))

-- What is read as a method's type is spelled so, and what is spelled so is read.
use Rattle.std.proofs.Common.{◌≡◌, ℕ, zero, suc, ◌≤◌, false, eqb, inl, inr, List, [], ◌∷◌, ◌++◌, length, Option, Some, None, Result, Ok, Err, refl, sym, ap, subst, ◌∙◌, append_assoc, arith}
use Rattle.std.specs.Prelude.{IfSome, IfOk}
use Rattle.std.specs.List.{flat_map, AllByRecursion}
use Rattle.std.proofs.lemmas.Bool.{eqb-true}
use Rattle.std.proofs.lemmas.List.{append-nil}
use Rattle.std.proofs.lemmas.List.Concat.{flat_map-cons}
use Rattle.sequence.specs.declared.refusal.Refusal.{Refusal}
use Rattle.sequence.specs.Gives.{◌>>=◌, Gives}
use Rattle.sequence.proofs.Results.{bind_ok, given}
use Rattle.descriptors.specs.declared.fault.DescriptorFault.{DescriptorFault}
use Rattle.descriptors.specs.declared.fault.DescriptorFault.TheVariants.{TooManyParameters}
use Rattle.descriptors.specs.declared.field.FieldType.{FieldType}
use Rattle.descriptors.specs.Signature.{Signature}
use Rattle.descriptors.specs.Spelling.{field_spelling, result_spelling, method_spelling, IsFieldType, IsMethodType}
use Rattle.descriptors.specs.Reading.{field_at, ended, with_front, parameters_at, result_at, signature_at, method_of_text}
use Rattle.descriptors.proofs.Steps.{chosen}
use Rattle.descriptors.proofs.Parameters.{parameters_at-closed, parameters_at-more}
use Rattle.descriptors.proofs.FieldLaws.{field_takes, field_again, field_first, ended_ok}

-- ---- parameters

-- the text of the parameters up to the ), and of how many
pub record TakesParameters (room : ℕ) (bytes : List ℕ) (x : List FieldType × List ℕ) : Type 0 where
  pub parts : bytes ≡ flat_map field_spelling x.0 ++ 41 ∷ x.1
  pub types : AllByRecursion IsFieldType x.0
  pub limit : length x.0 ≤ room

closed_takes : (room b : ℕ) (bs : List ℕ) (x : List FieldType × List ℕ) → b ≡ 41 → parameters_at room (b ∷ bs) ≡ Ok x → TakesParameters room (b ∷ bs) x
closed_takes room b bs x is e =
    given (TakesParameters room (b ∷ bs)) (sym (parameters_at-closed room b bs is) ∙ e) (record { parts = ap (λ (c : ℕ). c ∷ bs) is; types = tt; limit = omega arith })

next_takes : (room : ℕ) (bytes : List ℕ) (x : List FieldType × List ℕ) → ((after : List ℕ) (y : List FieldType × List ℕ) → parameters_at room after ≡ Ok y → TakesParameters room after y)
    → (field_at bytes >>= λ t. with_front (t.0 ∷ []) (parameters_at room t.1)) ≡ Ok x → TakesParameters (suc room) bytes x
next_takes room bytes x others e =
    let a = bind_ok (field_at bytes) (λ t. with_front (t.0 ∷ []) (parameters_at room t.1)) x e in
    let b = bind_ok (parameters_at room a.0.1) (λ y. Ok ((a.0.0 ∷ []) ++ y.0, y.1)) x a.2 in
    let first = field_takes bytes a.0 a.1 in
    let second = others a.0.1 b.0 b.1 in
    let made : List FieldType × List ℕ = (a.0.0 ∷ b.0.0, b.0.1) in
    let whole : bytes ≡ (field_spelling a.0.0 ++ flat_map field_spelling b.0.0) ++ 41 ∷ b.0.1 = first.0 ∙ ap (λ (s : List ℕ). field_spelling a.0.0 ++ s) second.parts ∙ sym (append_assoc (field_spelling a.0.0) (flat_map field_spelling b.0.0) (41 ∷ b.0.1)) in
    given (TakesParameters (suc room) bytes) b.2 (record { parts = whole ∙ ap (λ (s : List ℕ). s ++ 41 ∷ b.0.1) (sym (flat_map-cons field_spelling a.0.0 b.0.0)); types = (first.1, second.types); limit = omega (arith, second.limit) })

parameters_take : (room : ℕ) (bytes : List ℕ) (x : List FieldType × List ℕ) → parameters_at room bytes ≡ Ok x → TakesParameters room bytes x
unfolding parameters_at
parameters_take zero [] x e = absurd cc
parameters_take (suc room) [] x e = absurd cc
parameters_take zero (b ∷ bs) x e =
    elim (chosen (eqb b 41) _ _ _ e) [
      | inl (t, _) ↦ closed_takes zero b bs x (eqb-true b 41 t) e
      | inr (_, e) ↦ let a = bind_ok (field_at (b ∷ bs)) (λ _. Err TooManyParameters) x e in absurd cc
    ]
parameters_take (suc room) (b ∷ bs) x e =
    elim (chosen (eqb b 41) _ _ _ e) [
      | inl (t, _) ↦ closed_takes (suc room) b bs x (eqb-true b 41 t) e
      | inr (_, e) ↦ next_takes room (b ∷ bs) x (parameters_take room) e
    ]

parameters_next : (room : ℕ) (t : FieldType) (rest : List ℕ) → IsFieldType t → parameters_at (suc room) (field_spelling t ++ rest) ≡ with_front (t ∷ []) (parameters_at room rest)
parameters_next room t rest h =
    let begins = field_first t in
    let parts : field_spelling t ++ rest ≡ begins.first ∷ (begins.others ++ rest) = ap (λ (s : List ℕ). s ++ rest) begins.parts in
    ap (parameters_at (suc room)) parts ∙ parameters_at-more room begins.first (begins.others ++ rest) t rest begins.no_end (ap field_at (sym parts) ∙ field_again t rest h)

parameters_again : (room : ℕ) (ts : List FieldType) (rest : List ℕ) → length ts ≤ room → AllByRecursion IsFieldType ts → parameters_at room (flat_map field_spelling ts ++ 41 ∷ rest) ≡ Ok (ts, rest)
parameters_again room [] rest le h = parameters_at-closed room 41 rest refl
parameters_again zero (t ∷ ts) rest le h = absurd (omega arith)
parameters_again (suc room) (t ∷ ts) rest le h =
    let regrouped : flat_map field_spelling (t ∷ ts) ++ 41 ∷ rest ≡ field_spelling t ++ (flat_map field_spelling ts ++ 41 ∷ rest) = ap (λ (s : List ℕ). s ++ 41 ∷ rest) (flat_map-cons field_spelling t ts) ∙ append_assoc (field_spelling t) (flat_map field_spelling ts) (41 ∷ rest) in
    ap (parameters_at (suc room)) regrouped ∙ parameters_next room t (flat_map field_spelling ts ++ 41 ∷ rest) h.0 ∙ ap (with_front (t ∷ [])) (parameters_again room ts rest (omega arith) h.1)

-- ---- the result

abbrev TakesResult : List ℕ → Option FieldType × List ℕ → Type 0
TakesResult bytes x = (bytes ≡ result_spelling x.0 ++ x.1) × IfSome x.0 IsFieldType

result_takes : (bytes : List ℕ) (x : Option FieldType × List ℕ) → result_at bytes ≡ Ok x → TakesResult bytes x
unfolding result_at
result_takes [] x e = absurd cc
result_takes (b ∷ bs) x e =
    elim (chosen (eqb b 86) _ _ _ e) [
      | inl (t, e) ↦ given (TakesResult (b ∷ bs)) e (ap (λ (c : ℕ). c ∷ bs) (eqb-true b 86 t), tt)
      | inr (_, e) ↦
          let a = bind_ok (field_at (b ∷ bs)) (λ y. Ok (Some y.0, y.1)) x e in
          given (TakesResult (b ∷ bs)) a.2 (field_takes (b ∷ bs) a.0 a.1)
    ]

result_at-type : (s : List ℕ) (first : ℕ) (others : List ℕ) → s ≡ first ∷ others → eqb first 86 ≡ false → result_at s ≡ (field_at s >>= λ y. Ok (Some y.0, y.1))
unfolding result_at
result_at-type s first others e n = ap result_at e ∙ rw n (ap (λ (s : List ℕ). field_at s >>= λ y. Ok (Some y.0, y.1)) (sym e))

result_again : (outcome : Option FieldType) → IfSome outcome IsFieldType → result_at (result_spelling outcome) ≡ Ok (outcome, [])
unfolding result_at
result_again None h = refl
result_again (Some t) h =
    let begins = field_first t in
    let again : field_at (field_spelling t) ≡ Ok (t, []) = ap field_at (sym (append-nil (field_spelling t))) ∙ field_again t [] h in
    result_at-type (field_spelling t) begins.first begins.others begins.parts begins.no_void ∙ ap (λ (r : Result (FieldType × List ℕ) DescriptorFault). r >>= λ y. Ok (Some y.0, y.1)) again

-- ---- whole texts

abbrev IsText : List ℕ → Signature → Type 0
IsText bytes m = (bytes ≡ method_spelling m) × IsMethodType m

signature_found : (bytes : List ℕ) (m : Signature) → signature_at bytes ≡ Ok m → IsText (40 ∷ bytes) m
unfolding signature_at
signature_found bytes m e =
    let a = bind_ok (parameters_at 255 bytes) (λ p. result_at p.1 >>= λ r. ended (record { parameters = p.0; result = r.0 }) r.1) m e in
    let b = bind_ok (result_at a.0.1) (λ r. ended (record { parameters = a.0.0; result = r.0 }) r.1) m a.2 in
    let made : Signature = record { parameters = a.0.0; result = b.0.0 } in
    let end = ended_ok made b.0.1 m b.2 in
    let first = parameters_take 255 bytes a.0 a.1 in
    let second = result_takes a.0.1 b.0 b.1 in
    let behind : a.0.1 ≡ result_spelling b.0.0 = second.0 ∙ ap (λ (s : List ℕ). result_spelling b.0.0 ++ s) end.0 ∙ append-nil (result_spelling b.0.0) in
    let whole : 40 ∷ bytes ≡ method_spelling made = ap (λ (s : List ℕ). 40 ∷ s) (first.parts ∙ ap (λ (s : List ℕ). flat_map field_spelling a.0.0 ++ 41 ∷ s) behind) in
    subst (IsText (40 ∷ bytes)) end.1 (whole, record { limit = first.limit; parameters = first.types; result = second.1 })

pub method_found : (bytes : List ℕ) (m : Signature) → method_of_text bytes ≡ Ok m → (bytes ≡ method_spelling m) × IsMethodType m
unfolding method_of_text
method_found [] m e = absurd cc
method_found (b ∷ bs) m e =
    elim (chosen (eqb b 40) _ _ _ e) [
      | inl (t, e) ↦ subst (λ (c : ℕ). IsText (c ∷ bs) m) (sym (eqb-true b 40 t)) (signature_found bs m e)
      | inr (_, e) ↦ absurd cc
    ]

pub method_only : (m : Signature) → IsMethodType m → method_of_text (method_spelling m) ≡ Ok m
unfolding method_of_text signature_at
method_only m h = rw (parameters_again 255 m.parameters (result_spelling m.result) h.limit h.parameters, result_again m.result h.result) refl

-- what a reader of a whole text gave, as the public clauses say it
pub is_found : (bytes : List ℕ) (r : Result Signature (Refusal DescriptorFault)) → Gives (λ x. x) r (method_of_text bytes) → IfOk r (λ m. IsMethodType m × (bytes ≡ method_spelling m))
is_found bytes (Ok m) read = let found = method_found bytes m read in (found.1, found.0)
is_found bytes (Err e) read = tt

pub is_only : (bytes : List ℕ) (r : Result Signature (Refusal DescriptorFault)) → Gives (λ x. x) r (method_of_text bytes) → (m : Signature) → IsMethodType m → bytes ≡ method_spelling m → Gives (λ x. x) r (Ok m)
is_only bytes r read m h e = subst (Gives (λ x. x) r) (ap method_of_text e ∙ method_only m h) read

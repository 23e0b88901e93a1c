-- The test of a class name, byte after byte.
use Rattle.std.proofs.Common.{◌≡◌, ℕ, suc, ◌+◌, Bool, true, false, ◌&&◌, ◌||◌, cond, eqb, inl, inr, List, [], ◌∷◌, ◌++◌, length, refl, sym, ap, ◌∙◌, arith}
use Rattle.std.specs.List.{list_all}
use Rattle.std.proofs.lemmas.Bool.{eqb-true, and_parts}
use Rattle.descriptors.specs.ClassName.{is_name_byte, segments, is_segment, is_class_name, IsClassName}
use Rattle.sequence.specs.Parts.{with_byte, is_some_byte}
use Rattle.descriptors.specs.Reading.{name_len}
use Rattle.descriptors.proofs.Steps.{chosen}

-- the bytes go on with the segment that was started, or begin one
abbrev pub passes : Bool → List ℕ → Bool
passes started [] = started
passes started (b ∷ bs) = cond (eqb b 47) (started && passes false bs) (is_name_byte b && passes true bs)

-- the first segment may be empty where it was started before
abbrev are_segments : Bool → List (List ℕ) → Bool
are_segments started [] = true
are_segments started (s ∷ ss) = (started || is_some_byte s) && list_all is_name_byte s && list_all is_segment ss

and_regroup : (a b c : Bool) → ((a && b) && c) ≡ (a && (b && c))
and_regroup true b c = refl
and_regroup false b c = refl

are_segments-with_byte : (started : Bool) (b : ℕ) (ss : List (List ℕ)) → are_segments started (with_byte b ss) ≡ (is_name_byte b && are_segments true ss)
are_segments-with_byte true b [] = and_regroup (is_name_byte b) true true
are_segments-with_byte false b [] = and_regroup (is_name_byte b) true true
are_segments-with_byte true b (s ∷ ss) = and_regroup (is_name_byte b) (list_all is_name_byte s) (list_all is_segment ss)
are_segments-with_byte false b (s ∷ ss) = and_regroup (is_name_byte b) (list_all is_name_byte s) (list_all is_segment ss)

are_segments-fresh : (ss : List (List ℕ)) → are_segments false ss ≡ list_all is_segment ss
are_segments-fresh [] = refl
are_segments-fresh (s ∷ ss) = refl

passes_at : (started t : Bool) (b : ℕ) (bs : List ℕ) → passes false bs ≡ list_all is_segment (segments bs) → passes true bs ≡ are_segments true (segments bs)
    → cond t (started && passes false bs) (is_name_byte b && passes true bs) ≡ are_segments started (cond t ([] ∷ segments bs) (with_byte b (segments bs)))
passes_at true true b bs fresh going_on = fresh
passes_at false true b bs fresh going_on = refl
passes_at started false b bs fresh going_on = ap (λ (x : Bool). is_name_byte b && x) going_on ∙ sym (are_segments-with_byte started b (segments bs))

passes_segments : (started : Bool) (bs : List ℕ) → passes started bs ≡ are_segments started (segments bs)
passes_segments true [] = refl
passes_segments false [] = refl
passes_segments started (b ∷ bs) = passes_at started (eqb b 47) b bs (passes_segments false bs ∙ are_segments-fresh (segments bs)) (passes_segments true bs)

pub passes_is : (bs : List ℕ) → passes false bs ≡ is_class_name bs
unfolding is_class_name
passes_is bs = passes_segments false bs ∙ are_segments-fresh (segments bs)

-- ---- a name has no ;

no_semicolon : (b : ℕ) → is_name_byte b ≡ true → eqb b 59 ≡ false
no_semicolon b h = at (eqb b 59) (eqb-true b 59)
  where
    at : (t : Bool) → (t ≡ true → b ≡ 59) → t ≡ false
    at true e = let no : is_name_byte b ≡ false = ap is_name_byte (e refl) in absurd cc
    at false e = refl

slash_is_none : (b : ℕ) → eqb b 47 ≡ true → eqb b 59 ≡ false
slash_is_none b e = ap (λ (c : ℕ). eqb c 59) (eqb-true b 47 e)

one_more : (n : ℕ) → 1 + n ≡ suc n
one_more n = omega arith

name_len-passes : (started : Bool) (name rest : List ℕ) → passes started name ≡ true → name_len (name ++ 59 ∷ rest) ≡ length name
name_len-passes started [] rest h = refl
name_len-passes started (b ∷ bs) rest h =
    elim (chosen (eqb b 47) (started && passes false bs) (is_name_byte b && passes true bs) true h) [
      | inl (slash, ok) ↦ rw (slash_is_none b slash) (one_more (name_len (bs ++ 59 ∷ rest)) ∙ ap suc (name_len-passes false bs rest (and_parts started (passes false bs) ok).1))
      | inr (_, ok) ↦ rw (no_semicolon b (and_parts (is_name_byte b) (passes true bs) ok).0) (one_more (name_len (bs ++ 59 ∷ rest)) ∙ ap suc (name_len-passes true bs rest (and_parts (is_name_byte b) (passes true bs) ok).1))
    ]

-- after a name the first ; is the one that closes it
pub name_len-closed : (name rest : List ℕ) → IsClassName name → name_len (name ++ 59 ∷ rest) ≡ length name
name_len-closed name rest h = name_len-passes false name rest (passes_is name ∙ h)

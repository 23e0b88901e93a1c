-- Parameters read one after the other, as a loop does.
use Rattle.std.proofs.Common.{◌≡◌, ℕ, zero, suc, ◌-◌, ◌+◌, ◌≤◌, ◌<◌, Bool, true, false, eqb, List, [], ◌∷◌, ◌++◌, length, get_or, take, drop, Result, Ok, Err, refl, sym, ap, ◌∙◌, append_assoc, length-append, arith}
use Rattle.std.proofs.lemmas.List.{append-nil, take_all}
use Rattle.std.proofs.lemmas.Bool.{eq-eqb, eqb-true}
use Rattle.sequence.specs.declared.refusal.Refusal.{Refusal}
use Rattle.sequence.specs.declared.refusal.Refusal.TheVariants as refusal
use Rattle.sequence.specs.Gives.{Fails}
use Rattle.descriptors.specs.declared.fault.DescriptorFault.{DescriptorFault}
use Rattle.descriptors.specs.declared.fault.DescriptorFault.TheVariants.{Unfinished, TooManyParameters}
use Rattle.descriptors.specs.declared.field.FieldType.{FieldType}
use Rattle.descriptors.specs.Reading.{field_at, parameters_at, with_front}

-- ---- the first step

pub ne-eqb : (a b : ℕ) → (a ≡ b → ⊥) → eqb a b ≡ false
ne-eqb a b n = at (eqb a b) (eqb-true a b)
  where
    at : (t : Bool) → (t ≡ true → a ≡ b) → t ≡ false
    at true h = absurd (n (h refl))
    at false h = refl

pub parameters_at-closed : (room b : ℕ) (bs : List ℕ) → b ≡ 41 → parameters_at room (b ∷ bs) ≡ Ok ([], bs)
unfolding parameters_at
parameters_at-closed zero b bs e = rw (eq-eqb b 41 e) refl
parameters_at-closed (suc room) b bs e = rw (eq-eqb b 41 e) refl

pub parameters_at-more : (room b : ℕ) (bs : List ℕ) (t : FieldType) (after : List ℕ) → eqb b 41 ≡ false → field_at (b ∷ bs) ≡ Ok (t, after) → parameters_at (suc room) (b ∷ bs) ≡ with_front (t ∷ []) (parameters_at room after)
unfolding parameters_at
parameters_at-more room b bs t after n e = rw (n, e) refl

parameters_at-full : (b : ℕ) (bs : List ℕ) (t : FieldType) (after : List ℕ) → eqb b 41 ≡ false → field_at (b ∷ bs) ≡ Ok (t, after) → parameters_at zero (b ∷ bs) ≡ Err TooManyParameters
unfolding parameters_at
parameters_at-full b bs t after n e = rw (n, e) refl

parameters_at-err : (room b : ℕ) (bs : List ℕ) (d : DescriptorFault) → eqb b 41 ≡ false → field_at (b ∷ bs) ≡ Err d → parameters_at room (b ∷ bs) ≡ Err d
unfolding parameters_at
parameters_at-err zero b bs d n e = rw (n, e) refl
parameters_at-err (suc room) b bs d n e = rw (n, e) refl

parameters_at-ends : (room : ℕ) → parameters_at room [] ≡ Err Unfinished
unfolding parameters_at
parameters_at-ends zero = refl
parameters_at-ends (suc room) = refl

-- ---- a loop that has read some, and reads on

front-front : (xs ys : List FieldType) (r : Result (List FieldType × List ℕ) DescriptorFault) → with_front xs (with_front ys r) ≡ with_front (xs ++ ys) r
front-front xs ys (Ok x) = ap (λ (zs : List FieldType). Ok (zs, x.1)) (simp append_assoc)
front-front xs ys (Err d) = refl

-- what a loop that has read some is still to give
abbrev pub StillGives : List FieldType → List ℕ → Result (List FieldType × List ℕ) DescriptorFault → Type 0
StillGives front rest total = (with_front front (parameters_at (255 - length front) rest) ≡ total) × (length front ≤ 255)

pub begins : (total : Result (List FieldType × List ℕ) DescriptorFault) (rest : List ℕ) → parameters_at 255 rest ≡ total → StillGives [] rest total
begins total rest e = (front-none (parameters_at 255 rest) ∙ e, omega arith)
  where
    front-none : (r : Result (List FieldType × List ℕ) DescriptorFault) → with_front [] r ≡ r
    front-none (Ok x) = refl
    front-none (Err d) = refl

-- in these the rest is taken apart as the code does it

pub goes_on : (front : List FieldType) (s : List ℕ) (t : FieldType) (after : List ℕ) (total : Result (List FieldType × List ℕ) DescriptorFault) → 1 ≤ length s → (get_or s 0 0 ≡ 41 → ⊥) → field_at s ≡ Ok (t, after) → (length front ≡ 255 → ⊥)
    → StillGives front s total → StillGives (front ++ t ∷ []) after total
goes_on front [] t after total some n e lt so_far = absurd (omega arith)
goes_on front (b ∷ bs) t after total some n e lt so_far =
    let less : length front < 255 = omega (arith, so_far.1) in
    let longer : length (front ++ t ∷ []) ≡ length front + 1 = length-append front (t ∷ []) in
    let k : 255 - length front ≡ suc (255 - length (front ++ t ∷ [])) = omega arith in
    let more = parameters_at-more (255 - length (front ++ t ∷ [])) b bs t after (ne-eqb b 41 n) e in
    let first = front-front front (t ∷ []) (parameters_at (255 - length (front ++ t ∷ [])) after) in
    (sym first ∙ ap (with_front front) (sym more ∙ ap (λ (r : ℕ). parameters_at r (b ∷ bs)) (sym k)) ∙ so_far.0, omega arith)

pub is_done : (front : List FieldType) (s : List ℕ) (total : Result (List FieldType × List ℕ) DescriptorFault) → 1 ≤ length s → get_or s 0 0 ≡ 41 → StillGives front s total → total ≡ Ok (front, take (length s - 1) (drop 1 s))
is_done front [] total some e so_far = absurd (omega arith)
is_done front (b ∷ bs) total some e so_far =
    let k : suc (length bs) - 1 ≡ length bs = omega arith in
    sym so_far.0 ∙ ap (with_front front) (parameters_at-closed (255 - length front) b bs e) ∙ ap (λ (zs : List FieldType). Ok (zs, bs)) (append-nil front) ∙ ap (λ (r : List ℕ). Ok (front, r)) (sym (ap (λ (n : ℕ). take n bs) k ∙ take_all (length bs) bs (omega arith)))

pub is_full : (front : List FieldType) (s : List ℕ) (t : FieldType) (after : List ℕ) (total : Result (List FieldType × List ℕ) DescriptorFault) → 1 ≤ length s → (get_or s 0 0 ≡ 41 → ⊥) → field_at s ≡ Ok (t, after) → length front ≡ 255
    → StillGives front s total → total ≡ Err TooManyParameters
is_full front [] t after total some n e full so_far = absurd (omega arith)
is_full front (b ∷ bs) t after total some n e full so_far =
    let k : 255 - length front ≡ 0 = omega arith in
    sym so_far.0 ∙ ap (λ (r : ℕ). with_front front (parameters_at r (b ∷ bs))) k ∙ ap (with_front front) (parameters_at-full b bs t after (ne-eqb b 41 n) e)

pub is_unfinished : (front : List FieldType) (s : List ℕ) (total : Result (List FieldType × List ℕ) DescriptorFault) → length s < 1 → StillGives front s total → total ≡ Err Unfinished
is_unfinished front [] total none so_far = sym so_far.0 ∙ ap (with_front front) (parameters_at-ends (255 - length front))
is_unfinished front (b ∷ bs) total none so_far = absurd (omega arith)

pub fails : (front : List FieldType) (s : List ℕ) (e : Refusal DescriptorFault) (total : Result (List FieldType × List ℕ) DescriptorFault) → 1 ≤ length s → (get_or s 0 0 ≡ 41 → ⊥) → Fails e (field_at s)
    → StillGives front s total → Fails e total
fails front [] e total some n f so_far = absurd (omega arith)
fails front (b ∷ bs) refusal.Memory total some n f so_far = tt
fails front (b ∷ bs) (refusal.Fault d) total some n f so_far = sym so_far.0 ∙ ap (with_front front) (parameters_at-err (255 - length front) b bs d (ne-eqb b 41 n) f)

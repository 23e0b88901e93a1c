-- The parts of a string, one after the other.
use Rattle.std.proofs.Common.{◌≡◌, ℕ, zero, suc, ◌≤◌, ◌<◌, Bool, true, false, eqb, ◌&&◌, List, [], ◌∷◌, ◌++◌, length, Option, Some, None, Result, Ok, Err, nat_lt, refl, sym, ap, ◌∙◌, append_assoc, arith}
use Rattle.std.proofs.lemmas.Bool.{eqb-true}
use Rattle.std.proofs.lemmas.List.{append-nil}
use Rattle.std.specs.Char.{digit_value}
use Rattle.std.specs.Char.Utf16.{is_high_surrogate, is_low_surrogate}
use Rattle.sequence.specs.declared.refusal.Refusal.{Refusal}
use Rattle.sequence.specs.declared.refusal.Refusal.TheVariants as refusal
use Rattle.jasmin_words.specs.declared.escape.EscapeFault.{EscapeFault}
use Rattle.jasmin_words.specs.declared.escape.Part.{Part}
use Rattle.sequence.specs.Gives.{Fails}
use Rattle.jasmin_words.specs.Escapes.{encoded, hex_at, unit_at, low_at, unicode_at, escape, byte_or_wrong, escape_at, part_at, before, unescaped_in, unescaped}
use Rattle.sequence.proofs.Results.{Holds, bind_holds, guard_holds, refuse_holds, cond_holds, holds_at, weaker, bind_same}

-- at most so many bytes are left
abbrev Leaves : {A : Type 0} → ℕ → A × List ℕ → Type 0
Leaves n x = length x.1 ≤ n

hex_leaves : (s : List ℕ) → Holds (Leaves (length s)) (hex_at s)
hex_leaves [] = tt
hex_leaves (b ∷ s) = guard_holds (Leaves _) (nat_lt (digit_value b) 16) _ _ (λ _. omega arith)

unit_leaves : (s : List ℕ) → Holds (Leaves (length s)) (unit_at s)
unfolding unit_at
unit_leaves s =
    bind_holds (Leaves (length s)) (Leaves (length s)) (hex_at s) _ (hex_leaves s) (λ a _ p.
    bind_holds (Leaves (length a.1)) (Leaves (length s)) (hex_at a.1) _ (hex_leaves a.1) (λ b _ q.
    bind_holds (Leaves (length b.1)) (Leaves (length s)) (hex_at b.1) _ (hex_leaves b.1) (λ c _ r.
    bind_holds (Leaves (length c.1)) (Leaves (length s)) (hex_at c.1) _ (hex_leaves c.1) (λ d _ t. omega arith))))

low_leaves : (high : ℕ) (s : List ℕ) → Holds (Leaves (length s)) (low_at high s)
unfolding low_at
low_leaves high [] = tt
low_leaves high (b ∷ []) = cond_holds (Leaves _) (eqb b 92) _ _ (λ _. tt) (λ _. tt)
low_leaves high (b ∷ u ∷ rest) =
    guard_holds (Leaves _) (eqb b 92 && eqb u 117) _ _ (λ _.
    bind_holds (Leaves (length rest)) (Leaves _) (unit_at rest) _ (unit_leaves rest) (λ low _ p.
    guard_holds (Leaves _) (is_low_surrogate low.0) _ _ (λ _. omega arith)))

unicode_leaves : (s : List ℕ) → Holds (Leaves (length s)) (unicode_at s)
unfolding unicode_at
unicode_leaves s =
    bind_holds (Leaves (length s)) (Leaves (length s)) (unit_at s) _ (unit_leaves s) (λ unit _ p.
    refuse_holds (Leaves _) (is_low_surrogate unit.0) _ _ (λ _.
    cond_holds (Leaves _) (is_high_surrogate unit.0) _ _ (λ _. weaker (Leaves (length unit.1)) (Leaves (length s)) (low_at unit.0 unit.1) (λ x q. omega (arith, p, q)) (low_leaves unit.0 unit.1)) (λ _. p)))

byte_leaves : (o : Option ℕ) (rest : List ℕ) → Holds (Leaves (length rest)) (byte_or_wrong o rest)
byte_leaves (Some c) rest = omega arith
byte_leaves None rest = tt

escape_leaves : (s : List ℕ) → Holds (Leaves (length s)) (escape_at s)
unfolding escape_at
escape_leaves [] = tt
escape_leaves (e ∷ rest) =
    let wider = weaker (Leaves (length rest)) (Leaves (length (e ∷ rest))) in
    cond_holds (Leaves _) (eqb e 117) _ _ (λ _. wider (unicode_at rest) (λ x h. omega (arith, h)) (unicode_leaves rest)) (λ _. wider (byte_or_wrong (escape e) rest) (λ x h. omega (arith, h)) (byte_leaves (escape e) rest))

part_leaves : (b : ℕ) (rest : List ℕ) → Holds (Leaves (length rest)) (part_at (b ∷ rest))
unfolding part_at
part_leaves b rest = cond_holds (Leaves _) (eqb b 92) _ _ (λ _. escape_leaves rest) (λ _. omega arith)

pub part_at-shrinks : (s : List ℕ) (part : Part) (rest : List ℕ) → part_at s ≡ Ok (part, rest) → length rest < length s
unfolding part_at
part_at-shrinks [] part rest e = absurd cc
part_at-shrinks (b ∷ s) part rest e = let less = holds_at (Leaves (length s)) (part_at (b ∷ s)) (part, rest) (part_leaves b s) e in omega arith

-- ---- all parts

enough : (n m : ℕ) (s : List ℕ) → length s ≤ n → length s ≤ m → unescaped_in n s ≡ unescaped_in m s
unfolding unescaped_in
enough n m [] p q = refl
enough zero m (b ∷ s) p q = absurd (omega arith)
enough (suc n) zero (b ∷ s) p q = absurd (omega arith)
enough (suc n) (suc m) (b ∷ s) p q =
    let after : ℕ → Part × List ℕ → Result (List ℕ) EscapeFault = λ k x. before (encoded x.0) (unescaped_in k x.1) in
    bind_same (part_at (b ∷ s)) (after n) (after m) (λ x e. let less = part_at-shrinks (b ∷ s) x.0 x.1 e in ap (before (encoded x.0)) (enough n m x.1 (omega arith) (omega arith)))

-- the first part
pub unescaped-part : (s : List ℕ) (part : Part) (rest : List ℕ) → part_at s ≡ Ok (part, rest) → unescaped s ≡ before (encoded part) (unescaped rest)
unfolding unescaped unescaped_in part_at
unescaped-part [] part rest e = absurd cc
unescaped-part (b ∷ s) part rest e = let less = part_at-shrinks (b ∷ s) part rest e in rw e (ap (before (encoded part)) (enough (length s) (length rest) rest (omega arith) (omega arith)))

pub unescaped-fault : (b : ℕ) (s : List ℕ) (k : EscapeFault) → part_at (b ∷ s) ≡ Err k → unescaped (b ∷ s) ≡ Err k
unfolding unescaped unescaped_in
unescaped-fault b s k e = rw e refl

pub unescaped-nil : unescaped [] ≡ Ok []
unfolding unescaped unescaped_in
unescaped-nil = refl

pub before-before : (xs ys : List ℕ) (r : Result (List ℕ) EscapeFault) → before xs (before ys r) ≡ before (xs ++ ys) r
before-before xs ys (Ok x) = ap (λ (z : List ℕ). Ok z) (simp append_assoc)
before-before xs ys (Err k) = refl

-- ---- a loop that has read some, and reads on

pub goes_on : (front s rest : List ℕ) (part : Part) (total : Result (List ℕ) EscapeFault) → part_at s ≡ Ok (part, rest) → before front (unescaped s) ≡ total → before (front ++ encoded part) (unescaped rest) ≡ total
goes_on front s rest part total e so_far = sym (before-before front (encoded part) (unescaped rest)) ∙ ap (before front) (sym (unescaped-part s part rest e)) ∙ so_far

pub is_done : (front s : List ℕ) (total : Result (List ℕ) EscapeFault) (b : Bool) → b ≡ eqb (length s) 0 → b ≡ true → before front (unescaped s) ≡ total → total ≡ Ok front
is_done front [] total b e t so_far = sym so_far ∙ ap (before front) unescaped-nil ∙ ap (λ (z : List ℕ). Ok z) (append-nil front)
is_done front (x ∷ s) total b e t so_far = let p : length (x ∷ s) ≡ 0 = eqb-true (length (x ∷ s)) 0 (sym e ∙ t) in absurd (omega arith)

pub fails : (front s : List ℕ) (error : Refusal EscapeFault) (total : Result (List ℕ) EscapeFault) (b : Bool) → b ≡ eqb (length s) 0 → b ≡ false → Fails error (part_at s) → before front (unescaped s) ≡ total → Fails error total
fails front s refusal.Memory total b e t f so_far = tt
fails front [] (refusal.Fault k) total b e t f so_far = absurd (let p : false ≡ eqb (length {A = ℕ} []) 0 = sym t ∙ e in cc)
fails front (x ∷ s) (refusal.Fault k) total b e t f so_far = sym so_far ∙ ap (before front) (unescaped-fault x s k f)

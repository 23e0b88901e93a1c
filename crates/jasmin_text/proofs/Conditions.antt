-- The parts of a test of several conditions.
use Rattle.std.proofs.Common.{◌≡◌, Bool, true, ◌&&◌, List, [], ◌∷◌, refl}
use Rattle.std.specs.List.{list_all}
use Rattle.std.proofs.lemmas.Bool.{and_from, and_parts}

pub three : (a b c : Bool) → (a && b && c) ≡ true → (a ≡ true) × (b ≡ true) × (c ≡ true)
three a b c h = let p = and_parts (a && b) c h in let q = and_parts a b p.0 in (q.0, q.1, p.1)

pub four : (a b c d : Bool) → (a && b && c && d) ≡ true → (a ≡ true) × (b ≡ true) × (c ≡ true) × (d ≡ true)
four a b c d h = let p = and_parts (a && b && c) d h in let q = three a b c p.0 in (q.0, q.1, q.2, p.1)

pub five : (a b c d e : Bool) → (a && b && c && d && e) ≡ true → (a ≡ true) × (b ≡ true) × (c ≡ true) × (d ≡ true) × (e ≡ true)
five a b c d e h = let p = and_parts (a && b && c && d) e h in let q = four a b c d p.0 in (q.0, q.1, q.2, q.3, p.1)

pub six : (a b c d e f : Bool) → (a && b && c && d && e && f) ≡ true → (a ≡ true) × (b ≡ true) × (c ≡ true) × (d ≡ true) × (e ≡ true) × (f ≡ true)
six a b c d e f h = let p = and_parts (a && b && c && d && e) f h in let q = five a b c d e p.0 in (q.0, q.1, q.2, q.3, q.4, p.1)

pub nine : (a b c d e f g i j : Bool) → (a && b && c && d && e && f && g && i && j) ≡ true
    → (a ≡ true) × (b ≡ true) × (c ≡ true) × (d ≡ true) × (e ≡ true) × (f ≡ true) × (g ≡ true) × (i ≡ true) × (j ≡ true)
nine a b c d e f g i j h =
    let p = four (a && b && c && d && e && f) g i j h in
    let q = six a b c d e f p.0 in
    (q.0, q.1, q.2, q.3, q.4, q.5, p.1, p.2, p.3)

-- what each element passes implies a weaker test of each
pub all_weaker : {A : Type 0} (f g : A → Bool) (xs : List A) → ((x : A) → f x ≡ true → g x ≡ true) → list_all f xs ≡ true → list_all g xs ≡ true
all_weaker f g [] weaker h = refl
all_weaker f g (x ∷ xs) weaker h = let p = and_parts (f x) (list_all f xs) h in and_from (g x) (list_all g xs) (weaker x p.0) (all_weaker f g xs weaker p.1)

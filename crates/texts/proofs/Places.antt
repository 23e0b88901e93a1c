-- The place of a text among others, and in a table.
use Rattle.std.proofs.Common.{◌≡◌, ℕ, suc, ◌+◌, ◌<◌, Bool, true, false, cond, inl, inr, Option, Some, None, List, [], ◌∷◌, ◌++◌, length, refl, sym, ap, ◌∙◌, subst, arith, Vec, Global}
use Rattle.std.proofs.lemmas.Bool.{cases_Bool, or_parts}
use Rattle.std.proofs.lemmas.Iterator.Adapters.{position_from-zero}
use Rattle.std.proofs.lemmas.List.{length-map, map-append}
use Rattle.std.proofs.lemmas.List.Quantifiers.{position-Some}
use Rattle.std.proofs.lemmas.Map.Text.{is_eq-slice_cmp}
use Rattle.std.proofs.lemmas.Slice.Eq.{bytes_eq-Decides}
use Rattle.std.specs.BTreeMap.{BTreeMap, Updates, get_by}
use Rattle.std.specs.Cmp.{eq_by_cmp_equiv}
use Rattle.std.specs.Cmp.Lexicographic.{slice_cmp, nat_list_cmp_total, nat_list_eq_equiv}
use Rattle.std.specs.List.{list_any, position_from}
use Rattle.std.specs.Map.{IsKeyTest, AreApart, KeepsOthers, lookup}
use Rattle.std.specs.Option.{is_some}
use Rattle.std.specs.Ordering.{is_eq, eq_by_cmp, nat_cmp}
use Rattle.std.specs.Prelude.{IfSome, map}
use Rattle.std.specs.Str.{bytes_eq}
use Rattle.texts.specs.Places.{FindsEach}
use Rattle.texts.specs.Texts.{place_of_text, has_text}

-- a text has a place where it is among the texts
some_from : {X : Type 0} (q : X → Bool) (k : ℕ) (xs : List X) → is_some (position_from q k xs) ≡ list_any q xs
some_from q k [] = refl
some_from q k (x ∷ xs) = elim (cases_Bool (q x)) [ inl e ↦ rw e refl | inr e ↦ rw e (some_from q (k + 1) xs) ]

pub placed : (t : List ℕ) (texts : List (List ℕ)) → is_some (place_of_text t texts) ≡ has_text t texts
placed t texts = ap is_some (position_from-zero (bytes_eq t) texts) ∙ some_from (bytes_eq t) 0 texts

pub placed_within : (t : List ℕ) (texts : List (List ℕ)) (r : Option ℕ) → r ≡ place_of_text t texts → IfSome r (λ place. place < length texts)
placed_within t texts None e = tt
placed_within t texts (Some place) e = (position-Some (bytes_eq t) texts place [] (sym e)).0

-- a text at the end: its own place, and the places of others
new_from : {X : Type 0} (q : X → Bool) (k : ℕ) (xs : List X) (y : X) → q y ≡ true → list_any q xs ≡ false → position_from q k (xs ++ y ∷ []) ≡ Some (k + length xs)
new_from q k [] y t n = let z : k ≡ k + 0 = omega arith in rw t (ap Some z)
new_from q k (x ∷ xs) y t n =
    let p = or_parts (q x) (list_any q xs) n in
    let z : k + 1 + length xs ≡ k + suc (length xs) = omega arith in
    rw p.0 (new_from q (k + 1) xs y t p.1 ∙ ap Some z)

others_from : {X : Type 0} (q : X → Bool) (k : ℕ) (xs : List X) (y : X) → q y ≡ false → position_from q k (xs ++ y ∷ []) ≡ position_from q k xs
others_from q k [] y n = rw n refl
others_from q k (x ∷ xs) y n = ap (cond (q x) (Some k)) (others_from q (k + 1) xs y n)

-- the places with one text more
pub place_noted : (t text : List ℕ) (texts : List (List ℕ)) → has_text text texts ≡ false → place_of_text t (texts ++ text ∷ []) ≡ cond (bytes_eq text t) (Some (length texts)) (place_of_text t texts)
place_noted t text texts n =
    elim (cases_Bool (bytes_eq text t)) [
      | inl e ↦
          let same : text ≡ t = (bytes_eq-Decides text t).0 e in
          let own : bytes_eq t text ≡ true = (bytes_eq-Decides t text).1 (sym same) in
          let last : 0 + length texts ≡ length texts = omega arith in
          rw e (position_from-zero (bytes_eq t) (texts ++ text ∷ []) ∙ new_from (bytes_eq t) 0 texts text own (subst (λ z. has_text z texts ≡ false) same n) ∙ ap Some last)
      | inr e ↦
          let other : bytes_eq t text ≡ false = nat_list_eq_equiv.symm t text ∙ e in
          rw e (position_from-zero (bytes_eq t) (texts ++ text ∷ []) ∙ others_from (bytes_eq t) 0 texts text other ∙ sym (position_from-zero (bytes_eq t) texts))
    ]

others_stay : {K X : Type 0} (eq : K → K → Bool) (test : K → Bool) (old new : List (K × X)) → KeepsOthers eq test old new → (other : K → Bool) → IsKeyTest eq other → AreApart test other → lookup other new ≡ lookup other old
unfolding KeepsOthers
others_stay eq test old new h = h

apart : (text t key : List ℕ) → bytes_eq text t ≡ false → is_eq (slice_cmp nat_cmp text key) ≡ true → is_eq (slice_cmp nat_cmp t key) ≡ false
apart text t key n y =
    let same : text ≡ key = (bytes_eq-Decides text key).0 (sym (is_eq-slice_cmp text key) ∙ y) in
    is_eq-slice_cmp t key ∙ nat_list_eq_equiv.symm t key ∙ ap (λ z. bytes_eq z t) (sym same) ∙ n

-- what a table finds after a key is inserted
pub found_after : (key : Vec ℕ Global) (old new : BTreeMap (Vec ℕ Global) ℕ) (place : ℕ) → Updates (λ x y. slice_cmp nat_cmp x.items y.items) old new key (Some place) →
    (t : List ℕ) → get_by (λ k. slice_cmp nat_cmp t k.items) new ≡ cond (bytes_eq key.items t) (Some place) (get_by (λ k. slice_cmp nat_cmp t k.items) old)
found_after key old new place h t =
    elim (cases_Bool (bytes_eq key.items t)) [
      | inl e ↦ rw e (subst (λ z. get_by (λ k. slice_cmp nat_cmp z k.items) new ≡ Some place) ((bytes_eq-Decides key.items t).0 e) h.1)
      | inr e ↦
          rw e
          (others_stay
          (eq_by_cmp (λ x y. slice_cmp nat_cmp x.items y.items)) (λ k. is_eq (slice_cmp nat_cmp key.items k.items)) old.entries new.entries h.3 (λ k. is_eq (slice_cmp nat_cmp t k.items))
          (λ x y. (eq_by_cmp_equiv nat_list_cmp_total).congr t x.items y.items)
          (λ k. apart key.items t k.items e))
    ]

-- a table with one text more finds each at its place
pub finds_noted : (key copy : Vec ℕ Global) (text : List ℕ) (old new : BTreeMap (Vec ℕ Global) ℕ) (kept pushed : List (Vec ℕ Global)) (place : ℕ) →
    FindsEach old (map (λ v. v.items) kept) → has_text text (map (λ v. v.items) kept) ≡ false → key.items ≡ text → copy.items ≡ text → place ≡ length kept →
    Updates (λ x y. slice_cmp nat_cmp x.items y.items) old new key (Some place) → pushed ≡ kept ++ copy ∷ [] → FindsEach new (map (λ v. v.items) pushed)
finds_noted key copy text old new kept pushed place f n k c l h p t =
    let texts = map (λ (v : Vec ℕ Global). v.items) kept in
    let all : map (λ (v : Vec ℕ Global). v.items) pushed ≡ texts ++ text ∷ [] = ap (map (λ v. v.items)) p ∙ map-append (λ (v : Vec ℕ Global). v.items) kept (copy ∷ []) ∙ ap (λ z. texts ++ z ∷ []) c in
    found_after key old new place h t ∙ ap (λ z. cond (bytes_eq z t) (Some place) (get_by (λ k. slice_cmp nat_cmp t k.items) old)) k ∙
    ap (cond (bytes_eq text t) (Some place)) (f t) ∙ ap (λ z. cond (bytes_eq text t) (Some z) (place_of_text t texts)) (l ∙ sym (length-map kept (λ (v : Vec ℕ Global). v.items))) ∙
    sym (place_noted t text texts n) ∙ ap (place_of_text t) (sym all)

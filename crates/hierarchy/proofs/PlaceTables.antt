-- The places of one class's members more.
use Rattle.std.proofs.Common.{◌≡◌, ℕ, zero, suc, ◌+◌, ◌⊎◌, inl, inr, Bool, false, Some, List, [], ◌∷◌, ◌++◌, length, take, refl, sym, ap, ◌∙◌, subst, arith, slice_get, length-append}
use Rattle.std.specs.Prelude.{◌||◌}
use Rattle.std.specs.List.{list_any}
use Rattle.std.proofs.lemmas.List.Folds.{list_any-append}
use Rattle.std.proofs.lemmas.Option.{slice_get_within}
use Rattle.hierarchy.specs.declared.class.Class.{Class}
use Rattle.hierarchy.specs.declared.member_places.MemberPlaces.{MemberPlaces}
use Rattle.hierarchy.specs.Members.{repeats_member}
use Rattle.hierarchy.specs.MemberPlaces.{ArePlacesOf, HavePlaces}
use Rattle.hierarchy.proofs.Positions.{Some_same}

take_more : {X : Type 0} (xs : List X) (k : ℕ) (x : X) → slice_get xs k ≡ Some x → take (suc k) xs ≡ take k xs ++ x ∷ []
take_more [] k x e = absurd cc
take_more (y ∷ ys) zero x e = ap (λ z. z ∷ []) (Some_same e)
take_more (y ∷ ys) (suc k) x e = ap (λ zs. y ∷ zs) (take_more ys k x e)

pub one_more : {X : Type 0} (xs : List X) (k : ℕ) (x : X) → slice_get xs k ≡ Some x → take (k + 1) xs ≡ take k xs ++ x ∷ []
one_more xs k x e = let n : k + 1 ≡ suc k = omega arith in ap (λ m. take m xs) n ∙ take_more xs k x e

-- what is in a list with one element more
at_end : {X : Type 0} (xs : List X) (x : X) (n : ℕ) (z : X) → slice_get (xs ++ x ∷ []) n ≡ Some z → (slice_get xs n ≡ Some z) ⊎ ((n ≡ length xs) × (x ≡ z))
at_end [] x zero z e = inr (refl, Some_same e)
at_end [] x (suc n) z e = absurd cc
at_end (y ∷ ys) x zero z e = inl e
at_end (y ∷ ys) x (suc n) z e = elim (at_end ys x n z e) [ inl h ↦ inl h | inr h ↦ inr (ap suc h.0, h.1) ]

pub have_more : (classes : List Class) (all : List MemberPlaces) (k : ℕ) (class : Class) (places : MemberPlaces) → slice_get classes k ≡ Some class → HavePlaces (take k classes) all → ArePlacesOf class places → HavePlaces (take (k + 1) classes) (all ++ places ∷ [])
have_more classes all k class places e h p = subst (λ (xs : List Class). HavePlaces xs (all ++ places ∷ [])) (sym (one_more classes k class e)) (record {
  count_is = length-append all (places ∷ []) ∙ ap (λ n. n + 1) h.count_is ∙ sym (length-append (take k classes) (class ∷ []));
  are = λ n c q a b.
      elim (at_end (take k classes) class n c a) [
        | inl x ↦ elim (at_end all places n q b) [
          | inl y ↦ h.are n c q x y
          | inr y ↦ absurd (omega (arith, slice_get_within (take k classes) n c x, y.0, h.count_is))
        ]
        | inr x ↦ elim (at_end all places n q b) [
          | inl y ↦ absurd (omega (arith, slice_get_within all n q y, x.0, h.count_is))
          | inr y ↦ subst (λ z. ArePlacesOf z q) x.1 (subst (ArePlacesOf class) y.1 p)
        ]
      ];
})

or_none : (a b : Bool) → a ≡ false → b ≡ false → a || (b || false) ≡ false
or_none a b e f = rw (e, f) refl

pub none_more : (classes : List Class) (k : ℕ) (class : Class) → slice_get classes k ≡ Some class → list_any repeats_member (take k classes) ≡ false → repeats_member class ≡ false → list_any repeats_member (take (k + 1) classes) ≡ false
none_more classes k class e none new = ap (list_any repeats_member) (one_more classes k class e) ∙ list_any-append repeats_member (take k classes) (class ∷ []) ∙ or_none _ _ none new

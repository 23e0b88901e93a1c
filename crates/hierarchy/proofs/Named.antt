-- Names noted in file order, and the first that is repeated.
use Rattle.std.proofs.Common.{◌≡◌, ℕ, zero, suc, ◌<◌, ◌+◌, inl, inr, false, cond, List, [], ◌∷◌, ◌++◌, length, take, get_or, sym, ap, subst, ◌∙◌, arith}
use Rattle.std.proofs.lemmas.Bool.{cases_lt}
use Rattle.std.proofs.lemmas.List.{map-append, take_more, length-map}
use Rattle.jasmin_text.specs.declared.class_text.ClassParts.{ClassParts}
use Rattle.texts.specs.Texts.{has_text, note_text}
use Rattle.hierarchy.specs.Linking.{kinds_of, names_of, IsRepeated}

-- the name at a place
pub name_at : (texts : List ClassParts) (i : ℕ) (t : ClassParts) → i < length texts → t ≡ get_or texts i t → get_or (names_of texts) i [] ≡ t.name
name_at [] i t h e = absurd (omega (arith, h))
name_at (x ∷ xs) zero t h e = ap (λ z. z.name) (sym e)
name_at (x ∷ xs) (suc i) t h e = name_at xs i t (omega (arith, h)) e

pub not_repeated_more : (texts : List ClassParts) (names : List (List ℕ)) (i : ℕ) (t : ClassParts) → i < length texts → t ≡ get_or texts i t → names ≡ take i (names_of texts) → has_text t.name names ≡ false →
    ((j : ℕ) → j < i → IsRepeated texts j → ⊥) → (j : ℕ) → j < i + 1 → IsRepeated texts j → ⊥
not_repeated_more texts names i t h e n r before j l q =
    elim (cases_lt j i) [
      | inl k ↦ before j k q
      | inr k ↦ let same : j ≡ i = omega (arith, l, k) in let here : IsRepeated texts i = subst (IsRepeated texts) same q in
          let g = rw (name_at texts i t h e, ← n) at here.1 in cc
    ]

pub names_more : (texts : List ClassParts) (names next : List (List ℕ)) (i : ℕ) (t : ClassParts) → i < length texts → t ≡ get_or texts i t → names ≡ take i (names_of texts) → has_text t.name names ≡ false →
    next ≡ note_text names t.name → next ≡ take (i + 1) (names_of texts)
names_more texts names next i t h e n r m =
    let l : i < length (names_of texts) = simp length-map h in
    m ∙ ap (λ b. cond b names (names ++ t.name ∷ [])) r ∙ ap (λ r. r ++ t.name ∷ []) n ∙ sym (take_more (names_of texts) i [] l ∙ ap (λ z. take i (names_of texts) ++ z ∷ []) (name_at texts i t h e))

pub next_kinds : (texts : List ClassParts) (i : ℕ) (t : ClassParts) → i < length texts → t ≡ get_or texts i t → kinds_of (take (i + 1) texts) ≡ kinds_of (take i texts) ++ t.kind ∷ []
next_kinds texts i t h e = ap kinds_of (take_more texts i t h) ∙ map-append (λ (x : ClassParts). x.kind) (take i texts) (get_or texts i t ∷ []) ∙ ap (λ (x : ClassParts). kinds_of (take i texts) ++ x.kind ∷ []) (sym e)

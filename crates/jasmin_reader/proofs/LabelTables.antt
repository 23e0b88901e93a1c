-- Labels beside their places, found by their bytes.
use Rattle.std.proofs.Common.{◌≡◌, ℕ, ◌+◌, false, inl, inr, List, [], ◌∷◌, ◌++◌, Option, Some, None, length, slice_get, refl, sym, ap, ◌∙◌, arith, append_assoc, length-append}
use Rattle.std.proofs.lemmas.Bool.{cases_Bool}
use Rattle.std.proofs.lemmas.Iterator.Adapters.{position_from-zero}
use Rattle.std.specs.List.{position_from, zip}
use Rattle.std.specs.Str.{bytes_eq}
use Rattle.jasmin_text.specs.Tables.{find_row}
use Rattle.texts.specs.Texts.{has_text, place_of_text}

abbrev pub at_place : List ℕ → Option ℕ → Option ℕ
at_place places None = None
at_place places (Some n) = slice_get places n

middle : (before : List ℕ) (n k : ℕ) (after : List ℕ) → k ≡ length before → slice_get (before ++ n ∷ after) k ≡ Some n
middle [] n k after e = rw e refl
middle (m ∷ before) n k after e = rw e (middle before n (length before) after refl)

row_from : (w : List ℕ) (k : ℕ) (before places : List ℕ) (names : List (List ℕ)) → k ≡ length before → length names ≡ length places →
    at_place (before ++ places) (position_from (bytes_eq w) k names) ≡ find_row w (zip names places)
row_from w k before places [] e l = refl
row_from w k before [] (t ∷ names) e l = absurd (omega (arith, l))
row_from w k before (n ∷ places) (t ∷ names) e l =
    let more : k + 1 ≡ length (before ++ n ∷ []) = let all = length-append before (n ∷ []) in omega (arith, e, all) in
    let fewer : length names ≡ length places = omega (arith, l) in
    elim (cases_Bool (bytes_eq w t)) [
      | inl y ↦ rw y (middle before n k places e)
      | inr y ↦
          rw y
          (ap (λ all. at_place all (position_from (bytes_eq w) (k + 1) names)) (sym (append_assoc before (n ∷ []) places)) ∙ row_from w (k + 1) (before ++ n ∷ []) places names more fewer)
    ]

-- a label that is there is found at its place
pub row_of : (w : List ℕ) (names : List (List ℕ)) (places : List ℕ) (o : Option ℕ) → length names ≡ length places → o ≡ place_of_text w names
    → at_place places o ≡ find_row w (zip names places)
row_of w names places o l e = ap (at_place places) (e ∙ position_from-zero (bytes_eq w) names) ∙ row_from w 0 [] places names refl l

pub new_name : (w : List ℕ) (names : List (List ℕ)) (places : List ℕ) → length names ≡ length places → find_row w (zip names places) ≡ None → has_text w names ≡ false
new_name w [] places l h = refl
new_name w (t ∷ names) [] l h = absurd (omega (arith, l))
new_name w (t ∷ names) (n ∷ places) l h =
    let fewer : length names ≡ length places = omega (arith, l) in
    elim (cases_Bool (bytes_eq w t)) [ inl y ↦ absurd (let k = rw y at h in cc) | inr y ↦ rw y (new_name w names places fewer (rw y at h)) ]

pub zip_pushed : (w : List ℕ) (n : ℕ) (names : List (List ℕ)) (places : List ℕ) → length names ≡ length places → zip (names ++ w ∷ []) (places ++ n ∷ []) ≡ zip names places ++ (w, n) ∷ []
zip_pushed w n [] [] l = refl
zip_pushed w n (t ∷ names) (m ∷ places) l = ap (λ rest. (t, m) ∷ rest) (zip_pushed w n names places (omega (arith, l)))
zip_pushed w n names places l = absurd (omega (arith, l))

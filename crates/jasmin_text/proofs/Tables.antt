-- What tables have: two, one after the other; no access word is `interface`.
use Rattle.std.proofs.Common.{◌≡◌, ℕ, false, List, [], ◌∷◌, ◌++◌, Some, None, refl, ap, inl, inr}
use Rattle.std.specs.Option.{option_or}
use Rattle.std.specs.Prelude.{codes}
use Rattle.std.specs.Str.{bytes_eq}
use Rattle.std.proofs.lemmas.Bool.{cases_Bool, false_from_ne_true}
use Rattle.std.proofs.lemmas.Slice.Eq.{bytes_eq-Decides}
use Rattle.jasmin_text.specs.Tables.{find_row, access_of, access_words}
use Rattle.jasmin_text.specs.declared.table.AccessWord.{AccessWord}

pub find_after : {T : Type 0} (word : List ℕ) (rows others : List (List ℕ × T)) → find_row word (rows ++ others) ≡ option_or (find_row word rows) (find_row word others)
find_after word [] others = refl
find_after word (row ∷ rows) others = elim (cases_Bool (bytes_eq word row.0)) [ inl y ↦ rw y refl | inr n ↦ rw n (find_after word rows others) ]

pub access_not_interface : (w : List ℕ) (a : AccessWord) → access_of w ≡ Some a → bytes_eq w (codes "interface") ≡ false
unfolding access_of access_words
access_not_interface w a e = false_from_ne_true (bytes_eq w (codes "interface")) (λ h.
    let is : access_of w ≡ access_of (codes "interface") = ap access_of ((bytes_eq-Decides w (codes "interface")).0 h) in
    let none : access_of (codes "interface") ≡ None = refl in
    cc)

-- Texts behind a view of each.
use Rattle.std.proofs.Common.{◌≡◌, ℕ, Bool, not, List, [], ◌∷◌, refl, sym, ap, ◌∙◌}
use Rattle.std.proofs.lemmas.List.{length-map}
use Rattle.std.specs.List.{prefix_len, position}
use Rattle.std.specs.Prelude.{map}
use Rattle.std.specs.Str.{bytes_eq}
use Rattle.std.specs.Bool.{one_answer}
use Rattle.std.proofs.lemmas.Slice.Eq.{bytes_eq-Decides}
use Rattle.hierarchy.specs.declared.class.Class.{Class}
use Rattle.hierarchy.specs.LinkedProgram.{class_names, place_in}
use Rattle.texts.specs.Texts.{place_of_text}

prefix_len-map : {X : Type 0} (q : List ℕ → Bool) (f : X → List ℕ) (xs : List X) → prefix_len q (map f xs) ≡ prefix_len (λ x. q (f x)) xs
prefix_len-map q f [] = refl
prefix_len-map q f (x ∷ xs) = rw (prefix_len-map q f xs) refl

pub position-map : {X : Type 0} (q : List ℕ → Bool) (f : X → List ℕ) (xs : List X) → position q (map f xs) ≡ position (λ x. q (f x)) xs
position-map q f xs = rw (prefix_len-map (λ x. not (q x)) f xs, length-map) refl

bytes_eq-sym : (xs ys : List ℕ) → bytes_eq xs ys ≡ bytes_eq ys xs
bytes_eq-sym xs ys = one_answer (bytes_eq xs ys) (bytes_eq ys xs) (bytes_eq-Decides xs ys) (λ h. sym ((bytes_eq-Decides ys xs).0 h), λ e. (bytes_eq-Decides ys xs).1 (sym e))

-- the place of a name among the classes' names
pub place-named : (classes : List Class) (name : List ℕ) → place_of_text name (class_names classes) ≡ place_in classes name
place-named classes name =
    position-map (bytes_eq name) (λ (c : Class). c.name) classes ∙ ap (λ (q : Class → Bool). position q classes) (λ i. λ (c : Class). bytes_eq-sym name c.name i)

-- Marks for the places that are named, one after the other.
use Rattle.std.proofs.Common.{◌≡◌, ℕ, ◌+◌, ◌<◌, ◌≤◌, Bool, true, false, ◌||◌, eqb, List, [], ◌∷◌, ◌++◌, length, take, refl, sym, ap, subst, ◌∙◌, append_assoc, arith, get_or}
use Rattle.std.specs.Prelude.{slice_index_or, slice_set, replicate}
use Rattle.std.specs.List.{flat_map}
use Rattle.std.proofs.lemmas.Bool.{eqb-true, eqb-false, false_from_ne_true}
use Rattle.std.proofs.Math.Bool.{or-true, or-false, or_assoc}
use Rattle.std.proofs.lemmas.List.{get_or-set_same, get_or-set_other, get_or-replicate, length-set, take_more, length-append, length-replicate, replicate_more, flat_map_more, take_all}
use Rattle.jasmin_writer.specs.Canonical.{is_named}
use Rattle.jasmin_writer.specs.Marks.{IsMarked}

is_named-push : (ps : List ℕ) (p k : ℕ) → is_named (ps ++ p ∷ []) k ≡ (is_named ps k || eqb p k)
is_named-push [] p k = or-false (eqb p k)
is_named-push (q ∷ ps) p k = ap (λ (b : Bool). eqb q k || b) (is_named-push ps p k) ∙ sym (or_assoc (eqb q k) (is_named ps k) (eqb p k))

pub marked_set : (marks : List Bool) (p : ℕ) → p < length marks → (n : ℕ) (ps : List ℕ) → IsMarked n marks ps → IsMarked n (slice_set marks p true) (ps ++ p ∷ [])
marked_set marks p within n ps h = record { len = length-set marks p true ∙ h.len; each = each }
  where
    each : (k : ℕ) → k < n → slice_index_or (slice_set marks p true) k false ≡ is_named (ps ++ p ∷ []) k
    each k less =
        let go : (t : Bool) → eqb p k ≡ t → slice_index_or (slice_set marks p true) k false ≡ is_named (ps ++ p ∷ []) k = λ t. elim t as (λ t. eqb p k ≡ t → slice_index_or (slice_set marks p true) k false ≡ is_named (ps ++ p ∷ []) k) [
          | true ↦ λ e.
              let same : p ≡ k = eqb-true p k e in
              ap (λ (z : ℕ). slice_index_or (slice_set marks p true) z false) (sym same) ∙ get_or-set_same marks p true false within ∙ sym (or-true (is_named ps k)) ∙ ap (λ (b : Bool). is_named ps k || b) (sym e) ∙ sym (is_named-push ps p k)
          | false ↦ λ e.
              get_or-set_other marks p k true false (λ (same : k ≡ p). eqb-false p k e (sym same)) ∙ h.each k less ∙ sym (or-false (is_named ps k)) ∙ ap (λ (b : Bool). is_named ps k || b) (sym e) ∙ sym (is_named-push ps p k)
        ] in
        go (eqb p k) refl

pub marked_past : (marks : List Bool) (p : ℕ) → length marks ≤ p → (n : ℕ) (ps : List ℕ) → IsMarked n marks ps → IsMarked n marks (ps ++ p ∷ [])
marked_past marks p past n ps h = record { len = h.len; each = each }
  where
    each : (k : ℕ) → k < n → slice_index_or marks k false ≡ is_named (ps ++ p ∷ []) k
    each k less =
        let e : eqb p k ≡ false = false_from_ne_true (eqb p k) (λ t. let same : p ≡ k = eqb-true p k t in absurd (omega (arith, h.len))) in
        h.each k less ∙ sym (or-false (is_named ps k)) ∙ ap (λ (b : Bool). is_named ps k || b) (sym e) ∙ sym (is_named-push ps p k)

-- no place is named by nothing
pub none_marked : (n : ℕ) → IsMarked (n + 1) (replicate n false ++ false ∷ []) []
none_marked n = record { len = length-append (replicate n false) (false ∷ []) ∙ ap (λ (k : ℕ). k + 1) (length-replicate n false); each = all_false }
  where
    all_false : (k : ℕ) → k < n + 1 → get_or (replicate n false ++ false ∷ []) k false ≡ false
    all_false k less = ap (λ (l : List Bool). get_or l k false) (replicate_more n false) ∙ get_or-replicate (n + 1) k false false less

-- ---- loops

-- marking goes from the one list of marks to the other
abbrev pub Marks : List Bool → List Bool → List ℕ → Type 0
Marks before after named = (n : ℕ) (ps : List ℕ) → IsMarked n before ps → IsMarked n after (ps ++ named)

-- one more was marked
pub marked_more : {A : Type 0} (f : A → List ℕ) (first before after : List Bool) (xs : List A) (i : ℕ) (x d : A) → i < length xs → get_or xs i d ≡ x
    → Marks before after (f x) → Marks first before (flat_map f (take i xs)) → Marks first after (flat_map f (take (i + 1) xs))
marked_more f first before after xs i x d less e step so_far n ps h =
    let more : take (i + 1) xs ≡ take i xs ++ x ∷ [] = take_more xs i d less ∙ ap (λ (z : _). take i xs ++ z ∷ []) e in
    let named : ps ++ flat_map f (take (i + 1) xs) ≡ (ps ++ flat_map f (take i xs)) ++ f x = ap (λ (z : List _). ps ++ flat_map f z) more ∙ sym (flat_map_more f ps (take i xs) x) in
    subst (λ (z : List ℕ). IsMarked n after z) (sym named) (step n (ps ++ flat_map f (take i xs)) (so_far n ps h))

-- all were marked
pub marked_all : {A : Type 0} (f : A → List ℕ) (first marks : List Bool) (xs : List A) (i : ℕ) → length xs ≤ i → Marks first marks (flat_map f (take i xs)) → Marks first marks (flat_map f xs)
marked_all f first marks xs i past so_far n ps h = subst (λ (z : List _). IsMarked n marks (ps ++ flat_map f z)) (take_all i xs past) (so_far n ps h)

pub then_marked : (a b c : List Bool) (xs ys : List ℕ) → Marks a b xs → Marks b c ys → Marks a c (xs ++ ys)
then_marked a b c xs ys f g n ps h = subst (λ (z : List ℕ). IsMarked n c z) (append_assoc ps xs ys) (g n (ps ++ xs) (f n ps h))

pub singles : (xs : List ℕ) → flat_map (λ p. p ∷ []) xs ≡ xs
singles [] = refl
singles (x ∷ xs) = ap (λ (z : List ℕ). x ∷ z) (singles xs)

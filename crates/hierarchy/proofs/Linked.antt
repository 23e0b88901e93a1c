-- The passes put together.
use Rattle.std.proofs.Common.{◌≡◌, ℕ, ◌<◌, ◌⊎◌, inl, inr, true, false, Some, Result, Ok, Err, List, [], ◌∷◌, length, slice_get, refl, sym, ap, ◌∙◌, subst, arith}
use Rattle.std.specs.Prelude.{IfErr, ◌==◌, position}
use Rattle.std.proofs.lemmas.Bool.{eqb-true}
use Rattle.jasmin_text.specs.declared.class_text.ClassParts.{ClassParts}
use Rattle.jasmin_text.specs.declared.class_text.ClassKind.{ClassKind}
use Rattle.hierarchy.specs.declared.class.Class.{Class}
use Rattle.hierarchy.specs.declared.fault.LinkFault.{LinkFault}
use Rattle.hierarchy.specs.declared.fault.LinkFaultKind.{LinkFaultKind}
use Rattle.hierarchy.specs.declared.fault.LinkFaultKind.TheVariants.{RepeatedMember, TooMany, NoMemory}
use Rattle.hierarchy.specs.Linking.{IsFirst, names_of, kinds_of, classes_from, classes_of, fault}
use Rattle.hierarchy.specs.Members.{repeats_member}
use Rattle.hierarchy.specs.Quoted.{FillsHeap}
use Rattle.hierarchy.specs.FirstFault.{HasNames, HasNoCycle, HasDistinctMembers, repeats, fills, IsNameFault, IsClassFault, IsFirstFault, of_names, of_supertypes, of_classes, IsMemory, name_in_text, name_in_class}

pub err_map : {X E : Type 0} (P Q : E → Type 0) (r : Result X E) → ((e : E) → P e → Q e) → IfErr r P → IfErr r Q
err_map P Q (Ok x) f h = tt
err_map P Q (Err e) f h = f e h

-- the classes are those of the texts
pub are_of : (texts : List ClassParts) (names : List (List ℕ)) (kinds : List ClassKind) (r : Result (List Class) LinkFault) → names ≡ names_of texts → kinds ≡ kinds_of texts → classes_from names kinds texts ≡ r → classes_of texts ≡ r
are_of texts names kinds r n k e = sym (ap (λ z. classes_from z kinds texts) n ∙ ap (λ z. classes_from (names_of texts) z texts) k) ∙ e

pub supertypes_fault : (texts : List ClassParts) (f : LinkFault) → HasNames texts → (f.kind ≡ NoMemory) ⊎ (classes_of texts ≡ Err f) → IsMemory f ⊎ IsFirstFault texts f
supertypes_fault texts f good (inl m) = inl m
supertypes_fault texts f good (inr e) = inr (of_supertypes good e)

pub names_fault : (texts : List ClassParts) (k : LinkFaultKind) (i : ℕ) (name : List ℕ) → (k ≡ NoMemory) ⊎ IsNameFault texts k i → name_in_text (slice_get texts i) ≡ Some name → (k ≡ NoMemory) ⊎ IsFirstFault texts (fault k name)
names_fault texts k i name (inl m) e = inl m
names_fault texts k i name (inr f) e = inr (of_names f e)

pub classes_fault : (texts : List ClassParts) (classes : List Class) (f : LinkFault) → HasNames texts → classes_of texts ≡ Ok classes →
    IsMemory f ⊎ ((i : ℕ) × IsClassFault classes f.kind i × (name_in_class (slice_get classes i) ≡ Some f.class)) → IsMemory f ⊎ IsFirstFault texts f
classes_fault texts classes f good e (inl m) = inl m
classes_fault texts classes f good e (inr h) = inr (of_classes good e h.1 h.2)

pub members_fault : (classes : List Class) (k : LinkFaultKind) (i : ℕ) → HasNoCycle classes → (k ≡ NoMemory) ⊎ (k ≡ RepeatedMember) × (position repeats_member classes ≡ Some i) → (k ≡ NoMemory) ⊎ IsClassFault classes k i
members_fault classes k i none (inl m) = inl m
members_fault classes k i none (inr h) = inr (subst (λ (z : LinkFaultKind). IsClassFault classes z i) (sym h.0) (repeats none h.1))

pub heap_fault : (classes : List Class) (k : LinkFaultKind) (i : ℕ) → HasNoCycle classes → HasDistinctMembers classes → (k ≡ NoMemory) ⊎ (k ≡ TooMany) × IsFirst (FillsHeap classes) i → (k ≡ NoMemory) ⊎ IsClassFault classes k i
heap_fault classes k i none distinct (inl m) = inl m
heap_fault classes k i none distinct (inr h) = inr (subst (λ (z : LinkFaultKind). IsClassFault classes z i) (sym h.0) (fills none distinct h.1))

pub none_there : {X : Type 0} (xs : List X) (n : ℕ) → length xs ≡ n → (n == 0) ≡ true → xs ≡ []
none_there [] n l e = refl
none_there (x ∷ xs) n l e = absurd (omega (arith, l, eqb-true n 0 e))

pub some_there : {X : Type 0} (xs : List X) (n : ℕ) → length xs ≡ n → (n == 0) ≡ false → 0 < length xs
some_there [] n l e = let z = rw (← l) at e in absurd cc
some_there (x ∷ xs) n l e = omega arith

pub either_map : (A B C : Type 0) → (B → C) → A ⊎ B → A ⊎ C
either_map A B C f (inl a) = inl a
either_map A B C f (inr b) = inr (f b)

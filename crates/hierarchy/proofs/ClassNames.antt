-- Classes are found by their names.
use Rattle.std.proofs.Common.{◌≡◌, ℕ, zero, suc, ◌+◌, ◌-◌, ◌≤◌, ◌<◌, true, false, not, inl, inr, Option, Some, None, List, [], ◌∷◌, length, take, slice_get, get_or, refl, sym, ap, subst, ◌∙◌, arith}
use Rattle.std.proofs.lemmas.Bool.{cases_Bool, or_from, and_parts, not-true, true≢false}
use Rattle.std.proofs.lemmas.Option.{slice_get-map, slice_get_past, slice_get_within, get_or_from_slice_get}
use Rattle.std.proofs.lemmas.List.{length-map}
use Rattle.std.proofs.lemmas.Slice.Eq.{bytes_eq-Decides}
use Rattle.std.specs.List.{list_any, position_from}
use Rattle.std.specs.Option.{option_map, option_or}
use Rattle.std.specs.Str.{bytes_eq}
use Rattle.jasmin_text.specs.declared.class_text.ClassParts.{ClassParts}
use Rattle.hierarchy.specs.declared.class.Class.{Class}
use Rattle.hierarchy.specs.declared.class.ClassId.{ClassId}
use Rattle.hierarchy.specs.declared.built_in.BuiltIn.{BuiltIn}
use Rattle.hierarchy.specs.BuiltIn.{number_of, name_of, built_ins, built_in_names, place_of}
use Rattle.texts.specs.Texts.{has_text}
use Rattle.hierarchy.specs.LinkedProgram.{LinkedProgram, class_at, built_in, id, class_name, class_names, name_at, place_in, class_named}
use Rattle.hierarchy.specs.Linking.{is_reserved, names_of, kinds_of}
use Rattle.hierarchy.specs.LinkedTexts.{IsLinked}
use Rattle.hierarchy.specs.OwnNames.{AreFoundByName, AreBuiltInsFound}
use Rattle.hierarchy.proofs.BuiltIns.{at-number}
use Rattle.hierarchy.proofs.Searches.{length-get_none}
use Rattle.hierarchy.proofs.Acyclic.{get-past}
use Rattle.hierarchy.proofs.InRange.{named_alike}
use Rattle.hierarchy.proofs.TextLists.{place-named, position-map}
use Rattle.hierarchy.proofs.Positions.{Some_same, any-at, first_place, found_passes, none_found, position_by_steps, place_by_steps, are_different}

bytes_same : (xs ys : List ℕ) → bytes_eq xs ys ≡ true → xs ≡ ys
bytes_same xs ys e = (bytes_eq-Decides xs ys).0 e

bytes_refl : (xs : List ℕ) → bytes_eq xs xs ≡ true
bytes_refl xs = (bytes_eq-Decides xs xs).1 refl

-- no text before is the one
none_before_it : (names : List (List ℕ)) (i : ℕ) (name : List ℕ) → are_different names ≡ true → slice_get names i ≡ Some name → list_any (λ other. bytes_eq other name) (take i names) ≡ false
none_before_it [] i name d e = absurd cc
none_before_it (n ∷ ns) zero name d e = refl
none_before_it (n ∷ ns) (suc i) name d e =
    let r = and_parts (not (list_any (bytes_eq n) ns)) (are_different ns) d in
    or_from (bytes_eq n name) _ (any-at (bytes_eq n) ns i name (not-true (list_any (bytes_eq n) ns) r.0) e) (none_before_it ns i name r.1 e)

built_ins_differ : are_different built_in_names ≡ true
unfolding built_in_names built_ins
built_ins_differ = refl

built_ins_reserved : list_any (λ name. not (is_reserved name)) built_in_names ≡ false
unfolding built_in_names built_ins
built_ins_reserved = refl

reserved_at : (k : ℕ) (name : List ℕ) → slice_get built_in_names k ≡ Some name → not (is_reserved name) ≡ false
reserved_at k name e = any-at (λ n. not (is_reserved n)) built_in_names k name built_ins_reserved e

built_in_found : (k : ℕ) (name : List ℕ) → slice_get built_in_names k ≡ Some name → place_of built_in_names name ≡ Some k
built_in_found k name e =
    place_by_steps 0 built_in_names name ∙ first_place (λ other. bytes_eq other name) built_in_names k name e (bytes_refl name) (none_before_it built_in_names k name built_ins_differ e)

built_in_is : (k : ℕ) (name : List ℕ) → place_of built_in_names name ≡ Some k → slice_get built_in_names k ≡ Some name
built_in_is k name e =
    let f = found_passes (λ other. bytes_eq other name) 0 built_in_names k (sym (place_by_steps 0 built_in_names name) ∙ e) in
    let same : k ≡ f.place = omega (arith, f.is) in
    ap (slice_get built_in_names) same ∙ f.there ∙ ap Some (bytes_same f.at name f.passes)

class_at-name : (classes : List Class) (k : ℕ) (class : Class) → slice_get classes k ≡ Some class → slice_get (class_names classes) k ≡ Some class.name
class_at-name classes k class e = slice_get-map (λ (c : Class). c.name) classes k ∙ ap (option_map (λ (c : Class). c.name)) e

module _ (p : LinkedProgram) (h : IsLinked p) where
  alike : class_names p.classes ≡ names_of h.texts
  alike = named_alike (names_of h.texts) (kinds_of h.texts) h.texts p.classes h.links.supertypes

  place_steps : (name : List ℕ) → place_in p.classes name ≡ position_from (bytes_eq name) 0 (class_names p.classes)
  place_steps name = sym (place-named p.classes name) ∙ position_by_steps (bytes_eq name) (class_names p.classes)

  -- no class before has the name of this one
  first_of_name : (k : ℕ) (name : List ℕ) → slice_get (class_names p.classes) k ≡ Some name → list_any (bytes_eq name) (take k (class_names p.classes)) ≡ false
  first_of_name k name e =
      elim (cases_Bool (list_any (bytes_eq name) (take k (class_names p.classes)))) [
        | inl t ↦
            let there : slice_get (names_of h.texts) k ≡ Some name = ap (λ ns. slice_get ns k) (sym alike) ∙ e in
            let within : k < length h.texts = rw length-map at (slice_get_within (names_of h.texts) k name there) in
            let same : get_or (names_of h.texts) k [] ≡ name = get_or_from_slice_get (names_of h.texts) k name [] there in
            absurd (h.links.names.distinct k (within, ap (λ n. has_text n (take k (names_of h.texts))) same ∙ ap (λ ns. list_any (bytes_eq name) (take k ns)) (sym alike) ∙ t))
        | inr f ↦ f
      ]

  file_found : (k : ℕ) (class : Class) → slice_get p.classes k ≡ Some class → place_in p.classes class.name ≡ Some k
  file_found k class e =
      let there = class_at-name p.classes k class e in
      place_steps class.name ∙ first_place (bytes_eq class.name) (class_names p.classes) k class.name there (bytes_refl class.name) (first_of_name k class.name there)

  file_is : (k : ℕ) (name : List ℕ) → place_in p.classes name ≡ Some k → slice_get (class_names p.classes) k ≡ Some name
  file_is k name e =
      let f = found_passes (bytes_eq name) 0 (class_names p.classes) k (sym (place_steps name) ∙ e) in
      let same : k ≡ f.place = omega (arith, f.is) in
      ap (slice_get (class_names p.classes)) same ∙ f.there ∙ ap Some (sym (bytes_same name f.at f.passes))

  -- a file's class isn't under java/
  unreserved : (k : ℕ) (name : List ℕ) → slice_get (class_names p.classes) k ≡ Some name → is_reserved name ≡ false
  unreserved k name e =
      none_found is_reserved 0 (names_of h.texts) k name
      (sym (position_by_steps is_reserved (names_of h.texts)) ∙ position-map is_reserved (λ (t : ClassParts). t.name) h.texts ∙ h.links.names.user_names)
      (ap (λ ns. slice_get ns k) (sym alike) ∙ e)

  not_in_files : (k : ℕ) (name : List ℕ) → slice_get built_in_names k ≡ Some name → place_in p.classes name ≡ None
  not_in_files k name e = at (place_in p.classes name) refl
    where
      at : (o : Option ℕ) → place_in p.classes name ≡ o → place_in p.classes name ≡ None
      at None q = q
      at (Some n) q = let u = unreserved n name (file_is n name q) in let r = rw u at (reserved_at k name e) in absurd (true≢false r)

  named_found : (c : ClassId) (name : List ℕ) → name_at p c ≡ Some name → class_named p name ≡ Some c
  named_found c name e = at (class_at p c) refl e
    where
      at : (o : Option Class) → class_at p c ≡ o → class_name o (slice_get built_in_names (c.number - length p.classes)) ≡ Some name → class_named p name ≡ Some c
      at (Some class) g q =
          let same : class.name ≡ name = Some_same q in
          ap (λ o. option_or (option_map id o) (option_map (λ k. id (length p.classes + k)) (place_of built_in_names name))) (ap (place_in p.classes) (sym same) ∙ file_found c.number class g)
      at None g q =
          let past : length p.classes ≤ c.number = length-get_none p.classes c.number (sym g) in
          let back : length p.classes + (c.number - length p.classes) ≡ c.number = omega (arith, past) in
          ap (λ o. option_or (option_map id o) (option_map (λ k. id (length p.classes + k)) (place_of built_in_names name))) (not_in_files (c.number - length p.classes) name q) ∙
          ap (option_map (λ k. id (length p.classes + k))) (built_in_found (c.number - length p.classes) name q) ∙ ap (λ n. Some (id n)) back

  name_in_files : (k : ℕ) (name : List ℕ) → slice_get (class_names p.classes) k ≡ Some name → name_at p (id k) ≡ Some name
  name_in_files k name e = at (slice_get p.classes k) (sym (slice_get-map (λ (c : Class). c.name) p.classes k) ∙ e)
    where
      at : (o : Option Class) → option_map (λ (c : Class). c.name) o ≡ Some name → class_name o (slice_get built_in_names (k - length p.classes)) ≡ Some name
      at (Some class) q = q
      at None q = absurd cc

  found_named : (c : ClassId) (name : List ℕ) → class_named p name ≡ Some c → name_at p c ≡ Some name
  found_named c name e = at (place_in p.classes name) (place_of built_in_names name) refl refl e
    where
      at : (o b : Option ℕ) → place_in p.classes name ≡ o → place_of built_in_names name ≡ b → option_or (option_map id o) (option_map (λ k. id (length p.classes + k)) b) ≡ Some c → name_at p c ≡ Some name
      at (Some k) b g f q = ap (name_at p) (sym (Some_same q)) ∙ name_in_files k name (file_is k name g)
      at None (Some k) g f q =
          let same : (length p.classes + k) - length p.classes ≡ k = omega arith in
          ap (name_at p) (sym (Some_same q)) ∙ ap (λ o. class_name o (slice_get built_in_names ((length p.classes + k) - length p.classes))) (get-past p.classes (length p.classes + k) (omega arith)) ∙
          ap (slice_get built_in_names) same ∙ built_in_is k name f
      at None None g f q = absurd cc

pub classes_found : (p : LinkedProgram) → IsLinked p → AreFoundByName p
classes_found p h c name = (named_found p h c name, found_named p h c name)

built_in_name : (b : BuiltIn) → slice_get built_in_names (number_of b) ≡ Some (name_of b)
unfolding built_in_names
built_in_name b = slice_get-map name_of built_ins (number_of b) ∙ ap (option_map name_of) (at-number b)

pub built_ins_found : (p : LinkedProgram) → IsLinked p → AreBuiltInsFound p
built_ins_found p h b =
    let same : (length p.classes + number_of b) - length p.classes ≡ number_of b = omega arith in
    named_found p h (built_in p b) (name_of b)
    (ap (λ o. class_name o (slice_get built_in_names ((length p.classes + number_of b) - length p.classes))) (get-past p.classes (length p.classes + number_of b) (omega arith)) ∙
    ap (slice_get built_in_names) same ∙ built_in_name b)

-- a class of the files has the name that its text has, any other that of the built-in one
pub names_class : (p : LinkedProgram) (c : ClassId) (classes : List Class) (class : Class) (name : List ℕ) → classes ≡ p.classes → slice_get classes c.number ≡ Some class → name ≡ class.name → Some name ≡ name_at p c
names_class p c classes class name same at named =
    ap Some named ∙ sym (ap (λ (o : Option Class). class_name o (slice_get built_in_names (c.number - length p.classes))) (ap (λ (xs : List Class). slice_get xs c.number) (sym same) ∙ at))

pub names_built_in : (p : LinkedProgram) (c : ClassId) (classes : List Class) (n : ℕ) (name : Option (List ℕ)) → classes ≡ p.classes → n ≡ length classes → length classes ≤ c.number → name ≡ slice_get built_in_names (c.number - n) → name ≡ name_at p c
names_built_in p c classes n name same count past named =
    named ∙ ap (λ k. slice_get built_in_names (c.number - k)) (count ∙ ap length same) ∙
    sym (ap (λ (o : Option Class). class_name o (slice_get built_in_names (c.number - length p.classes))) (slice_get_past p.classes c.number (subst (λ (xs : List Class). length xs ≤ c.number) same past)))

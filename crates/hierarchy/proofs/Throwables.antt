-- The subtypes of a throwable are its subclasses: superinterfaces lead up to no class but java/lang/Object.
use Rattle.std.proofs.Common.{◌≡◌, ℕ, zero, suc, ◌+◌, ◌-◌, ◌<◌, ◌≤◌, Bool, true, ◌&&◌, ◌⊎◌, inl, inr, Option, Some, None, Ok, List, [], ◌∷◌, length, slice_get, refl, sym, ap, ◌∙◌, subst, arith}
use Rattle.std.proofs.lemmas.Bool.{cases_Bool, and_parts, eqb-true}
use Rattle.std.proofs.lemmas.List.{length-map}
use Rattle.std.proofs.lemmas.Option.{slice_get-map}
use Rattle.std.specs.Option.{option_map}
use Rattle.std.specs.Prelude.{map, ◌↔◌, ◌==◌}
use Rattle.jasmin_text.specs.declared.class_text.ClassParts.{ClassParts}
use Rattle.jasmin_text.specs.declared.class_text.ClassKind.{ClassKind}
use Rattle.jasmin_text.specs.declared.class_text.ClassKind.TheVariants as kind
use Rattle.hierarchy.specs.declared.class.Class.{Class}
use Rattle.hierarchy.specs.declared.class.ClassId.{ClassId}
use Rattle.hierarchy.specs.declared.built_in.BuiltIn.{BuiltIn}
use Rattle.hierarchy.specs.declared.built_in.BuiltIn.TheVariants.{Object}
use Rattle.hierarchy.specs.declared.supertype_names.Known.{Known}
use Rattle.hierarchy.specs.declared.supertype_names.Known.TheVariants as known_as
use Rattle.hierarchy.specs.BuiltIn.{number_of, superclass_of_built_in, built_ins, built_in_named, may_be_superclass}
use Rattle.texts.specs.Texts.{place_of_text}
use Rattle.hierarchy.specs.LinkedProgram.{class_among, built_in_after, id}
use Rattle.hierarchy.specs.ClassLists.{Among, first, later}
use Rattle.hierarchy.specs.Hierarchy.{supers, supers_in, built_in_list, Reaches, direct, further, IsSubtype}
use Rattle.hierarchy.specs.Subclasses.{Extends, in_file, is_built_in, IsSubclass, itself, below}
use Rattle.hierarchy.specs.Supertypes.{known, known_at, known_file, known_built_in, superclass_id, interface_id, interface_ids}
use Rattle.hierarchy.specs.Linking.{names_of, kinds_of, class_from, classes_from}
use Rattle.hierarchy.specs.LinkedTexts.{IsResolved}
use Rattle.hierarchy.proofs.InRange.{as_many, joined_ok, class_ok}
use Rattle.hierarchy.proofs.Searches.{length-get_none}
use Rattle.hierarchy.proofs.Acyclic.{get-past, supers-built_in}
use Rattle.hierarchy.proofs.Positions.{Some_same}

abbrev kinds_in : List Class → List ClassKind
kinds_in classes = map (λ (c : Class). c.kind) classes

-- the class at a place is that of the text there
record Made (names : List (List ℕ)) (kinds : List ClassKind) (c : Class) : Type 0 where
  text : ClassParts
  superclass : superclass_id (length kinds) text.kind (known names kinds text.superclass) ≡ Ok c.superclass
  interfaces : interface_ids names kinds text.interfaces ≡ Ok c.interfaces
  kind_is : c.kind ≡ text.kind

made_from : (names : List (List ℕ)) (kinds : List ClassKind) (t : ClassParts) (c : Class) → class_from names kinds t ≡ Ok c → Made names kinds c
made_from names kinds t c e =
    let r = class_ok t (superclass_id (length kinds) t.kind (known names kinds t.superclass)) (interface_ids names kinds t.interfaces) c e in
    subst (λ (z : Class). Made names kinds z) (sym r.4) (record { text = t; superclass = r.2; interfaces = r.3; kind_is = refl })

made_at : (names : List (List ℕ)) (kinds : List ClassKind) (texts : List ClassParts) (classes : List Class) → classes_from names kinds texts ≡ Ok classes → (i : ℕ) (c : Class) → slice_get classes i ≡ Some c → Made names kinds c
made_at names kinds [] classes e i c g = let none : classes ≡ [] = cc in let h = rw none at g in absurd cc
made_at names kinds (t ∷ texts) classes e i c g =
    let r = joined_ok (class_from names kinds t) (classes_from names kinds texts) classes e in
    here r.0 r.1 i (subst (λ z. slice_get z i ≡ Some c) r.4 g) (made_from names kinds t r.0 r.2) (λ k h. made_at names kinds texts r.1 r.3 k c h)
  where
    here : (x : Class) (xs : List Class) (n : ℕ) → slice_get (x ∷ xs) n ≡ Some c → Made names kinds x → ((k : ℕ) → slice_get xs k ≡ Some c → Made names kinds c) → Made names kinds c
    here x xs zero h m rest = subst (Made names kinds) (Some_same h) m
    here x xs (suc k) h m rest = rest k h

kinds_alike : (names : List (List ℕ)) (kinds : List ClassKind) (texts : List ClassParts) (classes : List Class) → classes_from names kinds texts ≡ Ok classes → kinds_in classes ≡ kinds_of texts
kinds_alike names kinds [] classes e = let none : classes ≡ [] = cc in ap kinds_in none
kinds_alike names kinds (t ∷ texts) classes e =
    let r = joined_ok (class_from names kinds t) (classes_from names kinds texts) classes e in
    let q = class_ok t (superclass_id (length kinds) t.kind (known names kinds t.superclass)) (interface_ids names kinds t.interfaces) r.0 r.2 in
    ap kinds_in r.4 ∙ ap (λ (k : ClassKind). k ∷ kinds_in r.1) (ap (λ (z : Class). z.kind) q.4) ∙ ap (λ ks. t.kind ∷ ks) (kinds_alike names kinds texts r.1 r.3)

-- a superinterface has its place among the interfaces
interface_known : (names : List (List ℕ)) (kinds : List ClassKind) (name : List ℕ) (d : ClassId) → interface_id (known names kinds name) ≡ Ok d → slice_get kinds d.number ≡ Some kind.Interface
interface_known names kinds name d e = at (place_of_text name names) e
  where
    built : (b : Option BuiltIn) → interface_id (known_built_in b) ≡ Ok d → slice_get kinds d.number ≡ Some kind.Interface
    built None q = absurd cc
    built (Some b) q = absurd cc

    file : (place : ℕ) (k : Option ClassKind) → slice_get kinds place ≡ k → interface_id (known_file place k) ≡ Ok d → slice_get kinds d.number ≡ Some kind.Interface
    file place None g q = absurd cc
    file place (Some kind.Class) g q = absurd cc
    file place (Some kind.Interface) g q = let same : id place ≡ d = cc in ap (λ (z : ClassId). slice_get kinds z.number) (sym same) ∙ g

    at : (o : Option ℕ) → interface_id (known_at kinds name o) ≡ Ok d → slice_get kinds d.number ≡ Some kind.Interface
    at None q = built (built_in_named name) q
    at (Some place) q = file place (slice_get kinds place) refl q

interfaces_known : (names : List (List ℕ)) (kinds : List ClassKind) (wanted : List (List ℕ)) (ids : List ClassId) (d : ClassId) → interface_ids names kinds wanted ≡ Ok ids → Among d ids → slice_get kinds d.number ≡ Some kind.Interface
interfaces_known names kinds [] ids d e m = let none : ids ≡ [] = cc in elim (subst (Among d) none m) [ ]
interfaces_known names kinds (name ∷ wanted) ids d e m =
    let r = joined_ok (interface_id (known names kinds name)) (interface_ids names kinds wanted) ids e in
    at r.0 r.1 (subst (Among d) r.4 m) (λ s. interface_known names kinds name d (r.2 ∙ ap Ok (sym s))) (λ k. interfaces_known names kinds wanted r.1 d r.3 k)
  where
    at : (x : ClassId) (xs : List ClassId) → Among d (x ∷ xs) → (d ≡ x → slice_get kinds d.number ≡ Some kind.Interface) → (Among d xs → slice_get kinds d.number ≡ Some kind.Interface) → slice_get kinds d.number ≡ Some kind.Interface
    at x xs first here there = here refl
    at x xs (later k) here there = there k

-- an interface's superclass is the first built-in class
interface_superclass : (n : ℕ) (k : Known) (s : ClassId) → superclass_id n kind.Interface k ≡ Ok s → s ≡ id (n + 0)
interface_superclass n known_as.Nothing s e = absurd cc
interface_superclass n (known_as.File place k) s e = absurd cc
interface_superclass n (known_as.BuiltIn b) s e =
    elim (cases_Bool (may_be_superclass b)) [
      | inl t ↦
          let f = rw t at e in
          elim (cases_Bool (number_of b == 0)) [
            | inl z ↦ let g = rw z at f in let zero_is : number_of b ≡ 0 = eqb-true (number_of b) 0 z in let same : id (n + number_of b) ≡ s = cc in sym same ∙ ap (λ k. id (n + k)) zero_is
            | inr z ↦ let g = rw z at f in absurd cc
          ]
      | inr t ↦ let f = rw t at e in absurd cc
    ]

-- a class of the files that is an interface
record IsInterface (classes : List Class) (c : ClassId) : Type 0 where
  class : Class
  there : class_among classes c ≡ Some class
  is : class.kind ≡ kind.Interface

abbrev are_numbered : ℕ → List BuiltIn → Bool
are_numbered k [] = true
are_numbered k (b ∷ bs) = number_of b == k && are_numbered (k + 1) bs

built_ins_numbered : are_numbered 0 built_ins ≡ true
unfolding built_ins
built_ins_numbered = refl

numbered_at : (k : ℕ) (bs : List BuiltIn) (i : ℕ) (b : BuiltIn) → are_numbered k bs ≡ true → slice_get bs i ≡ Some b → number_of b ≡ k + i
numbered_at k [] i b n e = absurd cc
numbered_at k (x ∷ xs) zero b n e =
    let s : x ≡ b = Some_same e in
    let q : number_of x ≡ k = eqb-true (number_of x) k (and_parts (number_of x == k) (are_numbered (k + 1) xs) n).0 in
    let m : number_of x ≡ number_of b = ap number_of s in
    omega (arith, q, m)
numbered_at k (x ∷ xs) (suc i) b n e =
    let r = numbered_at (k + 1) xs i b (and_parts (number_of x == k) (are_numbered (k + 1) xs) n).1 e in omega (arith, r)

only_one : {d c : ClassId} → Among d (c ∷ []) → d ≡ c
only_one first = refl
only_one (later k) = elim k [ ]

module _ (classes : List Class) (h : IsResolved classes) where
  made : (c : ClassId) (class : Class) → class_among classes c ≡ Some class → Made (names_of h.texts) (kinds_of h.texts) class
  made c class e = made_at (names_of h.texts) (kinds_of h.texts) h.texts classes h.supertypes c.number class e

  is_interface : (d : ClassId) → slice_get (kinds_of h.texts) d.number ≡ Some kind.Interface → IsInterface classes d
  is_interface d e =
      at (class_among classes d) refl (sym (slice_get-map (λ (c : Class). c.kind) classes d.number) ∙ ap (λ ks. slice_get ks d.number) (kinds_alike (names_of h.texts) (kinds_of h.texts) h.texts classes h.supertypes) ∙ e)
    where
      at : (o : Option Class) → class_among classes d ≡ o → option_map (λ (c : Class). c.kind) o ≡ Some kind.Interface → IsInterface classes d
      at None g q = absurd cc
      at (Some class) g q = record { class = class; there = g; is = Some_same q }

  -- a direct supertype is the superclass or an interface
  step : (c d : ClassId) → Among d (supers classes c) → Extends classes c d ⊎ IsInterface classes d
  step c d m = at (class_among classes c) (slice_get built_ins (c.number - length classes)) refl refl m
    where
      listed_in : (s : ClassId) (is : List ClassId) → Among d (s ∷ is) → Extends classes c s → (Among d is → IsInterface classes d) → Extends classes c d ⊎ IsInterface classes d
      listed_in s is first x f = inl x
      listed_in s is (later k) x f = inr (f k)

      file : (class : Class) → class_among classes c ≡ Some class → Among d (class.superclass ∷ class.interfaces) → Extends classes c d ⊎ IsInterface classes d
      file class g k = let t = made c class g in
          listed_in class.superclass class.interfaces k (in_file g) (λ j. is_interface d (interfaces_known (names_of h.texts) (kinds_of h.texts) t.text.interfaces class.interfaces d t.interfaces j))

      listed : (b : BuiltIn) (o : Option BuiltIn) → superclass_of_built_in b ≡ o → c ≡ built_in_after classes b → Among d (built_in_list classes o) → Extends classes c d ⊎ IsInterface classes d
      listed b None g q k = elim k [ ]
      listed b (Some s) g q k = inl (subst (λ z. Extends classes z d) (sym q) (subst (Extends classes (built_in_after classes b)) (sym (only_one k)) (is_built_in b s g)))

      at : (o : Option Class) (b : Option BuiltIn) → class_among classes c ≡ o → slice_get built_ins (c.number - length classes) ≡ b → Among d (supers_in classes o b) → Extends classes c d ⊎ IsInterface classes d
      at (Some class) b g q k = file class g k
      at None None g q k = elim k [ ]
      at None (Some b) g q k =
          let past : length classes ≤ c.number = length-get_none classes c.number (sym g) in
          let number : number_of b ≡ 0 + (c.number - length classes) = numbered_at 0 built_ins (c.number - length classes) b built_ins_numbered q in
          let same : c.number ≡ length classes + number_of b = omega (arith, past, number) in
          listed b (superclass_of_built_in b) refl (λ i. record { number = same i }) k

  interface_step : (c d : ClassId) → IsInterface classes c → Among d (supers classes c) → IsInterface classes d ⊎ (d ≡ built_in_after classes Object)
  interface_step c d i m = at i.class.superclass i.class.interfaces (subst (λ o. Among d (supers_in classes o (slice_get built_ins (c.number - length classes)))) i.there m) above below_it
    where
      t : Made (names_of h.texts) (kinds_of h.texts) i.class
      t = made c i.class i.there

      own : superclass_id (length (kinds_of h.texts)) kind.Interface (known (names_of h.texts) (kinds_of h.texts) t.text.superclass) ≡ Ok i.class.superclass
      own = ap (λ k. superclass_id (length (kinds_of h.texts)) k (known (names_of h.texts) (kinds_of h.texts) t.text.superclass)) (sym i.is ∙ t.kind_is) ∙ t.superclass

      many : length (kinds_of h.texts) ≡ length classes
      many = simp length-map (sym (as_many h.texts classes h.supertypes))

      above : i.class.superclass ≡ built_in_after classes Object
      above = interface_superclass (length (kinds_of h.texts)) (known (names_of h.texts) (kinds_of h.texts) t.text.superclass) i.class.superclass own ∙ ap (λ n. id (n + 0)) many

      below_it : Among d i.class.interfaces → IsInterface classes d
      below_it k = is_interface d (interfaces_known (names_of h.texts) (kinds_of h.texts) t.text.interfaces i.class.interfaces d t.interfaces k)

      at : (s : ClassId) (is : List ClassId) → Among d (s ∷ is) → s ≡ built_in_after classes Object → (Among d is → IsInterface classes d) → IsInterface classes d ⊎ (d ≡ built_in_after classes Object)
      at s is first q f = inr q
      at s is (later k) q f = inl (f k)

  nothing_above_object : (c e : ClassId) → c ≡ built_in_after classes Object → Reaches classes c e → ⊥
  nothing_above_object c e q (direct {d = d} m) = elim (subst (Among d) (ap (supers classes) q ∙ supers-built_in classes Object) m) [ ]
  nothing_above_object c e q (further {d = d} m r) = elim (subst (Among d) (ap (supers classes) q ∙ supers-built_in classes Object) m) [ ]

  above_interface : (c e : ClassId) → IsInterface classes c → Reaches classes c e → IsInterface classes e ⊎ (e ≡ built_in_after classes Object)
  above_interface c e i (direct m) = interface_step c e i m
  above_interface c e i (further {d = d} m r) = elim (interface_step c d i m) [ inl k ↦ above_interface d e k r | inr q ↦ absurd (nothing_above_object d e q r) ]

  no_interface : (b : BuiltIn) → IsInterface classes (built_in_after classes b) → ⊥
  no_interface b i = let past = get-past classes (length classes + number_of b) (omega arith) in let g = i.there in absurd cc

  not_object : (b : BuiltIn) → 0 < number_of b → built_in_after classes b ≡ built_in_after classes Object → ⊥
  not_object b l q = let n : length classes + number_of b ≡ length classes + 0 = ap (λ (z : ClassId). z.number) q in absurd (omega (arith, l, n))

  subclass : (b : BuiltIn) → 0 < number_of b → (c e : ClassId) → e ≡ built_in_after classes b → Reaches classes c e → IsSubclass classes c e
  subclass b l c e q (direct m) = elim (step c e m) [ inl x ↦ below x itself | inr i ↦ absurd (no_interface b (subst (IsInterface classes) q i)) ]
  subclass b l c e q (further {d = d} m r) =
      elim (step c d m) [
        | inl x ↦ below x (subclass b l d e q r)
        | inr i ↦ absurd (elim (above_interface d e i r) [ inl k ↦ no_interface b (subst (IsInterface classes) q k) | inr o ↦ not_object b l (sym q ∙ o) ])
      ]

extends_up : (classes : List Class) {c s : ClassId} → Extends classes c s → Among s (supers classes c)
extends_up classes (in_file {c = c} {class = class} g) = subst (λ o. Among class.superclass (supers_in classes o (slice_get built_ins (c.number - length classes)))) (sym g) first
extends_up classes (is_built_in b s g) = subst (Among (built_in_after classes s)) (sym (supers-built_in classes b ∙ ap (built_in_list classes) g)) first

subtype : (classes : List Class) {c d : ClassId} → IsSubclass classes c d → IsSubtype classes c d
subtype classes itself = inl refl
subtype classes (below {c = c} {s = s} {d = d} x q) = elim (subtype classes q) [ inl e ↦ inr (direct (subst (λ z. Among z (supers classes c)) e (extends_up classes x))) | inr r ↦ inr (further (extends_up classes x) r) ]

pub subtypes_are_subclasses : (classes : List Class) → IsResolved classes → (b : BuiltIn) → 0 < number_of b → (c : ClassId) → IsSubtype classes c (built_in_after classes b) ↔ IsSubclass classes c (built_in_after classes b)
subtypes_are_subclasses classes h b l c = (λ s. elim s [ inl e ↦ subst (IsSubclass classes c) e itself | inr r ↦ subclass classes h b l c (built_in_after classes b) refl r ], subtype classes)

-- The cells of an object, superclass by superclass.
use Rattle.std.proofs.Common.{◌≡◌, ℕ, zero, suc, ◌+◌, ◌-◌, ◌*◌, ◌<◌, ◌≤◌, ◌&&◌, Bool, true, not, inl, inr, Option, Some, None, List, [], ◌∷◌, ◌++◌, length, take, slice_get, refl, sym, ap, ◌∙◌, subst, arith, append-nil, length-append}
use Rattle.std.proofs.lemmas.Bool.{cases_Bool, and_parts, leb-true}
use Rattle.std.proofs.lemmas.List.Elements.{All-get_or}
use Rattle.std.proofs.lemmas.Option.{slice_get_within, get_or_from_slice_get}
use Rattle.std.proofs.lemmas.List.{reverse-append}
use Rattle.std.proofs.lemmas.Grind.{flat_map-append}
use Rattle.std.specs.List.{flat_map, list_all}
use Rattle.std.specs.Option.{option_to_list}
use Rattle.std.specs.Prelude.{filter, reverse, nat_le, IfSome}
use Rattle.jasmin_text.specs.declared.class_text.ClassParts.{ClassParts}
use Rattle.jasmin_text.specs.declared.class_text.Field.{Field}
use Rattle.jasmin_text.specs.Spellable.{is_class_word, is_taken, is_field, is_method, is_spellable, IsSpellable}
use Rattle.hierarchy.specs.declared.class.Class.{Class}
use Rattle.hierarchy.specs.declared.class.ClassId.{ClassId}
use Rattle.hierarchy.specs.declared.fields.FieldId.TheVariants.{Declared}
use Rattle.hierarchy.specs.Ancestry.{superclass_of, superclass_alone, superclasses}
use Rattle.hierarchy.specs.Hierarchy.{IsAcyclic}
use Rattle.hierarchy.specs.LinkedProgram.{LinkedProgram, class_at}
use Rattle.hierarchy.specs.Objects.{HaveFewFields, is_instance_field, instance_fields_from, own_instance_fields, object_fields, cells_in, field_cell_in, field_cell}
use Rattle.hierarchy.specs.LinkedTexts.{IsLinked, IsResolved}
use Rattle.hierarchy.specs.SpellableClass.{IsSpellableClass}
use Rattle.hierarchy.specs.OwnNames.{fields_of, fields_in}
use Rattle.hierarchy.proofs.ProvedByLinking.{linked_few, linked_resolved, resolved_spellable}
use Rattle.hierarchy.proofs.Superclasses.{superclasses-at, superclasses-few}
use Rattle.hierarchy.proofs.Positions.{Some_same}

-- after the cells of the superclass there are the class's own
pub cells_some : (p : LinkedProgram) → IsAcyclic p.classes → (c s : ClassId) → superclass_of p.classes c ≡ Some s → object_fields p c ≡ object_fields p s ++ own_instance_fields p c
cells_some p a c s e =
    ap (λ cs. flat_map (own_instance_fields p) (reverse cs)) (superclasses-at p.classes a c (Some s) e) ∙ ap (flat_map (own_instance_fields p)) (reverse-append (c ∷ []) (superclasses p.classes s)) ∙
    flat_map-append (own_instance_fields p) (reverse (superclasses p.classes s)) (c ∷ []) ∙ ap (λ fs. object_fields p s ++ fs) (append-nil (own_instance_fields p c))

pub cells_none : (p : LinkedProgram) → IsAcyclic p.classes → (c : ClassId) → superclass_of p.classes c ≡ None → object_fields p c ≡ own_instance_fields p c
cells_none p a c e = ap (λ cs. flat_map (own_instance_fields p) (reverse cs)) (superclasses-at p.classes a c None e) ∙ append-nil (own_instance_fields p c)

pub cells_above_first : (p : LinkedProgram) → IsAcyclic p.classes → (c : ClassId) → object_fields p c ≡ flat_map (object_fields p) (superclass_alone p.classes c) ++ own_instance_fields p c
cells_above_first p a c = at (superclass_of p.classes c) refl
  where
    at : (o : Option ClassId) → superclass_of p.classes c ≡ o → object_fields p c ≡ flat_map (object_fields p) (option_to_list (superclass_of p.classes c)) ++ own_instance_fields p c
    at None e = cells_none p a c e ∙ sym (ap (λ o. flat_map (object_fields p) (option_to_list o) ++ own_instance_fields p c) e)
    at (Some s) e =
        cells_some p a c s e ∙ ap (λ fs. fs ++ own_instance_fields p c) (sym (append-nil (object_fields p s))) ∙
        sym (ap (λ o. flat_map (object_fields p) (option_to_list o) ++ own_instance_fields p c) e)

pub instance_length : (c : ClassId) (k : ℕ) (fs : List Field) → length (filter is_instance_field fs) ≡ length (instance_fields_from c k fs)
instance_length c k [] = refl
instance_length c k (f ∷ fs) =
    elim (cases_Bool (is_instance_field f)) [ inl e ↦ rw e (ap suc (instance_length c (k + 1) fs)) | inr e ↦ rw e (instance_length c (k + 1) fs) ]

pub own_count : (p : LinkedProgram) (c : ClassId) (class : Class) (n : ℕ) → class_at p c ≡ Some class → n ≡ length (filter is_instance_field class.fields) → n ≡ length (own_instance_fields p c)
own_count p c class n e m = m ∙ instance_length c 0 class.fields ∙ sym (ap (λ o. length (instance_fields_from c 0 (fields_in o))) e)

few_fields : (t : ClassParts) → IsSpellable t → length t.fields ≤ 1024
unfolding is_spellable
few_fields t h =
    let a = is_class_word t.name && not (is_taken t.kind t.name) && is_class_word t.superclass && nat_le (length t.interfaces) 255 && list_all is_class_word t.interfaces in
    let f = nat_le (length t.fields) 1024 in
    let m = nat_le (length t.methods) (1024 - length t.fields) in
    let g = list_all is_field t.fields in
    let one = and_parts (a && f && m && g) (list_all is_method t.methods) h in
    let two = and_parts (a && f && m) g one.0 in
    let three = and_parts (a && f) m two.0 in
    leb-true (length t.fields) 1024 (and_parts a f three.0).1

pub resolved_few_fields : (classes : List Class) → IsResolved classes → HaveFewFields classes
resolved_few_fields classes h n class e =
    let k : n < length classes = slice_get_within classes n class e in
    let s : IsSpellableClass class = subst IsSpellableClass (get_or_from_slice_get classes n class class e) (All-get_or IsSpellableClass classes n class k (resolved_spellable classes h)) in
    subst (λ (z : Class). length z.fields ≤ 1024) s.same (few_fields s.text s.spellable)

-- a class of the files has at most 1,024 fields
pub few_own : (p : LinkedProgram) → IsLinked p → (c : ClassId) (class : Class) → class_at p c ≡ Some class → length class.fields ≤ 1024
few_own p h c class e = resolved_few_fields p.classes (linked_resolved p h) c.number class e

-- the cells of one class more
cells_more : (p : LinkedProgram) (c : ClassId) (cs : List ClassId) → length (flat_map (own_instance_fields p) (reverse (c ∷ cs))) ≡ length (own_instance_fields p c) + length (flat_map (own_instance_fields p) (reverse cs))
cells_more p c cs =
    let l = length-append (flat_map (own_instance_fields p) (reverse cs)) (own_instance_fields p c) in
    ap (λ z. length (flat_map (own_instance_fields p) z)) (reverse-append (c ∷ []) cs) ∙ ap length (flat_map-append (own_instance_fields p) (reverse cs) (c ∷ [])) ∙
    ap (λ z. length (flat_map (own_instance_fields p) (reverse cs) ++ z)) (append-nil (own_instance_fields p c)) ∙ omega (arith, l)

behind : {X : Type 0} (xs ys : List X) (i k : ℕ) → i ≡ length xs + k → slice_get (xs ++ ys) i ≡ slice_get ys k
behind [] ys i k e = let same : i ≡ k = omega (arith, e) in ap (slice_get ys) same
behind (x ∷ xs) ys zero k e = absurd (omega (arith, e))
behind (x ∷ xs) ys (suc i) k e = behind xs ys i k (omega (arith, e))

instance_there : (c : ClassId) (k : ℕ) (fs : List Field) (place : ℕ) (f : Field) → slice_get fs place ≡ Some f → is_instance_field f ≡ true →
    slice_get (instance_fields_from c k fs) (length (filter is_instance_field (take place fs))) ≡ Some (Declared c (k + place))
instance_there c k [] place f e t = absurd cc
instance_there c k (g ∷ fs) zero f e t =
    let z : k ≡ k + 0 = omega arith in
    let same : g ≡ f = Some_same e in
    let own : is_instance_field g ≡ true = ap is_instance_field same ∙ t in
    rw own (ap (λ n. Some (Declared c n)) z)
instance_there c k (g ∷ fs) (suc place) f e t =
    let z : k + 1 + place ≡ k + suc place = omega arith in
    let r = instance_there c (k + 1) fs place f e t ∙ ap (λ n. Some (Declared c n)) z in
    elim (cases_Bool (is_instance_field g)) [ inl own ↦ rw own r | inr own ↦ rw own r ]

-- a field's cell holds it
cell_holds : (p : LinkedProgram) → IsAcyclic p.classes → (c : ClassId) (place : ℕ) (f : Field) (cell : ℕ) → slice_get (fields_of p c) place ≡ Some f → is_instance_field f ≡ true →
    cell ≡ cells_in p (superclass_of p.classes c) + length (filter is_instance_field (take place (fields_of p c))) → slice_get (object_fields p c) cell ≡ Some (Declared c place)
cell_holds p a c place f cell e t q = ap (slice_get (object_fields p c)) q ∙ at (superclass_of p.classes c) refl
  where
    own : slice_get (own_instance_fields p c) (length (filter is_instance_field (take place (fields_of p c)))) ≡ Some (Declared c place)
    own = let z : 0 + place ≡ place = omega arith in instance_there c 0 (fields_of p c) place f e t ∙ ap (λ n. Some (Declared c n)) z

    at : (o : Option ClassId) → superclass_of p.classes c ≡ o → slice_get (object_fields p c) (cells_in p o + length (filter is_instance_field (take place (fields_of p c)))) ≡ Some (Declared c place)
    at None s =
        let z : 0 + length (filter is_instance_field (take place (fields_of p c))) ≡ length (filter is_instance_field (take place (fields_of p c))) = omega arith in
        ap (slice_get (object_fields p c)) z ∙ ap (λ fs. slice_get fs (length (filter is_instance_field (take place (fields_of p c))))) (cells_none p a c s) ∙ own
    at (Some d) s =
        ap (λ fs. slice_get fs (length (object_fields p d) + length (filter is_instance_field (take place (fields_of p c))))) (cells_some p a c d s) ∙
        behind (object_fields p d) (own_instance_fields p c) (length (object_fields p d) + length (filter is_instance_field (take place (fields_of p c)))) (length (filter is_instance_field (take place (fields_of p c)))) refl ∙ own

pub cell_found : (p : LinkedProgram) → IsAcyclic p.classes → (c : ClassId) (place : ℕ) (r : Option ℕ) → r ≡ field_cell p c place → IfSome r (λ cell. slice_get (object_fields p c) cell ≡ Some (Declared c place))
cell_found p a c place r e = subst (λ o. IfSome o (λ cell. slice_get (object_fields p c) cell ≡ Some (Declared c place))) (sym e) (at (slice_get (fields_of p c) place) refl)
  where
    at : (o : Option Field) → slice_get (fields_of p c) place ≡ o → IfSome (field_cell_in p c place o) (λ cell. slice_get (object_fields p c) cell ≡ Some (Declared c place))
    at None g = tt
    at (Some f) g = elim (cases_Bool (is_instance_field f)) [ inl t ↦ rw t (cell_holds p a c place f (cells_in p (superclass_of p.classes c) + length (filter is_instance_field (take place (fields_of p c)))) g t refl) | inr t ↦ rw t tt ]

filter_few : {X : Type 0} (q : X → Bool) (xs : List X) → length (filter q xs) ≤ length xs
filter_few q [] = omega arith
filter_few q (x ∷ xs) =
    let r = filter_few q xs in
    elim (cases_Bool (q x)) [ inl e ↦ rw e (omega (arith, r)) | inr e ↦ rw e (omega (arith, r)) ]

few_own_fields : (p : LinkedProgram) → HaveFewFields p.classes → (c : ClassId) → length (own_instance_fields p c) ≤ 1024
few_own_fields p f c = at (class_at p c) refl
  where
    at : (o : Option Class) → class_at p c ≡ o → length (own_instance_fields p c) ≤ 1024
    at None e = let none = ap (λ o. length (instance_fields_from c 0 (fields_in o))) e in omega (arith, none)
    at (Some class) e =
        let own = own_count p c class (length (filter is_instance_field class.fields)) e refl in
        omega (arith, own, filter_few is_instance_field class.fields, f c.number class e)

few_in_all : (p : LinkedProgram) → HaveFewFields p.classes → (cs : List ClassId) → length (flat_map (own_instance_fields p) (reverse cs)) ≤ 1024 * length cs
few_in_all p f [] = omega arith
few_in_all p f (c ∷ cs) = omega (arith, cells_more p c cs, few_own_fields p f c, few_in_all p f cs)

pub cells_within : (p : LinkedProgram) → HaveFewFields p.classes → length p.classes ≤ 1024 → (c : ClassId) → length (object_fields p c) ≤ 2000000
cells_within p f few c = omega (arith, few_in_all p f (superclasses p.classes c), superclasses-few p.classes c, few)

-- an object has few cells
pub few_cells : (p : LinkedProgram) → IsLinked p → (c : ClassId) → length (object_fields p c) ≤ 2000000
few_cells p h c = cells_within p (resolved_few_fields p.classes (linked_resolved p h)) (linked_few p h) c

-- the cells of the superclass, and those of the class's own fields
pub all_cells : (p : LinkedProgram) → IsAcyclic p.classes → (c : ClassId) → length (object_fields p c) ≡ cells_in p (superclass_of p.classes c) + length (own_instance_fields p c)
all_cells p a c = at (superclass_of p.classes c) refl
  where
    at : (o : Option ClassId) → superclass_of p.classes c ≡ o → length (object_fields p c) ≡ cells_in p (superclass_of p.classes c) + length (own_instance_fields p c)
    at None e = let l = ap length (cells_none p a c e) in rw e (omega (arith, l))
    at (Some s) e = rw e (ap length (cells_some p a c s e) ∙ length-append (object_fields p s) (own_instance_fields p c))

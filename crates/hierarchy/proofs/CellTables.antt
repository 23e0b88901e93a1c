-- The cells of objects, class by class in an order in which each comes after its superclass.
use Rattle.std.proofs.Common.{◌≡◌, ℕ, zero, suc, ◌+◌, ◌<◌, ◌≤◌, inl, inr, Option, Some, None, List, [], ◌∷◌, ◌++◌, length, take, set, slice_get, ◌-◌, refl, sym, ap, ◌∙◌, subst, arith}
use Rattle.std.proofs.lemmas.Bool.{cases_Bool}
use Rattle.std.proofs.lemmas.List.{length-set, take_all}
use Rattle.std.proofs.lemmas.Option.{slice_get_past, slice_get_within}
use Rattle.std.specs.List.{flat_map}
use Rattle.std.specs.Option.{unwrap_or}
use Rattle.std.specs.Prelude.{filter, reverse}
use Rattle.hierarchy.specs.declared.class.Class.{Class}
use Rattle.hierarchy.specs.declared.class.ClassId.{ClassId}
use Rattle.hierarchy.specs.declared.edition.Edition.{Edition}
use Rattle.hierarchy.specs.Ancestry.{superclass_of, superclass_alone, superclass_in, superclasses}
use Rattle.hierarchy.specs.BuiltIn.{built_ins}
use Rattle.hierarchy.specs.ClassLists.{Among, first, same_class}
use Rattle.hierarchy.specs.Hierarchy.{IsAcyclic, IsWithin, height, supers, supers_in}
use Rattle.hierarchy.specs.LinkedProgram.{id, linked, linked_as}
use Rattle.hierarchy.specs.Objects.{HaveFewFields, cells_in, is_instance_field, instance_fields_from, own_instance_fields, object_fields}
use Rattle.hierarchy.specs.OwnNames.{fields_in}
use Rattle.hierarchy.specs.Superinterfaces.{IsTable}
use Rattle.hierarchy.specs.UpwardOrder.{IsUpwardOrder}
use Rattle.hierarchy.proofs.Acyclic.{get-past}
use Rattle.hierarchy.proofs.Ancestries.{superclass_upward, within_above}
use Rattle.hierarchy.proofs.ClassMembership.{among_cases, same_class-true, same_class-refl}
use Rattle.hierarchy.proofs.FieldOrders.{superclass_is_above, superclass_past}
use Rattle.hierarchy.proofs.ObjectCells.{all_cells, cells_none, cells_some, cells_within, own_count}
use Rattle.hierarchy.proofs.PlaceTables.{one_more}
use Rattle.hierarchy.proofs.Positions.{Some_same}
use Rattle.hierarchy.proofs.Searches.{among_one, length-get_none}

own_alike : (edition : Edition) (classes : List Class) (cs : List ClassId) → flat_map (own_instance_fields (linked classes)) cs ≡ flat_map (own_instance_fields (linked_as edition classes)) cs
own_alike edition classes [] = refl
own_alike edition classes (c ∷ cs) = ap (λ fs. own_instance_fields (linked classes) c ++ fs) (own_alike edition classes cs)

-- an object has the same fields in either edition
pub fields_alike : (edition : Edition) (classes : List Class) (c : ClassId) → object_fields (linked classes) c ≡ object_fields (linked_as edition classes) c
fields_alike edition classes c = own_alike edition classes (reverse (superclasses classes c))

past_within : (classes : List Class) → IsAcyclic classes → (d : ℕ) (c : ClassId) → IsWithin d classes c → length classes ≤ c.number → object_fields (linked classes) c ≡ []
past_within classes a zero c w h = absurd w
past_within classes a (suc d) c w h = at (superclass_of classes c) refl (λ s k l. past_within classes a d s k l)
  where
    own : own_instance_fields (linked classes) c ≡ []
    own = ap (λ o. instance_fields_from c 0 (fields_in o)) (get-past classes c.number h)

    at : (o : Option ClassId) → superclass_of classes c ≡ o → ((s : ClassId) → IsWithin d classes s → length classes ≤ s.number → object_fields (linked classes) s ≡ []) → object_fields (linked classes) c ≡ []
    at None e r = cells_none (linked classes) a c e ∙ own
    at (Some s) e r =
        cells_some (linked classes) a c s e ∙ ap (λ fs. fs ++ own_instance_fields (linked classes) c) (r s (within_above classes (superclass_alone classes) (superclass_upward classes) d c s w (superclass_is_above classes c s e)) (superclass_past classes c s h e)) ∙ own

-- past the files' classes an object has no fields
pub cells_past : (classes : List Class) → IsAcyclic classes → (c : ClassId) → length classes ≤ c.number → object_fields (linked classes) c ≡ []
cells_past classes a c h = past_within classes a (height classes) c (a c) h

-- the cells of an object of each of the classes seen are there
pub record HasCellsOf (classes : List Class) (seen : List ClassId) (cells : List ℕ) : Type 0 where
  pub count_is : length cells ≡ length classes
  pub are : (c : ClassId) → Among c seen → c.number < length classes → slice_get cells c.number ≡ Some (length (object_fields (linked classes) c))

-- the cells of a class above, which was seen or is built in
pub cells_of_above : (classes : List Class) (seen : List ClassId) (cells : List ℕ) → IsAcyclic classes → HasCellsOf classes seen cells → (s : ClassId) → Among s seen → unwrap_or (slice_get cells s.number) 0 ≡ length (object_fields (linked classes) s)
cells_of_above classes seen cells a h s m =
    at (slice_get classes s.number) refl
  where
    at : (o : Option Class) → slice_get classes s.number ≡ o → unwrap_or (slice_get cells s.number) 0 ≡ length (object_fields (linked classes) s)
    at (Some class) e = ap (λ o. unwrap_or o 0) (h.are s m (slice_get_within classes s.number class e))
    at None e =
        let past : length classes ≤ s.number = length-get_none classes s.number (sym e) in
        let none : length cells ≤ s.number = omega (arith, past, h.count_is) in
        ap (λ o. unwrap_or o 0) (slice_get_past cells s.number none) ∙ sym (ap length (cells_past classes a s past))

set_there : (xs : List ℕ) (i y : ℕ) → i < length xs → slice_get (set xs i y) i ≡ Some y
set_there [] i y h = absurd (omega (arith, h))
set_there (x ∷ xs) zero y h = refl
set_there (x ∷ xs) (suc i) y h = set_there xs i y (omega (arith, h))

set_elsewhere : (xs : List ℕ) (i j y : ℕ) → (j ≡ i → ⊥) → slice_get (set xs i y) j ≡ slice_get xs j
set_elsewhere [] i j y n = refl
set_elsewhere (x ∷ xs) zero zero y n = absurd (n refl)
set_elsewhere (x ∷ xs) zero (suc j) y n = refl
set_elsewhere (x ∷ xs) (suc i) zero y n = refl
set_elsewhere (x ∷ xs) (suc i) (suc j) y n = set_elsewhere xs i j y (λ e. n (ap suc e))

-- a class that isn't the files' has no entry
pub seen_past : (classes : List Class) (order : List ClassId) (k : ℕ) (c : ClassId) (cells : List ℕ) → HasCellsOf classes (take k order) cells → slice_get order k ≡ Some c → length classes ≤ c.number → HasCellsOf classes (take (k + 1) order) cells
seen_past classes order k c cells h e p = record {
  count_is = h.count_is;
  are = λ d m w.
      elim (among_cases (take k order) (subst (Among d) (one_more order k c e) m)) [
        | inl l ↦ h.are d l w
        | inr r ↦ let same : d.number ≡ c.number = ap (λ (z : ClassId). z.number) (among_one r) in absurd (omega (arith, same, w, p))
      ];
}

-- the cells of a class above, and the class's own
counted : (classes : List Class) → IsAcyclic classes → (order : List ClassId) → IsUpwardOrder classes order → (k : ℕ) (c : ClassId) (class : Class) (above count : ℕ) (cells : List ℕ) →
    HasCellsOf classes (take k order) cells → slice_get order k ≡ Some c → slice_get classes c.number ≡ Some class → above ≡ unwrap_or (slice_get cells class.superclass.number) 0 →
    count ≡ length (filter is_instance_field class.fields) → above + count ≡ length (object_fields (linked classes) c)
counted classes a order u k c class above count cells h e g b n =
    let superclass : superclass_of classes c ≡ Some class.superclass = ap (λ o. superclass_in classes o (slice_get built_ins (c.number - length classes))) g in
    let is_above : Among class.superclass (supers classes c) = subst (λ o. Among class.superclass (supers_in classes o (slice_get built_ins (c.number - length classes)))) (sym g) first in
    let up = b ∙ cells_of_above classes (take k order) cells a h class.superclass (u.rises k c e class.superclass is_above) in
    let own = own_count (linked classes) c class count g n in
    let all = all_cells (linked classes) a c ∙ ap (λ o. cells_in (linked classes) o + length (own_instance_fields (linked classes) c)) superclass in
    omega (arith, up, own, all)

pub cells_fit : (classes : List Class) → IsAcyclic classes → HaveFewFields classes → length classes ≤ 1024 → (order : List ClassId) → IsUpwardOrder classes order →
    (k : ℕ) (c : ClassId) (class : Class) (above count : ℕ) (cells : List ℕ) →
    HasCellsOf classes (take k order) cells → slice_get order k ≡ Some c → slice_get classes c.number ≡ Some class → above ≡ unwrap_or (slice_get cells class.superclass.number) 0 →
    count ≡ length (filter is_instance_field class.fields) → above + count ≤ 2000000
cells_fit classes a f few order u k c class above count cells h e g b n =
    let all = counted classes a order u k c class above count cells h e g b n in omega (arith, all, cells_within (linked classes) f few c)

-- one class more
pub seen_more : (classes : List Class) → IsAcyclic classes → (order : List ClassId) → IsUpwardOrder classes order → (k : ℕ) (c : ClassId) (class : Class) (above count : ℕ) (cells next : List ℕ) →
    HasCellsOf classes (take k order) cells → slice_get order k ≡ Some c → slice_get classes c.number ≡ Some class → above ≡ unwrap_or (slice_get cells class.superclass.number) 0 →
    count ≡ length (filter is_instance_field class.fields) → next ≡ set cells c.number (above + count) → HasCellsOf classes (take (k + 1) order) next
seen_more classes a order u k c class above count cells next h e g b n q = rw q (record {
  count_is = length-set cells c.number (above + count) ∙ h.count_is;
  are = λ d m w.
      elim (cases_Bool (same_class d c)) [
        | inl s ↦
            let same : d ≡ c = same_class-true d c s in
            subst (λ z. slice_get (set cells c.number (above + count)) z.number ≡ Some (length (object_fields (linked classes) z))) (sym same)
            (set_there cells c.number (above + count) within ∙ ap Some (counted classes a order u k c class above count cells h e g b n))
        | inr s ↦
            set_elsewhere cells c.number d.number (above + count) (λ z. let same = ap (λ n. same_class (id n) c) z ∙ same_class-refl c in absurd cc) ∙
            elim (among_cases (take k order) (subst (Among d) (one_more order k c e) m)) [
              | inl l ↦ h.are d l w
              | inr r ↦ let same = ap (λ z. same_class z c) (among_one r) ∙ same_class-refl c in absurd cc
            ]
      ];
})
  where
    within : c.number < length cells
    within = let there = slice_get_within classes c.number class g in omega (arith, there, h.count_is)

-- the classes in the order are all
pub seen_all : (classes : List Class) (order : List ClassId) (k : ℕ) (cells : List ℕ) → IsUpwardOrder classes order → HasCellsOf classes (take k order) cells → length order ≤ k →
    IsTable (λ c. length (object_fields (linked classes) c)) (length classes) cells
seen_all classes order k cells u h l = record {
  count_is = h.count_is;
  are = λ n found e.
      let within : n < length classes = let there = slice_get_within cells n found e in omega (arith, there, h.count_is) in
      Some_same (sym e ∙ h.are (id n) (subst (Among (id n)) (sym (take_all k order l)) (u.whole n within)) within);
}

-- as a program keeps them
pub cells_kept : (classes : List Class) (cells : List ℕ) → IsAcyclic classes → IsTable (λ c. length (object_fields (linked classes) c)) (length classes) cells → (c : ClassId) →
    unwrap_or (slice_get cells c.number) 0 ≡ length (object_fields (linked classes) c)
cells_kept classes cells a t c = at (slice_get cells c.number) refl
  where
    at : (o : Option ℕ) → slice_get cells c.number ≡ o → unwrap_or (slice_get cells c.number) 0 ≡ length (object_fields (linked classes) c)
    at (Some n) e = ap (λ o. unwrap_or o 0) e ∙ t.are c.number n e
    at None e =
        let none : length cells ≤ c.number = length-get_none cells c.number (sym e) in
        let past : length classes ≤ c.number = omega (arith, none, t.count_is) in
        ap (λ o. unwrap_or o 0) e ∙ sym (ap length (cells_past classes a c past))

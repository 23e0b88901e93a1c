-- The superinterfaces of a class from the finished list of its superclass.
use Rattle.std.proofs.Common.{◌≡◌, ◌<◌, ◌≤◌, arith, Option, Some, None, List, [], ◌∷◌, length, refl, sym, ap, subst, ◌∙◌}
use Rattle.std.specs.List.{flat_map}
use Rattle.hierarchy.specs.declared.class.Class.{Class}
use Rattle.hierarchy.specs.declared.class.ClassId.{ClassId}
use Rattle.hierarchy.specs.declared.edition.Edition.{Edition}
use Rattle.hierarchy.specs.Ancestry.{superclass_of, superclasses}
use Rattle.hierarchy.specs.ClassLists.{Among, first, add_all}
use Rattle.hierarchy.specs.FinishedLists.{AreFinished, listed}
use Rattle.hierarchy.specs.Hierarchy.{interfaces_of, Reaches, direct, IsAcyclic}
use Rattle.hierarchy.specs.InheritedLists.{or_other, unless_none, above, inherited}
use Rattle.hierarchy.specs.LinkedProgram.{LinkedProgram, linked_as}
use Rattle.hierarchy.specs.Methods.{enumeration_of_all, all_superinterfaces}
use Rattle.hierarchy.specs.Superinterfaces.{enumeration, superinterfaces, IsTable}
use Rattle.hierarchy.proofs.Ancestries.{superclass_upward}
use Rattle.hierarchy.proofs.ClassMembership.{add_all-added, add_all-has}
use Rattle.hierarchy.proofs.CoveredLists.{listed_superinterfaces}
use Rattle.hierarchy.proofs.FieldOrders.{superclass_is_above}
use Rattle.hierarchy.proofs.FinishedLists.{table_finished, listed_is}
use Rattle.hierarchy.proofs.Superclasses.{upward_some, upward_none, inherited_past}

-- those of the superclass after those of the class by itself
inherited_some : (classes : List Class) → IsAcyclic classes → (c s : ClassId) → superclass_of classes c ≡ Some s → add_all (superinterfaces classes c) (all_superinterfaces classes s) ≡ all_superinterfaces classes c
inherited_some classes a c s e =
    upward_some classes a [] (superinterfaces classes c) _ c s refl e (add_all-added (superinterfaces classes c) [] (flat_map (enumeration_of_all classes) (superclasses classes s)))

-- the list that is kept, or that of the class by itself, has all of them
inherited_is : (classes : List Class) → IsAcyclic classes → (c : ClassId) → or_other (superinterfaces classes c) (inherited classes c) ≡ all_superinterfaces classes c
inherited_is classes a c = at (superclass_of classes c) refl
  where
    own : List ClassId
    own = superinterfaces classes c

    kept : (s : ClassId) (up all : List ClassId) → all ≡ add_all own up → or_other own (unless_none up all) ≡ all
    kept s [] all e = sym e
    kept s (x ∷ up) [] e = let there : Among x [] = subst (λ z. Among x z) (sym e) (add_all-has own {ys = x ∷ up} first) in elim there [ ]
    kept s (x ∷ up) (y ∷ ys) e = refl

    at : (o : Option ClassId) → superclass_of classes c ≡ o → or_other own (unless_none (above classes o) (all_superinterfaces classes c)) ≡ all_superinterfaces classes c
    at None e = upward_none classes a [] own c refl e
    at (Some s) e = kept s (all_superinterfaces classes s) (all_superinterfaces classes c) (sym (inherited_some classes a c s e))

inherited_none_past : (classes : List Class) → IsAcyclic classes → (c : ClassId) → length classes ≤ c.number → inherited classes c ≡ []
inherited_none_past classes a c h = ap (unless_none (above classes (superclass_of classes c))) (inherited_past classes a c h) ∙ none_left (above classes (superclass_of classes c))
  where
    none_left : (up : List ClassId) → unless_none up [] ≡ []
    none_left [] = refl
    none_left (x ∷ up) = refl

-- the superinterfaces of a class whose list is finished
all_kept : (classes : List Class) → IsAcyclic classes → (tables all : List (List ClassId)) (P : ClassId → Type 0) (c : ClassId) → P c → IsTable (superinterfaces classes) (length classes) tables → AreFinished (inherited classes) classes P all →
    or_other (listed tables c.number) (listed all c.number) ≡ all_superinterfaces classes c
all_kept classes a tables all P c p t f =
    ap (λ z. or_other z (listed all c.number)) (listed_superinterfaces classes (λ d. Unit {0}) tables c tt (table_finished (λ d. Unit {0}) t)) ∙
    ap (or_other (superinterfaces classes c)) (listed_is f c p (inherited_none_past classes a c)) ∙ inherited_is classes a c

-- the superinterfaces of a class of a program that keeps both tables
pub table_kept : {p : LinkedProgram} {edition : Edition} {classes : List Class} {tables all own list : List (List ClassId)} → linked_as edition classes ≡ p → IsAcyclic classes → own ≡ tables → list ≡ all → IsTable (superinterfaces classes) (length classes) tables →
    IsTable (inherited classes) (length classes) all → (c : ClassId) → or_other (listed own c.number) (listed list c.number) ≡ all_superinterfaces p.classes c
table_kept {classes = classes} {tables = tables} {all = all} {list = list} v a o l t f c =
    ap (λ z. or_other (listed z c.number) (listed list c.number)) o ∙ ap (λ z. or_other (listed tables c.number) (listed z c.number)) l ∙
    all_kept classes a tables all (λ d. Unit {0}) c tt t (table_finished (λ d. Unit {0}) f) ∙ ap (λ (q : LinkedProgram). all_superinterfaces q.classes c) v

-- the superinterfaces of the superclass
pub superclass_kept : (classes : List Class) → IsAcyclic classes → (tables all : List (List ClassId)) (c s : ClassId) → superclass_of classes c ≡ Some s → IsTable (superinterfaces classes) (length classes) tables →
    AreFinished (inherited classes) classes (Reaches classes c) all → or_other (listed tables s.number) (listed all s.number) ≡ all_superinterfaces classes s
superclass_kept classes a tables all c s e t f = all_kept classes a tables all (Reaches classes c) s (direct (superclass_upward classes c s (superclass_is_above classes c s e))) t f

pub inherited_made : (classes : List Class) → IsAcyclic classes → (tables : List (List ClassId)) (c s : ClassId) (up start own found : List ClassId) → IsTable (superinterfaces classes) (length classes) tables → superclass_of classes c ≡ Some s →
    up ≡ all_superinterfaces classes s → 0 < length up → start ≡ [] → own ≡ add_all start (listed tables c.number) → found ≡ add_all own up → found ≡ inherited classes c
inherited_made classes a tables c s [] start own found t e u l b n h = absurd (omega (arith, l))
inherited_made classes a tables c s (x ∷ up) start own found t e u l b n h =
    h ∙ ap (λ z. add_all z (x ∷ up)) made ∙ ap (add_all (superinterfaces classes c)) u ∙ inherited_some classes a c s e ∙
    sym (ap (λ o. unless_none (above classes o) (all_superinterfaces classes c)) e ∙ ap (λ z. unless_none z (all_superinterfaces classes c)) (sym u))
  where
    made : own ≡ superinterfaces classes c
    made =
        n ∙ ap (λ z. add_all z (listed tables c.number)) b ∙ ap (add_all []) (listed_superinterfaces classes (λ d. Unit {0}) tables c tt (table_finished (λ d. Unit {0}) t)) ∙
        add_all-added [] [] (flat_map (enumeration classes) (interfaces_of classes c))

pub none_inherited : (classes : List Class) (c s : ClassId) (up found : List ClassId) → superclass_of classes c ≡ Some s → up ≡ all_superinterfaces classes s → up ≡ [] → found ≡ [] → found ≡ inherited classes c
none_inherited classes c s up found e u n b =
    b ∙ sym (ap (λ o. unless_none (above classes o) (all_superinterfaces classes c)) e ∙ ap (λ z. unless_none z (all_superinterfaces classes c)) (sym u ∙ n))

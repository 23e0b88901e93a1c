-- One event more, or one less, in the part of a list of events that is a thread's or a class's.
use Rattle.std.proofs.Common.{◌≡◌, ℕ, List, [], ◌∷◌, ◌++◌, Option, Some, None, Bool, true, false, ◌==◌, refl, subst, ap, append-nil, eq-eqb}
use Rattle.std.proofs.lemmas.Bool.{eqb-true}
use Rattle.std.proofs.lemmas.List.Elements.{filter-append}
use Rattle.hierarchy.specs.declared.class.ClassId.{ClassId}
use Rattle.init_core.specs.declared.event.Event.{Event}
use Rattle.init_core.specs.Interleaving.{of_class, of_thread, is_class, label_at}
use Rattle.init_core.specs.Lawful.{Allows, AgreesAfter}

-- ---- threads

pub thread_cons : (t : ℕ) (y : Event) (ys : List Event) → (y.thread == t) ≡ true → of_thread t (y ∷ ys) ≡ y ∷ of_thread t ys
thread_cons t y ys q = rw q refl

pub thread_skip : (t : ℕ) (y : Event) (ys : List Event) → (y.thread == t) ≡ false → of_thread t (y ∷ ys) ≡ of_thread t ys
thread_skip t y ys q = rw q refl

-- ---- classes

-- the event agrees with its class's label
abbrev pub Agrees : List Event → Event → Type 0
Agrees h e = (c : ClassId) → e.class ≡ Some c → Allows (label_at h c) e.thread e.kind

class_of : (c d : ClassId) → (d.number == c.number) ≡ true → d ≡ c
class_of c d e = ap (λ (n : ℕ). let r : ClassId = record { number = n } in r) (eqb-true d.number c.number e)

pub class_is : (c : ClassId) (o : Option ClassId) → is_class c o ≡ true → o ≡ Some c
class_is c None e = cc
class_is c (Some d) e = ap Some (class_of c d e)

pub one_more : (h : List Event) (e : Event) (d : ClassId) → is_class d e.class ≡ true → of_class d (h ++ e ∷ []) ≡ of_class d h ++ e ∷ []
one_more h e d q = rw (filter-append, q)

pub no_more : (h : List Event) (e : Event) (d : ClassId) → is_class d e.class ≡ false → of_class d (h ++ e ∷ []) ≡ of_class d h
no_more h e d q = rw (filter-append, q) (append-nil _)

-- after the events h the labels of all classes allow the events ys
abbrev pub Laws : List Event → List Event → Type 0
Laws h ys = (c : ClassId) → AgreesAfter (of_class c h) (of_class c ys)

class_cons : (c : ClassId) (y : Event) (ys : List Event) → is_class c y.class ≡ true → of_class c (y ∷ ys) ≡ y ∷ of_class c ys
class_cons c y ys q = rw q refl

class_skip : (c : ClassId) (y : Event) (ys : List Event) → is_class c y.class ≡ false → of_class c (y ∷ ys) ≡ of_class c ys
class_skip c y ys q = rw q refl

pub agrees : (h : List Event) (y : Event) (ys : List Event) → Laws h (y ∷ ys) → Agrees h y
agrees h y ys laws c q =
    let same : is_class c y.class ≡ true = rw q (eq-eqb c.number c.number refl) in
    let l : AgreesAfter (of_class c h) (y ∷ of_class c ys) = subst (λ zs. AgreesAfter (of_class c h) zs) (class_cons c y ys same) (laws c) in
    l.0

law_by : (h : List Event) (y : Event) (ys : List Event) (c : ClassId) (b : Bool) → is_class c y.class ≡ b → AgreesAfter (of_class c h) (of_class c (y ∷ ys)) → AgreesAfter (of_class c (h ++ y ∷ [])) (of_class c ys)
law_by h y ys c true q l =
    let k : AgreesAfter (of_class c h) (y ∷ of_class c ys) = subst (λ zs. AgreesAfter (of_class c h) zs) (class_cons c y ys q) l in
    rw (one_more h y c q) k.1
law_by h y ys c false q l = rw (no_more h y c q, ← class_skip c y ys q) l

pub laws_next : (h : List Event) (y : Event) (ys : List Event) → Laws h (y ∷ ys) → Laws (h ++ y ∷ []) ys
laws_next h y ys laws c = law_by h y ys c (is_class c y.class) refl (laws c)

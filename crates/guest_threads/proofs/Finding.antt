-- What a thread knows of a record that it took.
use Rattle.std.proofs.Common.{◌≡◌, ℕ, suc, ◌<◌, ◌≤◌, List, [], ◌∷◌, ◌++◌, Some, length, refl, sym, subst, ap, ◌∙◌, append-nil, append_assoc, arith}
use Rattle.hierarchy.specs.declared.class.ClassId.{ClassId}
use Rattle.hierarchy.specs.LinkedProgram.{LinkedProgram}
use Rattle.std.specs.List.{AllByRecursion}
use Rattle.statics.specs.declared.static_field.StaticField.{StaticField}
use Rattle.statics.specs.Statics.{statics_of}
use Rattle.init_core.specs.declared.event.Event.{Event}
use Rattle.init_core.specs.History.{History}
use Rattle.init_core.specs.Lawful.{IsLawful, AgreesAfter, AgreesWithLabels}
use Rattle.init_core.specs.ProcedureWord.{IsOfFiles}
use Rattle.init_core.specs.Stands.{AreOfOthers}
use Rattle.init_lock.specs.Log.{Grew, ByOthers}
use Rattle.init_lock.specs.Rule.{element_at}
use Rattle.guest_threads.specs.declared.guarded.Guarded.{Guarded}
use Rattle.bodies.specs.Writes.{WritesHeld}
use Rattle.guest_threads.specs.Drawing.{MayDraw, Follows}
use Rattle.guest_threads.specs.Working.{Finds, ArePrepared}

pub element_some : {A : Type 0} (n : ℕ) (l : List A) → n < length l → (x : A) × (element_at n l ≡ Some x)
element_some n [] h = absurd (omega (arith, h))
element_some Prim.Native.Nat.zero (x ∷ xs) h = (x, refl)
element_some (suc n) (x ∷ xs) h = element_some n xs (omega (arith, h))

-- what follows the record of the beginning is of its place's class, and what was written in it is held by the fields
pub class_found : (p : LinkedProgram) (c : ClassId) (opening : List Guarded) (k : Guarded) → ArePrepared p opening → length p.classes ≤ length opening → IsOfFiles p c → ((x : Guarded) → element_at c.number opening ≡ Some x → Follows x.record k.record) →
    (k.record.class ≡ c) × (k.record.fields ≡ statics_of p c) × AllByRecursion (λ e. WritesHeld (statics_of p c) e) k.record.events
class_found p c opening k prepared whole within follows =
    let x = element_some c.number opening (omega (arith, whole, within)) in
    let f = follows x.0 x.1 in
    let new = prepared c.number x.0 x.1 in
    let fields : x.0.record.fields ≡ statics_of p c = new.1 in
    let events : k.record.events ≡ f.1 = f.2 ∙ ap (λ (es : List Event). es ++ f.1) new.2 in
    (f.0.0 ∙ new.0, f.0.1 ∙ fields, subst (λ (es : List Event). AllByRecursion (λ e. WritesHeld (statics_of p c) e) es) (sym events) (subst (λ (fs : List StaticField). AllByRecursion (λ e. WritesHeld fs e) f.1) fields f.3))

pub others_are : (t n : ℕ) (more : List Event) → ByOthers MayDraw t n more → AreOfOthers t more
others_are t n [] o = tt
others_are t n (x ∷ more) o = ((λ e. o.0.1 (sym o.0.2.0 ∙ e)), others_are t n more o.1)

agrees_split : (h xs ys : List Event) → AgreesAfter h (xs ++ ys) → AgreesAfter (h ++ xs) ys
agrees_split h [] ys l = subst (λ (z : List Event). AgreesAfter z ys) (sym (append-nil h)) l
agrees_split h (x ∷ xs) ys l = subst (λ (z : List Event). AgreesAfter z ys) (simp append_assoc) (agrees_split (h ++ x ∷ []) xs ys l.1)

-- the same of what is seen without the lock
pub finds_ready : (t n : ℕ) (seen found : List Event) → Grew MayDraw t n seen found → AgreesWithLabels found → Finds t seen found
finds_ready t n seen found g l = record {
  more = g.more;
  begins = g.begins;
  others = others_are t n g.more g.by_others;
  agrees = agrees_split [] seen g.more (subst AgreesWithLabels g.begins l);
}

pub finds : (t n : ℕ) (seen found : List Event) (r : History) → Grew MayDraw t n seen found → r.events ≡ found → IsLawful r.fields r.events → Finds t seen found
finds t n seen found r g e l = record {
  more = g.more;
  begins = g.begins;
  others = others_are t n g.more g.by_others;
  agrees = agrees_split [] seen g.more (subst AgreesWithLabels (e ∙ g.begins) l.labels);
}

-- Whether a thread waits for a class, by what the class's record keeps.
use Rattle.std.proofs.Common.{◌≡◌, ◌≢◌, ◌⊎◌, inl, inr, ℕ, List, [], ◌∷◌, ◌++◌, Bool, true, false, ◌==◌, eq-eqb, refl, sym, ap, subst, append-nil, append_assoc, ◌∙◌}
use Rattle.std.specs.Prelude.{if◌then◌else◌}
use Rattle.std.proofs.lemmas.Bool.Decides.{eqb_tells}
use Rattle.hierarchy.specs.declared.class.ClassId.{ClassId}
use Rattle.init_core.specs.declared.event.Event.{Event}
use Rattle.init_core.specs.declared.event.Kind.{Kind}
use Rattle.init_core.specs.declared.event.Kind.TheVariants as kind
use Rattle.init_core.specs.declared.event.Label.{Label}
use Rattle.init_core.specs.declared.event.Label.TheVariants.{InProgress}
use Rattle.init_core.specs.ClassState.{next_label}
use Rattle.init_core.specs.Decisions.{is_wait, waits, waits_from}
use Rattle.init_core.specs.Interleaving.{of_class, is_class}
use Rattle.init_core.specs.Kept.{IsKeptOf, keeps_none, keeps, drops_other, drops_step_9}
use Rattle.init_core.specs.Label.{label_of}
use Rattle.init_core.specs.Lawful.{Allows, AgreesAfter, AgreesWithLabels}
use Rattle.init_core.proofs.Labels.{label_after}
use Rattle.init_core.proofs.States.{waits_more}
use Rattle.init_core.proofs.InterleavingParts.{one_more, no_more}

-- what t does at a class that is then in progress by it is no wait
own_calm : (l : Label) (t : ℕ) (k : Kind) → Allows l t k → next_label l t k ≡ InProgress t → is_wait k ≡ false
own_calm l t kind.Waits a e = absurd ((rw e at a) refl)
own_calm l t kind.Recurs a e = refl
own_calm l t kind.FindsInitialized a e = refl
own_calm l t kind.FindsErroneous a e = refl
own_calm l t kind.Begins a e = refl
own_calm l t (kind.SuperFails x) a e = refl
own_calm l t kind.Runs a e = refl
own_calm l t kind.Completes a e = refl
own_calm l t (kind.Fails x) a e = refl
own_calm l t (kind.Gets f v) a e = refl
own_calm l t (kind.Puts f v) a e = refl
own_calm l t (kind.Prints x) a e = refl

-- and what others do leaves it so
other_before : (l : Label) (t u : ℕ) (k : Kind) → u ≢ t → next_label l u k ≡ InProgress t → l ≡ InProgress t
other_before l t u kind.Begins n e = absurd (n (let q : u ≡ t = cc in q))
other_before l t u (kind.SuperFails x) n e = cc
other_before l t u kind.Completes n e = cc
other_before l t u (kind.Fails x) n e = cc
other_before l t u kind.Waits n e = e
other_before l t u kind.Recurs n e = e
other_before l t u kind.FindsInitialized n e = e
other_before l t u kind.FindsErroneous n e = e
other_before l t u kind.Runs n e = e
other_before l t u (kind.Gets f v) n e = e
other_before l t u (kind.Puts f v) n e = e
other_before l t u (kind.Prints x) n e = e

-- a thread doesn't wait for a class that is in progress by it
mine_is_calm : (t : ℕ) (b : Bool) (before xs : List Event) → AgreesAfter before xs → (label_of before ≡ InProgress t → b ≡ false) → label_of (before ++ xs) ≡ InProgress t → waits_from b t xs ≡ false
mine_is_calm t b before [] a calm q = calm (rw append-nil at q)
mine_is_calm t b before (x ∷ xs) a calm q = mine_is_calm t (if x.thread == t then is_wait x.kind else b) (before ++ x ∷ []) xs a.1 (λ e. by (eqb_tells x.thread t) (sym (label_after before x a.0) ∙ e)) (simp append_assoc q) where
  by : (((x.thread == t) ≡ true) × (x.thread ≡ t)) ⊎ (((x.thread == t) ≡ false) × (x.thread ≢ t)) → next_label (label_of before) x.thread x.kind ≡ InProgress t → (if x.thread == t then is_wait x.kind else b) ≡ false
  by (inl own) e = rw own.0 (own_calm (label_of before) x.thread x.kind a.0 (e ∙ ap InProgress (sym own.1)))
  by (inr other) e = rw other.0 (calm (other_before (label_of before) t x.thread x.kind other.1 e))

-- a list that agrees, but for its last event, and that event
agrees_parts : (before xs : List Event) (e : Event) → AgreesAfter before (xs ++ e ∷ []) → AgreesAfter before xs × Allows (label_of (before ++ xs)) e.thread e.kind
agrees_parts before [] e a = (tt, rw append-nil a.0)
agrees_parts before (x ∷ xs) e a = let r = agrees_parts (before ++ x ∷ []) xs e a.1 in ((a.0, r.0), simp append_assoc at r.1)

-- a thread waits for a class by what its record keeps as by all events of it
pub kept_waits : (t : ℕ) {c : ClassId} {events history : List Event} → IsKeptOf c events history → AgreesWithLabels (of_class c events) → waits t history ≡ waits t (of_class c events)
kept_waits t keeps_none a = refl
kept_waits t {c = c} (keeps {events = events} {history = history} e at_c kept k) a =
    let of_c : is_class c e.class ≡ true = rw at_c (eq-eqb c.number c.number refl) in
    let parts = agrees_parts [] (of_class c events) e (subst AgreesWithLabels (one_more events e c of_c) a) in
    waits_more t history e ∙ (ap (λ b. if e.thread == t then is_wait e.kind else b) (kept_waits t k parts.0) ∙ (sym (waits_more t (of_class c events) e) ∙ ap (waits t) (sym (one_more events e c of_c))))
kept_waits t {c = c} (drops_other {events = events} e other k) a =
    let same = no_more events e c other in kept_waits t k (subst AgreesWithLabels same a) ∙ ap (waits t) (sym same)
kept_waits t {c = c} (drops_step_9 {events = events} {history = history} e run k) a = at (λ b. kept_waits t k b) (is_class c e.class) refl where
  own : (AgreesWithLabels (of_class c events) → waits t history ≡ waits t (of_class c events)) → AgreesWithLabels (of_class c events) → Allows (label_of (of_class c events)) e.thread e.kind →
      (((e.thread == t) ≡ true) × (e.thread ≡ t)) ⊎ (((e.thread == t) ≡ false) × (e.thread ≢ t)) → waits t history ≡ (if e.thread == t then is_wait e.kind else waits t (of_class c events))
  own before b ok (inl x) =
      let mine : label_of (of_class c events) ≡ InProgress t = (rw run at ok) ∙ ap InProgress x.1 in
      rw (x.0, run) (before b ∙ mine_is_calm t false [] (of_class c events) b (λ q. refl) mine)
  own before b ok (inr x) = rw x.0 (before b)

  at : (AgreesWithLabels (of_class c events) → waits t history ≡ waits t (of_class c events)) → (b : Bool) → is_class c e.class ≡ b → waits t history ≡ waits t (of_class c (events ++ e ∷ []))
  at before true of_c =
      let same = one_more events e c of_c in
      let parts = agrees_parts [] (of_class c events) e (subst AgreesWithLabels same a) in
      own before parts.0 parts.1 (eqb_tells e.thread t) ∙ (sym (waits_more t (of_class c events) e) ∙ ap (waits t) (sym same))
  at before false other = let same = no_more events e c other in before (subst AgreesWithLabels same a) ∙ ap (waits t) (sym same)

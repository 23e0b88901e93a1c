-- A class in whose lawful history is a step 10 is initialized.
use Rattle.std.proofs.Common.{◌≡◌, ℕ, List, [], ◌∷◌, ◌++◌, Option, Bool, true, false, cond, refl, subst, ap, ◌∙◌, append-nil, append_assoc}
use Rattle.hierarchy.specs.declared.class.ClassId.{ClassId}
use Rattle.init_core.specs.declared.event.Event.{Event}
use Rattle.init_core.specs.declared.event.Kind.{Kind}
use Rattle.init_core.specs.declared.event.Kind.TheVariants as kind
use Rattle.init_core.specs.declared.event.Label.{Label}
use Rattle.init_core.specs.declared.event.Label.TheVariants.{Initialized}
use Rattle.init_core.specs.ClassState.{next_label}
use Rattle.init_core.specs.Label.{label_of, is_completion}
use Rattle.init_core.specs.Lawful.{Allows, AgreesAfter, AgreesWithLabels}
use Rattle.init_core.proofs.Labels.{label_after}
use Rattle.init_lock.specs.Log.{settled}

completes : (k : Kind) (t : ℕ) (c : Option ClassId) (l : Label) → is_completion (record { thread = t; class = c; kind = k }) ≡ true → next_label l t k ≡ Initialized
completes kind.Completes t c l e = refl
completes kind.Waits t c l e = cc
completes kind.Recurs t c l e = cc
completes kind.FindsInitialized t c l e = cc
completes kind.FindsErroneous t c l e = cc
completes kind.Begins t c l e = cc
completes kind.Runs t c l e = cc
completes (kind.SuperFails x) t c l e = cc
completes (kind.Fails x) t c l e = cc
completes (kind.Gets f v) t c l e = cc
completes (kind.Puts f v) t c l e = cc
completes (kind.Prints x) t c l e = cc

stays_ready : (u : ℕ) (k : Kind) → Allows Initialized u k → next_label Initialized u k ≡ Initialized
stays_ready u kind.Begins a = cc
stays_ready u kind.Completes a = cc
stays_ready u (kind.SuperFails e) a = cc
stays_ready u (kind.Fails e) a = cc
stays_ready u kind.Waits a = refl
stays_ready u kind.Recurs a = refl
stays_ready u kind.FindsInitialized a = refl
stays_ready u kind.FindsErroneous a = refl
stays_ready u kind.Runs a = refl
stays_ready u (kind.Gets f v) a = refl
stays_ready u (kind.Puts f v) a = refl
stays_ready u (kind.Prints x) a = refl

still_ready : (h xs : List Event) → label_of h ≡ Initialized → AgreesAfter h xs → label_of (h ++ xs) ≡ Initialized
still_ready h [] e l = ap label_of (append-nil h) ∙ e
still_ready h (x ∷ xs) e l =
    let a : Allows Initialized x.thread x.kind = subst (λ (z : Label). Allows z x.thread x.kind) e l.0 in
    let now : label_of (h ++ x ∷ []) ≡ Initialized = label_after h x l.0 ∙ (ap (λ (z : Label). next_label z x.thread x.kind) e ∙ stays_ready x.thread x.kind a) in
    subst (λ (z : List Event). label_of z ≡ Initialized) (append_assoc h (x ∷ []) xs) (still_ready (h ++ x ∷ []) xs now l.1)

-- one event more, which completes the class or doesn't
ready_on : (h xs : List Event) (x : Event) (b : Bool) → is_completion x ≡ b → cond b true (settled is_completion xs) ≡ true → Allows (label_of h) x.thread x.kind → AgreesAfter (h ++ x ∷ []) xs → (settled is_completion xs ≡ true → label_of ((h ++ x ∷ []) ++ xs) ≡ Initialized) → label_of ((h ++ x ∷ []) ++ xs) ≡ Initialized
ready_on h xs x true is e a l go = still_ready (h ++ x ∷ []) xs (label_after h x a ∙ completes x.kind x.thread x.class (label_of h) is) l
ready_on h xs x false is e a l go = go e

ready_after : (h xs : List Event) → AgreesAfter h xs → settled is_completion xs ≡ true → label_of (h ++ xs) ≡ Initialized
ready_after h [] l e = cc
ready_after h (x ∷ xs) l e = subst (λ (z : List Event). label_of z ≡ Initialized) (append_assoc h (x ∷ []) xs) (ready_on h xs x (is_completion x) refl e l.0 l.1 (λ s. ready_after (h ++ x ∷ []) xs l.1 s))

pub is_ready : (xs : List Event) → AgreesWithLabels xs → settled is_completion xs ≡ true → label_of xs ≡ Initialized
is_ready xs l e = ready_after [] xs l e

either_true : (b s : Bool) → s ≡ true → cond b true s ≡ true
either_true true s e = refl
either_true false s e = e

-- a list that ends with step 10 is settled
pub settled_last : (xs : List Event) (e : Event) → is_completion e ≡ true → settled is_completion (xs ++ e ∷ []) ≡ true
settled_last [] e h = ap (λ (b : Bool). cond b true false) h
settled_last (x ∷ xs) e h = either_true (is_completion x) (settled is_completion (xs ++ e ∷ [])) (settled_last xs e h)

-- Where all classes' histories are lawful, a thread has begun a class that it hasn't ended exactly where the class is in
-- progress by it.
use Rattle.std.proofs.Common.{◌≡◌, ℕ, ◌+◌, ◌==◌, List, [], ◌∷◌, ◌++◌, Bool, true, false, refl, sym, ap, arith, append-nil, append_assoc, ◌∙◌}
use Rattle.hierarchy.specs.declared.class.ClassId.{ClassId}
use Rattle.hierarchy.specs.LinkedProgram.{LinkedProgram}
use Rattle.init_core.specs.declared.event.Event.{Event}
use Rattle.init_core.specs.declared.event.Kind.{Kind}
use Rattle.init_core.specs.declared.event.Kind.TheVariants as kind
use Rattle.init_core.specs.declared.event.Label.{Label}
use Rattle.init_core.specs.declared.event.Label.TheVariants.{InProgress}
use Rattle.init_core.specs.Label.{label_of}
use Rattle.init_core.specs.Lawful.{Allows}
use Rattle.init_core.specs.Interleaving.{of_thread, of_class, is_class, label_at}
use Rattle.init_core.proofs.Labels.{label_after}
use Rattle.init_core.specs.ClassState.{next_label}
use Rattle.init_core.proofs.Balanced.{total, total-append, both, mark, begun_by, ended_by, begun, ended}
use Rattle.init_core.proofs.InterleavingParts.{Agrees, one_more, no_more, class_is, Laws, agrees, laws_next, thread_cons, thread_skip}

-- 1 where the label is in progress by t
abbrev pub mine : ℕ → Label → ℕ
mine t (InProgress u) = both (u == t) true
mine t _ = 0

-- t has begun c once more than ended it, where c is in progress by it
abbrev pub AreCounted : ℕ → ClassId → List Event → Type 0
AreCounted t c h = total (begun t c) h ≡ total (ended t c) h + mine t (label_at h c)

pub not_both : (a : Bool) → both a false ≡ 0
not_both true = refl
not_both false = refl

pub none_by : (k : Kind) → (begun_by k 0 ≡ 0) × (ended_by k 0 ≡ 0)
none_by kind.Begins = (refl, refl)
none_by kind.Completes = (refl, refl)
none_by (kind.SuperFails e) = (refl, refl)
none_by (kind.Fails e) = (refl, refl)
none_by kind.Runs = (refl, refl)
none_by kind.Waits = (refl, refl)
none_by kind.Recurs = (refl, refl)
none_by kind.FindsInitialized = (refl, refl)
none_by kind.FindsErroneous = (refl, refl)
none_by (kind.Gets f v) = (refl, refl)
none_by (kind.Puts f v) = (refl, refl)
none_by (kind.Prints x) = (refl, refl)

turned : (n : ℕ) → n + 0 ≡ 0 + n
turned n = omega arith

moves : (l : Label) (t u : ℕ) (k : Kind) → Allows l u k → begun_by k (both (u == t) true) + mine t l ≡ ended_by k (both (u == t) true) + mine t (next_label l u k)
moves l t u kind.Begins a = rw a (turned (both (u == t) true))
moves l t u kind.Completes a = rw a (sym (turned (both (u == t) true)))
moves l t u (kind.SuperFails e) a = rw a (sym (turned (both (u == t) true)))
moves l t u (kind.Fails e) a = rw a (sym (turned (both (u == t) true)))
moves l t u kind.Runs a = refl
moves l t u kind.Waits a = refl
moves l t u kind.Recurs a = refl
moves l t u kind.FindsInitialized a = refl
moves l t u kind.FindsErroneous a = refl
moves l t u (kind.Gets f v) a = refl
moves l t u (kind.Puts f v) a = refl
moves l t u (kind.Prints x) a = refl

-- an event of none
unmoved : (t : ℕ) (c : ClassId) (e : Event) → is_class c e.class ≡ false → (begun t c e ≡ 0) × (ended t c e ≡ 0)
unmoved t c e q =
    let z : mark t c e ≡ 0 = rw q (not_both (e.thread == t)) in
    let n = none_by e.kind in
    (ap (begun_by e.kind) z ∙ n.0, ap (ended_by e.kind) z ∙ n.1)

count_by : (t : ℕ) (c : ClassId) (h : List Event) (e : Event) (b : Bool) → is_class c e.class ≡ b → Agrees h e → AreCounted t c h → AreCounted t c (h ++ e ∷ [])
count_by t c h e false q ok n =
    let u = unmoved t c e q in
    let x : total (begun t c) (h ++ e ∷ []) ≡ total (begun t c) h + (begun t c e + 0) = total-append (begun t c) h (e ∷ []) in
    let y : total (ended t c) (h ++ e ∷ []) ≡ total (ended t c) h + (ended t c e + 0) = total-append (ended t c) h (e ∷ []) in
    let l : mine t (label_at (h ++ e ∷ []) c) ≡ mine t (label_at h c) = ap (λ (zs : List Event). mine t (label_of zs)) (no_more h e c q) in
    let v : begun t c e ≡ 0 = u.0 in
    let w : ended t c e ≡ 0 = u.1 in
    omega arith
count_by t c h e true q ok n =
    let a : Allows (label_at h c) e.thread e.kind = ok c (class_is c e.class q) in
    let after : label_at (h ++ e ∷ []) c ≡ next_label (label_at h c) e.thread e.kind = rw (one_more h e c q) (label_after (of_class c h) e a) in
    let l : mine t (label_at (h ++ e ∷ []) c) ≡ mine t (next_label (label_at h c) e.thread e.kind) = ap (mine t) after in
    let z : mark t c e ≡ both (e.thread == t) true = ap (both (e.thread == t)) q in
    let v : begun t c e ≡ begun_by e.kind (both (e.thread == t) true) = ap (begun_by e.kind) z in
    let w : ended t c e ≡ ended_by e.kind (both (e.thread == t) true) = ap (ended_by e.kind) z in
    let g : begun_by e.kind (both (e.thread == t) true) + mine t (label_at h c) ≡ ended_by e.kind (both (e.thread == t) true) + mine t (next_label (label_at h c) e.thread e.kind) = moves (label_at h c) t e.thread e.kind a in
    let x : total (begun t c) (h ++ e ∷ []) ≡ total (begun t c) h + (begun t c e + 0) = total-append (begun t c) h (e ∷ []) in
    let y : total (ended t c) (h ++ e ∷ []) ≡ total (ended t c) h + (ended t c e + 0) = total-append (ended t c) h (e ∷ []) in
    omega arith

module _ (p : LinkedProgram) where
  all_counted : (t : ℕ) (c : ClassId) (h ys : List Event) → Laws h ys → AreCounted t c h → AreCounted t c (h ++ ys)
  all_counted t c h [] laws n = rw append-nil n
  all_counted t c h (y ∷ ys) laws n =
      let r : AreCounted t c ((h ++ y ∷ []) ++ ys) = all_counted t c (h ++ y ∷ []) ys (laws_next h y ys laws) (count_by t c h y (is_class c y.class) refl (agrees h y ys laws) n) in
      simp append_assoc at r

  -- all of a lawful list
  pub lawful_counted : (t : ℕ) (c : ClassId) (events : List Event) → Laws [] events → AreCounted t c events
  lawful_counted t c events laws = all_counted t c [] events laws refl

-- other threads' events don't count
other_thread : (t : ℕ) (c : ClassId) (e : Event) → (e.thread == t) ≡ false → (begun t c e ≡ 0) × (ended t c e ≡ 0)
other_thread t c e q =
    let z : mark t c e ≡ 0 = rw q refl in
    let n = none_by e.kind in
    (ap (begun_by e.kind) z ∙ n.0, ap (ended_by e.kind) z ∙ n.1)

-- what counts is the thread's part
abbrev pub IsCountedByPart : ℕ → ClassId → List Event → Type 0
IsCountedByPart t c es = (total (begun t c) (of_thread t es) ≡ total (begun t c) es) × (total (ended t c) (of_thread t es) ≡ total (ended t c) es)

module _ (p : LinkedProgram) (t : ℕ) (c : ClassId) where
  part_by : (e : Event) (es : List Event) (b : Bool) → (e.thread == t) ≡ b → IsCountedByPart t c es → IsCountedByPart t c (e ∷ es)
  part_by e es true q r =
      (ap (total (begun t c)) (thread_cons t e es q) ∙ ap (λ (n : ℕ). begun t c e + n) r.0, ap (total (ended t c)) (thread_cons t e es q) ∙ ap (λ (n : ℕ). ended t c e + n) r.1)
  part_by e es false q r =
      let o = other_thread t c e q in
      let b : begun t c e ≡ 0 = o.0 in
      let d : ended t c e ≡ 0 = o.1 in
      let x : total (begun t c) es ≡ begun t c e + total (begun t c) es = omega arith in
      let y : total (ended t c) es ≡ ended t c e + total (ended t c) es = omega arith in
      (ap (total (begun t c)) (thread_skip t e es q) ∙ (r.0 ∙ x), ap (total (ended t c)) (thread_skip t e es q) ∙ (r.1 ∙ y))

  pub counted_by_part : (events : List Event) → IsCountedByPart t c events
  counted_by_part [] = (refl, refl)
  counted_by_part (e ∷ es) = part_by e es (e.thread == t) refl (counted_by_part es)

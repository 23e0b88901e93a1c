-- Where each thread's part can be finished by endings and each class's history is lawful, the list is the beginning of a
-- legal interleaving: the threads end their classes one thread after the other.
use Rattle.std.proofs.Common.{◌≡◌, ◌≢◌, ℕ, zero, suc, ◌+◌, ◌<◌, ◌==◌, length, List, [], ◌∷◌, ◌++◌, Option, Some, None, MatchOption, slice_get, Bool, true, false, refl, sym, ap, subst, arith, append-nil, append_assoc, eq-eqb, ◌∙◌}
use mathlib.Core.Logic.{dite}
use native.Mathlib.Decide.{ℕ_discrete}
use Rattle.std.proofs.lemmas.Bool.{eqb-true}
use Rattle.std.proofs.lemmas.List.Elements.{filter-append}
use Rattle.std.proofs.lemmas.Option.{slice_get_within}
use Rattle.hierarchy.specs.declared.class.ClassId.{ClassId}
use Rattle.hierarchy.specs.LinkedProgram.{LinkedProgram}
use Rattle.statics.specs.declared.static_field.StaticField.{StaticField}
use Rattle.statics.specs.Statics.{statics_of}
use Rattle.init_core.specs.declared.event.Event.{Event}
use Rattle.init_core.specs.declared.event.Kind.{Kind}
use Rattle.init_core.specs.declared.event.Kind.TheVariants as kind
use Rattle.init_core.specs.declared.event.Label.{Label}
use Rattle.init_core.specs.declared.event.Label.TheVariants.{Prepared, InProgress, Initialized, Erroneous}
use Rattle.init_core.specs.Label.{label_of}
use Rattle.init_core.specs.Lawful.{Allows, IsLawful, Holds, HoldsAfter}
use Rattle.init_core.specs.Interleaving.{of_thread, of_class, is_class, label_at, IsLegal, BeginsLegal}
use Rattle.init_core.specs.ProcedureWord.{ThreadWord}
use Rattle.init_core.proofs.Labels.{label_after, lawful_push}
use Rattle.init_core.specs.ClassState.{next_label}
use Rattle.init_core.specs.LegalSoFar.{EndsItsClass, AreEndings, IsLegalSoFar}
use Rattle.init_core.proofs.Balanced.{total, total-append, both, mark, ended_by, begun_by, begun, ended, thread_even}
use Rattle.init_core.proofs.UnderWay.{mine, not_both, none_by, lawful_counted, counted_by_part}
use Rattle.init_core.proofs.MainFinishing.{begun_can_finish}

-- an ending isn't a beginning, and counts where it is marked
ends_no_begin : (k : Kind) (n : ℕ) → EndsItsClass k → begun_by k n ≡ 0
ends_no_begin kind.Completes n i = refl
ends_no_begin (kind.SuperFails e) n i = refl
ends_no_begin (kind.Fails e) n i = refl
ends_no_begin kind.Begins n i = absurd i
ends_no_begin kind.Runs n i = absurd i
ends_no_begin kind.Waits n i = absurd i
ends_no_begin kind.Recurs n i = absurd i
ends_no_begin kind.FindsInitialized n i = absurd i
ends_no_begin kind.FindsErroneous n i = absurd i
ends_no_begin (kind.Gets f v) n i = absurd i
ends_no_begin (kind.Puts f v) n i = absurd i
ends_no_begin (kind.Prints x) n i = absurd i

-- what an ending by t does at a class that is in progress by t
pub record MayEnd (fields : List StaticField) (h : List Event) (t : ℕ) (l : Label) (k : Kind) : Type 0 where
  pub counts : (n : ℕ) → ended_by k n ≡ n
  pub allowed : l ≡ InProgress t → Allows l t k
  pub over : l ≡ InProgress t → mine t (next_label l t k) ≡ 0
  pub holds : Holds fields h k

may_end : (fields : List StaticField) (h : List Event) (t : ℕ) (l : Label) (k : Kind) → EndsItsClass k → MayEnd fields h t l k
may_end fields h t l kind.Completes i = record { counts = λ n. refl; allowed = λ e. e; over = λ e. refl; holds = tt }
may_end fields h t l (kind.SuperFails x) i = record { counts = λ n. refl; allowed = λ e. e; over = λ e. refl; holds = tt }
may_end fields h t l (kind.Fails x) i = record { counts = λ n. refl; allowed = λ e. e; over = λ e. refl; holds = tt }
may_end fields h t l kind.Begins i = absurd i
may_end fields h t l kind.Runs i = absurd i
may_end fields h t l kind.Waits i = absurd i
may_end fields h t l kind.Recurs i = absurd i
may_end fields h t l kind.FindsInitialized i = absurd i
may_end fields h t l kind.FindsErroneous i = absurd i
may_end fields h t l (kind.Gets f v) i = absurd i
may_end fields h t l (kind.Puts f v) i = absurd i
may_end fields h t l (kind.Prints x) i = absurd i

holds_more : (fields : List StaticField) (before h : List Event) (e : Event) → HoldsAfter fields before h → Holds fields (before ++ h) e.kind → HoldsAfter fields before (h ++ e ∷ [])
holds_more fields before [] e p q = (simp append-nil at q, tt)
holds_more fields before (x ∷ h) e p q = (p.0, holds_more fields (before ++ x ∷ []) h e p.1 (simp append_assoc q))

lawful_more : (fields : List StaticField) (h : List Event) (e : Event) → IsLawful fields h → Allows (label_of h) e.thread e.kind → Holds fields h e.kind → IsLawful fields (h ++ e ∷ [])
lawful_more fields h e l a v = record { labels = lawful_push h e l.labels a; values = holds_more fields [] h e l.values v }

one_by : (t u : ℕ) (b : Bool) (x : ℕ) → (u == t) ≡ b → 1 + x ≡ both b true → (InProgress u ≡ InProgress t) × (x ≡ 0)
one_by t u true x q e = (ap InProgress (eqb-true u t q), omega arith)
one_by t u false x q e = absurd (omega arith)

-- only a class that is in progress by t is left to end
is_mine : (t : ℕ) (l : Label) (x : ℕ) → 1 + x ≡ mine t l → (l ≡ InProgress t) × (x ≡ 0)
is_mine t (InProgress u) x e = one_by t u (u == t) x refl e
is_mine t Prepared x e = absurd (omega arith)
is_mine t Initialized x e = absurd (omega arith)
is_mine t Erroneous x e = absurd (omega arith)

none_begun : (t : ℕ) (c : ClassId) (w : List Event) (u : ℕ) → AreEndings u w → total (begun t c) w ≡ 0
none_begun t c [] u a = refl
none_begun t c (e ∷ w) u a = let x : begun t c e ≡ 0 = ends_no_begin e.kind (mark t c e) a.0.1 in let y : total (begun t c) w ≡ 0 = none_begun t c w u a.1 in omega arith

own_thread : (t : ℕ) (w : List Event) → AreEndings t w → of_thread t w ≡ w
own_thread t [] a = refl
own_thread t (e ∷ w) a = let q : (e.thread == t) ≡ true = eq-eqb e.thread t a.0.0 in rw q (ap (λ (zs : List Event). e ∷ zs) (own_thread t w a.1))

no_other : (t u : ℕ) → t ≢ u → (b : Bool) → (t == u) ≡ b → b ≡ false
no_other t u other false q = refl
no_other t u other true q = absurd (other (eqb-true t u q))

no_thread : (t u : ℕ) (w : List Event) → t ≢ u → AreEndings t w → of_thread u w ≡ []
no_thread t u [] other a = refl
no_thread t u (e ∷ w) other a = let q : (e.thread == u) ≡ false = rw a.0.0 (no_other t u other (t == u) refl) in rw q (no_thread t u w other a.1)

module _ (t : ℕ) (c : ClassId) (fields : List StaticField) where
  -- after h, endings by t of the classes that are in progress by it are lawful
  abbrev EndLawfully : List Event → Type 0
  EndLawfully w = (h : List Event) → AreEndings t w → total (ended t c) w ≡ mine t (label_of h) → IsLawful fields h → IsLawful fields (h ++ of_class c w)

  ends_by : (h : List Event) (e : Event) (w : List Event) (b : Bool) → is_class c e.class ≡ b → AreEndings t (e ∷ w) → total (ended t c) (e ∷ w) ≡ mine t (label_of h) → IsLawful fields h → EndLawfully w → IsLawful fields (h ++ of_class c (e ∷ w))
  ends_by h e w false q a n l rest =
      let z : mark t c e ≡ 0 = rw q (not_both (e.thread == t)) in
      let x : ended t c e ≡ 0 = ap (ended_by e.kind) z ∙ (none_by e.kind).1 in
      let m : total (ended t c) w ≡ mine t (label_of h) = omega arith in
      rw q (rest h a.1 m l)
  ends_by h e w true q a n l rest =
      let may : MayEnd fields h t (label_of h) e.kind = may_end fields h t (label_of h) e.kind a.0.1 in
      let y : (e.thread == t) ≡ true = eq-eqb e.thread t a.0.0 in
      let z : mark t c e ≡ 1 = rw (q, y) refl in
      let x : ended t c e ≡ 1 = may.counts (mark t c e) ∙ z in
      let one : 1 + total (ended t c) w ≡ mine t (label_of h) = omega arith in
      let is : (label_of h ≡ InProgress t) × (total (ended t c) w ≡ 0) = is_mine t (label_of h) (total (ended t c) w) one in
      let ok : Allows (label_of h) e.thread e.kind = subst (λ (u : ℕ). Allows (label_of h) u e.kind) (sym a.0.0) (may.allowed is.0) in
      let after : label_of (h ++ e ∷ []) ≡ next_label (label_of h) t e.kind = label_after h e ok ∙ ap (λ (u : ℕ). next_label (label_of h) u e.kind) a.0.0 in
      let m : total (ended t c) w ≡ mine t (label_of (h ++ e ∷ [])) = is.1 ∙ sym (ap (mine t) after ∙ may.over is.0) in
      let r : IsLawful fields ((h ++ e ∷ []) ++ of_class c w) = rest (h ++ e ∷ []) a.1 m (lawful_more fields h e l ok may.holds) in
      rw q (simp append_assoc at r)

  ends_lawful : (w : List Event) → EndLawfully w
  ends_lawful [] h a n l = rw append-nil l
  ends_lawful (e ∷ w) h a n l = ends_by h e w (is_class c e.class) refl a n l (ends_lawful w)

module _ (p : LinkedProgram) (mains : List ClassId) where
  abbrev AreLawful : List Event → Type 0
  AreLawful events = (c : ClassId) → IsLawful (statics_of p c) (of_class c events)

  -- how much a thread has left to end
  left : (t : ℕ) (m : ClassId) (c : ClassId) (events w : List Event) → AreLawful events → AreEndings t w → ThreadWord p t m (of_thread t events ++ w) → total (ended t c) w ≡ mine t (label_at events c)
  left t m c events w lawful a x =
      let even : total (begun t c) (of_thread t events ++ w) ≡ total (ended t c) (of_thread t events ++ w) = thread_even t c p t x.1 in
      let b : total (begun t c) (of_thread t events ++ w) ≡ total (begun t c) (of_thread t events) + total (begun t c) w = total-append (begun t c) (of_thread t events) w in
      let e : total (ended t c) (of_thread t events ++ w) ≡ total (ended t c) (of_thread t events) + total (ended t c) w = total-append (ended t c) (of_thread t events) w in
      let part = counted_by_part p t c events in
      let f : total (begun t c) (of_thread t events) ≡ total (begun t c) events = part.0 in
      let g : total (ended t c) (of_thread t events) ≡ total (ended t c) events = part.1 in
      let unbegun : total (begun t c) w ≡ 0 = none_begun t c w t a in
      let all : total (begun t c) events ≡ total (ended t c) events + mine t (label_at events c) = lawful_counted p t c events (λ d. (lawful d).labels) in
      omega arith

  still_lawful : (t : ℕ) (m : ClassId) (events w : List Event) → AreLawful events → AreEndings t w → ThreadWord p t m (of_thread t events ++ w) → AreLawful (events ++ w)
  still_lawful t m events w lawful a x c = rw filter-append (ends_lawful t c (statics_of p c) w (of_class c events) a (left t m c events w lawful a x) (lawful c))

  -- a thread that can be finished, and one that is
  abbrev MayFinish : ℕ → Option ClassId → List Event → Type 0
  MayFinish t main xs = MatchOption main (xs ≡ []) (λ m. (ys : List Event) × AreEndings t ys × ThreadWord p t m (xs ++ ys))

  abbrev HasFinished : ℕ → Option ClassId → List Event → Type 0
  HasFinished t main xs = MatchOption main (xs ≡ []) (λ m. ThreadWord p t m xs)

  finished_may : (t : ℕ) (main : Option ClassId) (xs : List Event) → HasFinished t main xs → MayFinish t main xs
  finished_may t None xs h = h
  finished_may t (Some m) xs h = ([], tt, rw append-nil h)

  -- the first n threads are finished, the others can be
  record AreFinished (n : ℕ) (events : List Event) : Type 0 where
    pub may : (t : ℕ) → MayFinish t (slice_get mains t) (of_thread t events)
    pub has : (t : ℕ) → t < n → HasFinished t (slice_get mains t) (of_thread t events)
    pub lawful : AreLawful events

  one_thread : (t : ℕ) (main : Option ClassId) (events : List Event) → AreLawful events → MayFinish t main (of_thread t events) → (ys : List Event) × AreEndings t ys × HasFinished t main (of_thread t (events ++ ys)) × AreLawful (events ++ ys)
  one_thread t None events lawful h = ([], tt, rw append-nil h, rw append-nil lawful)
  one_thread t (Some m) events lawful h =
      let part : of_thread t (events ++ h.0) ≡ of_thread t events ++ h.0 = rw (filter-append, own_thread t h.0 h.1) refl in
      (h.0, h.1, rw part h.2, still_lawful t m events h.0 lawful h.1 h.2)

  unchanged : (t u : ℕ) (events ys : List Event) → t ≢ u → AreEndings t ys → of_thread u (events ++ ys) ≡ of_thread u events
  unchanged t u events ys other a = rw (filter-append, no_thread t u ys other a) (append-nil (of_thread u events))

  next_thread : (n : ℕ) (events : List Event) → AreFinished n events → (ys : List Event) × AreFinished (suc n) (events ++ ys)
  next_thread n events st =
      let one = one_thread n (slice_get mains n) events st.lawful (st.may n) in (
        one.0,
        record {
          may = λ t. dite (ℕ_discrete n t) (λ same. subst (λ (u : ℕ). MayFinish u (slice_get mains u) (of_thread u (events ++ one.0))) same (finished_may n (slice_get mains n) (of_thread n (events ++ one.0)) one.2)) (λ other. subst (λ (zs : List Event). MayFinish t (slice_get mains t) zs) (sym (unchanged n t events one.0 other one.1)) (st.may t));
          has = λ t below. dite (ℕ_discrete n t) (λ same. subst (λ (u : ℕ). HasFinished u (slice_get mains u) (of_thread u (events ++ one.0))) same one.2) (λ other. subst (λ (zs : List Event). HasFinished t (slice_get mains t) zs) (sym (unchanged n t events one.0 other one.1)) (st.has t (omega arith)));
          lawful = one.3;
        },
      )

  all_threads : (n : ℕ) (events : List Event) → AreFinished 0 events → (ys : List Event) × AreFinished n (events ++ ys)
  all_threads zero events st = ([], rw append-nil st)
  all_threads (suc n) events st =
      let before = all_threads n events st in
      let one = next_thread n (events ++ before.0) before.1 in
      (before.0 ++ one.0, (let r : AreFinished (suc n) ((events ++ before.0) ++ one.0) = one.1 in simp append_assoc at r))

  finished_by : (t : ℕ) (main : Option ClassId) (xs : List Event) → slice_get mains t ≡ main → MayFinish t main xs → (t < length mains → HasFinished t main xs) → HasFinished t main xs
  finished_by t None xs q h k = h
  finished_by t (Some m) xs q h k = k (slice_get_within mains t m q)

  whole : (events : List Event) → AreFinished (length mains) events → IsLegal p mains events
  whole events st = record { threads = λ t. finished_by t (slice_get mains t) (of_thread t events) refl (st.may t) (st.has t); classes = st.lawful }

  begun_may : (t : ℕ) (main : Option ClassId) (events : List Event) → IsLegalSoFar p mains events → slice_get mains t ≡ main → MayFinish t main (of_thread t events)
  begun_may t None events h q = (let r = h.threads t in rw q at r)
  begun_may t (Some m) events h q = begun_can_finish p t m (of_thread t events) (let r = h.threads t in rw q at r)

  pub begins_legal : (events : List Event) → IsLegalSoFar p mains events → BeginsLegal p mains events
  begins_legal events h =
      let all = all_threads (length mains) events (record { may = λ t. begun_may t (slice_get mains t) events h refl; has = λ t below. absurd (omega arith); lawful = h.classes }) in
      (all.0, whole (events ++ all.0) all.1)

-- What holds of all threads where one of them is replaced.
use Rattle.std.proofs.Common.{◌≡◌, ◌≢◌, ◌⊎◌, inl, inr, ℕ, ◌<◌, ◌==◌, List, Option, Some, None, Bool, true, false, map, length, refl, sym, ap, subst, ◌∙◌, arith}
use Rattle.std.specs.Prelude.{slice_index_or, slice_set}
use Rattle.std.proofs.Math.Seq.{map-set_same}
use Rattle.std.proofs.lemmas.Bool.Decides.{eqb_tells}
use Rattle.std.proofs.lemmas.List.{get_or_read, get_or-set_same, get_or-set_other, length-set}
use Rattle.hierarchy.specs.LinkedProgram.{LinkedProgram}
use Rattle.init_core.specs.declared.frames.Outcome.{Outcome}
use Rattle.bodies.specs.Making.{Making}
use Rattle.replayer.specs.declared.run.Run.{Run}
use Rattle.replayer.specs.declared.thread.Thread.{Thread}
use Rattle.replayer.specs.declared.thread.Turn.{Turn}
use Rattle.replayer.specs.declared.thread.Turn.TheVariants as turn
use Rattle.replayer.specs.AllGoing.{AreGoing, HasGone, IsHeld, IsSameBut, IsSameThere, IsThere}
use Rattle.replayer.specs.Going.{Going, IsOver, IsPaused, IsSameThread, TurnsTo}
use Rattle.replayer.specs.Logged.{IsLog, HasMade}
use Rattle.replayer.specs.OrderedRun.{HasJustMade, WaitsFor}
use Rattle.replayer.proofs.Others.{ended_over, others_there, paused_calm, paused_rests, there_of}

pub item_at : {A : Type 0} (xs : List A) (t : ℕ) (x other : A) → t < length xs → x ≡ slice_index_or xs t x → slice_index_or xs t other ≡ x
item_at xs t x other within is = sym (get_or_read xs t x within is other)

pub none_else : {A : Type 0} (o : Option A) → ((x : A) → o ≢ Some x) → o ≡ None
none_else None f = refl
none_else (Some x) f = absurd (f x refl)

module _ {S H : Type 0} (p : LinkedProgram) (M : Making S) (U : List (ℕ × H) → ℕ → S → Type 0) (W : List (ℕ × H) → ℕ → Bool → S → Type 0) where
  -- the same thread, which may have ended now
  pub record IsReplaced (t : ℕ) (r s : Run S H) (w x : Thread S) : Type 0 where
    pub within : t < length r.threads.items
    pub was : w ≡ slice_index_or r.threads.items t w
    pub now : s.threads.items ≡ slice_set r.threads.items t x
    pub number : x.number ≡ w.number
    pub main : x.main ≡ w.main
    pub start : x.start ≡ w.start

  pub now_there : {t : ℕ} {r s : Run S H} {w x : Thread S} → IsReplaced t r s w x → (other : Thread S) → slice_index_or s.threads.items t other ≡ x
  now_there {t = t} {r = r} {x = x} h other = ap (λ (ts : List (Thread S)). slice_index_or ts t other) h.now ∙ get_or-set_same r.threads.items t x other h.within

  now_other : {t : ℕ} {r s : Run S H} {w x : Thread S} → IsReplaced t r s w x → (u : ℕ) (other : Thread S) → u ≢ t → slice_index_or s.threads.items u other ≡ slice_index_or r.threads.items u other
  now_other {t = t} {r = r} {x = x} h u other n = ap (λ (ts : List (Thread S)). slice_index_or ts u other) h.now ∙ get_or-set_other r.threads.items t u x other n

  pub was_there : {t : ℕ} {r s : Run S H} {w x : Thread S} → IsReplaced t r s w x → (other : Thread S) → slice_index_or r.threads.items t other ≡ w
  was_there {t = t} {r = r} {w = w} h other = item_at r.threads.items t w other h.within h.was

  pub same_many : {t : ℕ} {r s : Run S H} {w x : Thread S} → IsReplaced t r s w x → length s.threads.items ≡ length r.threads.items
  same_many {t = t} {r = r} {x = x} h = ap length h.now ∙ length-set r.threads.items t x

  pub others_same : {t : ℕ} {r s : Run S H} {w x : Thread S} → IsReplaced t r s w x → IsSameBut t r s
  others_same {t = t} {r = r} {w = w} {x = x} h = record {
    mains = ap (λ (ts : List (Thread S)). map (λ v. v.main) ts) h.now ∙ map-set_same (λ v. v.main) r.threads.items t x x (h.main ∙ sym (ap (λ v. v.main) (was_there h x)));
    starts = ap (λ (ts : List (Thread S)). map (λ v. v.start.value) ts) h.now ∙ map-set_same (λ v. v.start.value) r.threads.items t x x (ap (λ v. v.value) h.start ∙ sym (ap (λ v. v.start.value) (was_there h x)));
    others = λ u other n. now_other h u other n;
  }

  pub still_there : {t : ℕ} {r s : Run S H} {w x : Thread S} → IsReplaced t r s w x → x.gave_up ≡ w.gave_up → ((o : Outcome) → w.done ≡ Some o → x.done ≡ Some o) → IsSameThere t r s
  still_there h gave_up done = record {
    gave_up = λ other. ap (λ v. v.gave_up) (now_there h other) ∙ (gave_up ∙ sym (ap (λ v. v.gave_up) (was_there h other)));
    done = λ other o q. ap (λ v. v.done) (now_there h other) ∙ done o (sym (ap (λ v. v.done) (was_there h other)) ∙ q);
  }

  pub number_is : {t : ℕ} {r s : Run S H} {w x : Thread S} → IsReplaced t r s w x → AreGoing p M r → w.number ≡ t
  number_is {t = t} {w = w} h g = sym (ap (λ v. v.number) (was_there h w)) ∙ g.numbers t w h.within

  pub all_going : {t : ℕ} {r s : Run S H} {w x : Thread S} → IsReplaced t r s w x → IsLog p s.log → s.log.threads ≡ r.log.threads → ((v : Thread S) → v.number ≢ t → IsThere p M r.log v → IsThere p M s.log v) → IsThere p M s.log x → AreGoing p M r → AreGoing p M s
  all_going {t = t} {r = r} {s = s} {w = w} {x = x} h log threads others there g = record {
    log = log;
    count = ap (λ n. n.value) threads ∙ (g.count ∙ sym (same_many h));
    numbers = λ u other low. number u other low (eqb_tells u t);
    threads = λ u other low. at u other low (eqb_tells u t);
  } where
    low_before : (u : ℕ) → u < length s.threads.items → u < length r.threads.items
    low_before u low = let many : length s.threads.items ≡ length r.threads.items = same_many h in omega (arith, many, low)

    number : (u : ℕ) (other : Thread S) → u < length s.threads.items → ((u == t) ≡ true × (u ≡ t)) ⊎ (((u == t) ≡ false) × (u ≢ t)) → (slice_index_or s.threads.items u other).number ≡ u
    number u other low (inl e) = ap (λ (n : ℕ). (slice_index_or s.threads.items n other).number) e.1 ∙ (ap (λ v. v.number) (now_there h other) ∙ (h.number ∙ (number_is h g ∙ sym e.1)))
    number u other low (inr n) = ap (λ v. v.number) (now_other h u other n.1) ∙ g.numbers u other (low_before u low)

    at : (u : ℕ) (other : Thread S) → u < length s.threads.items → ((u == t) ≡ true × (u ≡ t)) ⊎ (((u == t) ≡ false) × (u ≢ t)) → IsThere p M s.log (slice_index_or s.threads.items u other)
    at u other low (inl e) = subst (λ (n : ℕ). IsThere p M s.log (slice_index_or s.threads.items n other)) (sym e.1) (subst (λ (v : Thread S). IsThere p M s.log v) (sym (now_there h other)) there)
    at u other low (inr n) = subst (λ (v : Thread S). IsThere p M s.log v) (sym (now_other h u other n.1))
        (others (slice_index_or r.threads.items u other) (λ q. n.1 (sym (g.numbers u other (low_before u low)) ∙ q)) (g.threads u other (low_before u low)))

  -- a thread has gone on, up to an event or a wait
  pub record HasGoneOn (t : ℕ) (r s : Run S H) (of_turn : Turn) : Type 0 where
    pub going : AreGoing p M s
    pub gone : HasGone p M U W t r s of_turn
    pub others : IsSameBut t r s
    pub there : IsSameThere t r s

  -- where it waits
  held_there : {t : ℕ} {r s : Run S H} {w x : Thread S} → IsReplaced t r s w x → x.done ≡ None → IsPaused p M (W s.shared.turns.items t) s.log x → (other : Thread S) → IsHeld p M (W s.shared.turns.items t) s.log (slice_index_or s.threads.items t other)
  held_there {t = t} {s = s} {x = x} h none paused other = subst (λ (v : Thread S). IsHeld p M (W s.shared.turns.items t) s.log v) (sym (now_there h other)) (record { paused = paused; goes_on = paused_calm p M s.log x paused; done = none })

  was_none : {t : ℕ} {r s : Run S H} {w x : Thread S} → IsReplaced t r s w x → w.done ≡ None → (other : Thread S) → (slice_index_or r.threads.items t other).done ≡ None
  was_none h none other = ap (λ v. v.done) (was_there h other) ∙ none

  pub went_on : (t : ℕ) (r s : Run S H) (w x : Thread S) (of_turn : Turn) → IsReplaced t r s w x → x.gave_up ≡ w.gave_up → x.done ≡ w.done → w.done ≡ None → of_turn ≢ turn.Silent → of_turn ≢ turn.Comes → ((o : Outcome) → of_turn ≢ turn.Ended o) → (of_turn ≡ turn.Waits → s.shared ≡ r.shared) → U s.shared.turns.items t x.bodies →
      TurnsTo p M (W s.shared.turns.items t) r.log w s.log x of_turn → AreGoing p M r → HasGoneOn t r s of_turn
  went_on t r s w x turn.Silent h gave_up done none loud comes goes still used step g = absurd (loud refl)
  went_on t r s w x (turn.Ended o) h gave_up done none loud comes goes still used step g = absurd (goes o refl)
  went_on t r s w x turn.Comes h gave_up done none loud comes goes still used step g = absurd (comes refl)
  went_on t r s w x turn.Waits h gave_up done none loud comes goes still used step g = record {
    going = all_going h (subst (IsLog p) (sym step.1) g.log) (ap (λ l. l.threads) step.1) (λ v n a. subst (λ l. IsThere p M l v) (sym step.1) a) (there_of p M s.log x (done ∙ none) (paused_rests p M s.log x step.0)) g;
    gone = (step.1, still refl, held_there h (done ∙ none) step.0);
    others = others_same h;
    there = still_there h gave_up (λ o q. done ∙ q);
  }
  went_on t r s w x turn.Event h gave_up done none loud comes goes still used step g =
      let is = number_is h g in
      let made : HasMade t r.log s.log = record { event = step.made.event; thread = step.made.thread ∙ is; events = step.made.events; sees = step.made.sees; threads = step.made.threads } in
      record {
        going = all_going h step.going.log made.threads (λ v n a. others_there p M t r.log s.log v made step.going.log n a) (there_of p M s.log x (done ∙ none) (inl step.going)) g;
        gone = (made, was_none h none, (λ other n c f. step.free (sym (ap (λ v. v.gave_up) (was_there h other)) ∙ n) c (subst (λ (m : ℕ). WaitsFor m r.log.events.items c) (sym is) f)), λ other. subst (λ (v : Thread S). Going p M s.log v × U s.shared.turns.items t v.bodies × HasJustMade step.made.event.kind v.procedure) (sym (now_there h other)) (step.going, used, step.just));
        others = others_same h;
        there = still_there h gave_up (λ o q. done ∙ q);
      }

  -- up to something that another thread holds or initializes
  pub came : (t : ℕ) (r s : Run S H) (w x : Thread S) → IsReplaced t r s w x → IsSameThread w x → w.done ≡ None → TurnsTo p M (W s.shared.turns.items t) r.log w s.log x turn.Comes → AreGoing p M r → HasGoneOn t r s turn.Silent
  came t r s w x h same none step g = record {
    going = all_going h (subst (IsLog p) (sym step.1) g.log) (ap (λ l. l.threads) step.1) (λ v n a. subst (λ l. IsThere p M l v) (sym step.1) a) (there_of p M s.log x (same.done ∙ none) (paused_rests p M s.log x step.0)) g;
    gone = (step.1, was_none h none, λ other. inr (held_there h (same.done ∙ none) step.0 other));
    others = others_same h;
    there = still_there h same.gave_up (λ o q. same.done ∙ q);
  }

  -- or it has ended
  pub ended_now : (t : ℕ) (r s : Run S H) (w x y : Thread S) (o : Outcome) → IsReplaced t r s w y → IsSameThread w x → IsSameThread (record x { done = Some o }) y → w.done ≡ None → M.ends x.bodies y.bodies → IsOver p M s.log o x → s.log ≡ r.log → AreGoing p M r → HasGoneOn t r s turn.Silent
  ended_now t r s w x y o h was same none ends over log g = record {
    going = all_going h (subst (IsLog p) (sym log) g.log) (ap (λ l. l.threads) log) (λ v n a. subst (λ l. IsThere p M l v) (sym log) a) (ended_over p M s.log x y o same ends over) g;
    gone = (log, was_none h none, λ other. inl (o, ap (λ v. v.done) (now_there h other) ∙ same.done));
    others = others_same h;
    there = still_there h (same.gave_up ∙ was.gave_up) (λ z q. absurd (let n : None ≡ Some z = sym none ∙ q in cc));
  }

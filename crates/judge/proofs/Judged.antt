-- The verdict on a list of events, by how far it was judged.
use Rattle.std.proofs.Common.{◌≡◌, ℕ, zero, suc, ◌+◌, ◌<◌, ◌≤◌, length, List, [], ◌∷◌, ◌++◌, Option, Some, None, slice_get, take, drop, refl, sym, ap, subst, add-one}
use Rattle.std.specs.Prelude.{slice_index_or}
use Rattle.std.proofs.lemmas.List.{take_all}
use Rattle.std.proofs.lemmas.Option.{slice_get_read}
use Rattle.hierarchy.specs.declared.class.ClassId.{ClassId}
use Rattle.hierarchy.specs.LinkedProgram.{LinkedProgram}
use Rattle.init_core.specs.declared.event.Event.{Event}
use Rattle.judge.specs.declared.judge.Judge.{Judge}
use Rattle.judge.specs.declared.verdict.Rule.{Rule}
use Rattle.judge.specs.declared.verdict.Rule.TheVariants as rule
use Rattle.judge.specs.declared.verdict.Verdict.TheVariants as verdict
use Rattle.judge.specs.Judging.{HasJudged, MayAllStop}
use Rattle.judge.specs.Verdicts.{Breaks, IsVerdict, legal, illegal_at, unfinished}
use Rattle.judge.proofs.Rules.{begins_legal, is_legal, may_stop_all}

pub none_of : {X : Type 0} (o : Option X) → ((x : X) → o ≡ Some x → ⊥) → o ≡ None
none_of None f = refl
none_of (Some x) f = absurd (f x refl)

-- a list around one of its elements
record Around (events : List Event) (n : ℕ) (e : Event) : Type 0 where
  whole : events ≡ take n events ++ e ∷ drop (suc n) events
  front : take (suc n) events ≡ take n events ++ e ∷ []
  count : length (take n events) ≡ n

around : (events : List Event) (n : ℕ) (e : Event) → slice_get events n ≡ Some e → Around events n e
around [] n e q = absurd (let nothing : None ≡ Some e = q in cc)
around (x ∷ events) zero e q = let same : x ≡ e = cc in record { whole = ap (λ (z : Event). z ∷ events) same; front = ap (λ (z : Event). z ∷ []) same; count = refl }
around (x ∷ events) (suc n) e q = let h = around events n e q in record {
  whole = ap (λ (zs : List Event). x ∷ zs) h.whole;
  front = ap (λ (zs : List Event). x ∷ zs) h.front;
  count = ap suc h.count;
}

module _ (p : LinkedProgram) (mains : List ClassId) (events : List Event) (j : Judge) (judged : HasJudged p mains j events) where
  -- where all threads may stop after all events
  pub is_whole : MayAllStop j.readers.of_threads.items → IsVerdict p mains events verdict.Legal
  is_whole all = legal (is_legal p mains events j judged all)

  -- and where one may not
  pub is_unfinished : (MayAllStop j.readers.of_threads.items → ⊥) → IsVerdict p mains events (verdict.IllegalAt (length events) rule.End)
  is_unfinished never = unfinished (begins_legal p mains events j judged) (λ l. never (may_stop_all p mains events j judged l))

-- all events were judged
pub all_judged : (p : LinkedProgram) (mains : List ClassId) (events : List Event) (j : Judge) (n : ℕ) → length events ≤ n → HasJudged p mains j (take n events) → HasJudged p mains j events
all_judged p mains events j n past judged = subst (λ (h : List Event). HasJudged p mains j h) (take_all n events past) judged

module _ (p : LinkedProgram) (mains : List ClassId) (events : List Event) (j : Judge) (n : ℕ) (e : Event) (within : n < length events) (value : e ≡ slice_index_or events n e) (judged : HasJudged p mains j (take n events)) where
  here : Around events n e
  here = around events n e (slice_get_read events (length events) n e refl within value)

  -- an event that breaks a rule
  pub illegal : (r : Rule) → ((mains : List ClassId) (h : List Event) → HasJudged p mains j h → Breaks p mains r (h ++ e ∷ [])) → IsVerdict p mains events (verdict.IllegalAt n r)
  illegal r breaks = subst (λ (m : ℕ). IsVerdict p mains events (verdict.IllegalAt m r)) here.count (illegal_at (take n events) e (drop (suc n) events) r here.whole (begins_legal p mains (take n events) j judged) (breaks mains (take n events) judged))

  -- and one that breaks none
  pub one_further : (new : Judge) → ((mains : List ClassId) (h : List Event) → HasJudged p mains j h → HasJudged p mains new (h ++ e ∷ [])) → HasJudged p mains new (take (n + 1) events)
  one_further new fits =
      let more : take (n + 1) events ≡ take n events ++ e ∷ [] = rw add-one here.front in
      subst (λ (h : List Event). HasJudged p mains new h) (sym more) (fits mains (take n events) judged)

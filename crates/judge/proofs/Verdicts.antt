-- A list of events has one verdict.
use Rattle.std.proofs.Common.{◌≡◌, ℕ, length, List, [], ◌∷◌, ◌++◌, Option, Some, None, MatchOption, slice_get, refl, sym, ap, subst, append_assoc, append-nil, ◌∙◌}
use Rattle.std.proofs.lemmas.List.Elements.{filter-append}
use Rattle.std.specs.Prelude.{◌↔◌}
use Rattle.hierarchy.specs.declared.class.ClassId.{ClassId}
use Rattle.hierarchy.specs.LinkedProgram.{LinkedProgram}
use Rattle.statics.specs.Statics.{statics_of}
use Rattle.init_core.specs.declared.event.Event.{Event}
use Rattle.init_core.specs.Interleaving.{of_thread, of_class, IsLegal, BeginsLegal}
use Rattle.init_core.specs.ProcedureWord.{ThreadWord}
use Rattle.judge.specs.declared.verdict.Rule.{Rule}
use Rattle.judge.specs.declared.verdict.Rule.TheVariants as rule
use Rattle.judge.specs.declared.verdict.Verdict.{Verdict}
use Rattle.judge.specs.declared.verdict.Verdict.TheVariants as verdict
use Rattle.judge.specs.Verdicts.{ThreadsBegin, LabelsAgree, ValuesHold, Breaks, IsVerdict, legal, illegal_at, unfinished}
use Rattle.judge.proofs.Parts.{lawful_front, nothing_front}

module _ (p : LinkedProgram) (mains : List ClassId) where
  -- a beginning of a legal interleaving breaks no rule
  thread_begins : (t : ℕ) (main : Option ClassId) (xs ys : List Event) → MatchOption main (xs ++ ys ≡ []) (λ m. ThreadWord p t m (xs ++ ys)) → MatchOption main (xs ≡ []) (λ m. (more : List Event) × ThreadWord p t m (xs ++ more))
  thread_begins t None xs ys h = nothing_front xs ys h
  thread_begins t (Some m) xs ys h = (ys, h)

  threads : (events : List Event) → BeginsLegal p mains events → ThreadsBegin p mains events
  threads events h t = thread_begins t (slice_get mains t) (of_thread t events) (of_thread t h.0) (rw filter-append at (h.1.threads t))

  labels : (events : List Event) → BeginsLegal p mains events → LabelsAgree events
  labels events h c = (lawful_front (statics_of p c) (of_class c events) (of_class c h.0) (rw filter-append at (h.1.classes c))).labels

  values : (events : List Event) → BeginsLegal p mains events → ValuesHold p events
  values events h c = (lawful_front (statics_of p c) (of_class c events) (of_class c h.0) (rw filter-append at (h.1.classes c))).values

  pub breaks_none : (r : Rule) (events : List Event) → Breaks p mains r events → BeginsLegal p mains events → ⊥
  breaks_none rule.Word events b h = b (threads events h)
  breaks_none rule.Label events b h = b.1 (labels events h)
  breaks_none rule.Value events b h = b.2 (values events h)
  breaks_none rule.End events b h = b

  -- what breaks a rule breaks no other
  one_rule : (r q : Rule) (events : List Event) → Breaks p mains r events → Breaks p mains q events → r ≡ q
  one_rule rule.Word rule.Word events b d = refl
  one_rule rule.Word rule.Label events b d = absurd (b d.0)
  one_rule rule.Word rule.Value events b d = absurd (b d.0)
  one_rule rule.Label rule.Word events b d = absurd (d b.0)
  one_rule rule.Label rule.Label events b d = refl
  one_rule rule.Label rule.Value events b d = absurd (b.1 d.1)
  one_rule rule.Value rule.Word events b d = absurd (d b.0)
  one_rule rule.Value rule.Label events b d = absurd (d.1 b.1)
  one_rule rule.Value rule.Value events b d = refl
  one_rule rule.End q events b d = absurd b
  one_rule rule.Word rule.End events b d = absurd d
  one_rule rule.Label rule.End events b d = absurd d
  one_rule rule.Value rule.End events b d = absurd d

  shorter : (events more : List Event) → BeginsLegal p mains (events ++ more) → BeginsLegal p mains events
  shorter events more h = (more ++ h.0, (let l : IsLegal p mains ((events ++ more) ++ h.0) = h.1 in simp append_assoc at l))

  -- a list with an event that breaks a rule isn't the beginning of a legal interleaving
  pub broken : (before : List Event) (e : Event) (after : List Event) (r : Rule) → Breaks p mains r (before ++ e ∷ []) → BeginsLegal p mains (before ++ e ∷ after) → ⊥
  broken before e after r b h = breaks_none r (before ++ e ∷ []) b (shorter (before ++ e ∷ []) after (let k : BeginsLegal p mains (before ++ ((e ∷ []) ++ after)) = h in subst (λ (xs : List Event). BeginsLegal p mains xs) (sym (append_assoc before (e ∷ []) after)) k))

  -- two ways to take a list apart: at the same event, or one lies within the other's beginning
  data Apart (before : List Event) (e : Event) (after before2 : List Event) (e2 : Event) : Type 0 where
    same : before ≡ before2 → e ≡ e2 → Apart before e after before2 e2
    first : (between : List Event) → before2 ≡ before ++ e ∷ between → Apart before e after before2 e2
    second : (between : List Event) → before ≡ before2 ++ e2 ∷ between → Apart before e after before2 e2

  apart : (before : List Event) (e : Event) (after before2 : List Event) (e2 : Event) (after2 : List Event) → before ++ e ∷ after ≡ before2 ++ e2 ∷ after2 → Apart before e after before2 e2
  apart [] e after [] e2 after2 q = same refl cc
  apart [] e after (x ∷ xs) e2 after2 q = first xs (let head : e ≡ x = cc in ap (λ (z : Event). z ∷ xs) (sym head))
  apart (x ∷ xs) e after [] e2 after2 q = second xs (let head : x ≡ e2 = cc in ap (λ (z : Event). z ∷ xs) head)
  apart (x ∷ xs) e after (y ∷ ys) e2 after2 q = by (apart xs e after ys e2 after2 (let tail : xs ++ e ∷ after ≡ ys ++ e2 ∷ after2 = cc in tail))
    where
      head : x ≡ y
      head = cc

      by : Apart xs e after ys e2 → Apart (x ∷ xs) e after (y ∷ ys) e2
      by (same a b) = same (ap (λ (z : Event). z ∷ xs) head ∙ ap (λ (zs : List Event). y ∷ zs) a) b
      by (first between a) = first between (ap (λ (z : Event). z ∷ ys) (sym head) ∙ ap (λ (zs : List Event). x ∷ zs) a)
      by (second between a) = second between (ap (λ (z : Event). z ∷ xs) head ∙ ap (λ (zs : List Event). y ∷ zs) a)

  illegal_once : (before : List Event) (e : Event) (r : Rule) (after before2 : List Event) (e2 : Event) (r2 : Rule) → BeginsLegal p mains before → Breaks p mains r (before ++ e ∷ []) → BeginsLegal p mains before2 → Breaks p mains r2 (before2 ++ e2 ∷ []) →
      Apart before e after before2 e2 → verdict.IllegalAt (length before) r ≡ verdict.IllegalAt (length before2) r2
  illegal_once before e r after before2 e2 r2 h b h2 b2 (same q s) =
      let front : before2 ++ e2 ∷ [] ≡ before ++ e ∷ [] = ap (λ (z : Event). before2 ++ z ∷ []) (sym s) ∙ ap (λ (zs : List Event). zs ++ e ∷ []) (sym q) in
      let rules : r ≡ r2 = one_rule r r2 (before ++ e ∷ []) b (subst (λ (zs : List Event). Breaks p mains r2 zs) front b2) in
      ap (λ (n : ℕ). verdict.IllegalAt n r) (ap length q) ∙ ap (λ (x : Rule). verdict.IllegalAt (length before2) x) rules
  illegal_once before e r after before2 e2 r2 h b h2 b2 (first between q) = absurd (broken before e between r b (subst (λ (zs : List Event). BeginsLegal p mains zs) q h2))
  illegal_once before e r after before2 e2 r2 h b h2 b2 (second between q) = absurd (broken before2 e2 between r2 b2 (subst (λ (zs : List Event). BeginsLegal p mains zs) q h))

  begins : (events : List Event) → IsLegal p mains events → BeginsLegal p mains events
  begins events l = ([], rw append-nil l)

  not_begun : (events before : List Event) (e : Event) (after : List Event) (r : Rule) → events ≡ before ++ e ∷ after → Breaks p mains r (before ++ e ∷ []) → BeginsLegal p mains events → ⊥
  not_begun events before e after r q b h = broken before e after r b (subst (λ (zs : List Event). BeginsLegal p mains zs) q h)

  pub one_verdict : (events : List Event) (v w : Verdict) → IsVerdict p mains events v → IsVerdict p mains events w → v ≡ w
  one_verdict events v w (legal l) (legal k) = refl
  one_verdict events v w (legal l) (illegal_at before e after r q h b) = absurd (not_begun events before e after r q b (begins events l))
  one_verdict events v w (legal l) (unfinished h never) = absurd (never l)
  one_verdict events v w (illegal_at before e after r q h b) (legal l) = absurd (not_begun events before e after r q b (begins events l))
  one_verdict events v w (illegal_at before e after r q h b) (illegal_at before2 e2 after2 r2 q2 h2 b2) = illegal_once before e r after before2 e2 r2 h b h2 b2 (apart before e after before2 e2 after2 (sym q ∙ q2))
  one_verdict events v w (illegal_at before e after r q h b) (unfinished k never) = absurd (not_begun events before e after r q b k)
  one_verdict events v w (unfinished h never) (legal l) = absurd (never l)
  one_verdict events v w (unfinished k never) (illegal_at before e after r q h b) = absurd (not_begun events before e after r q b k)
  one_verdict events v w (unfinished h never) (unfinished k other) = refl

  is_legal_of : (events : List Event) (v : Verdict) → IsVerdict p mains events v → v ≡ verdict.Legal → IsLegal p mains events
  is_legal_of events v (legal l) q = l
  is_legal_of events v (illegal_at before e after r x h b) q = cc
  is_legal_of events v (unfinished h never) q = cc

  -- the verdict is that it is legal exactly where it is
  pub legal_exactly : (events : List Event) (v : Verdict) → IsVerdict p mains events v → (v ≡ verdict.Legal) ↔ IsLegal p mains events
  legal_exactly events v x = (is_legal_of events v x, λ l. one_verdict events v verdict.Legal x (legal l))

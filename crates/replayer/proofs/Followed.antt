-- What the turns of threads keep of an order.
use Rattle.std.proofs.Common.{◌≡◌, ◌≢◌, ◌⊎◌, inl, inr, ⊎_elim, ℕ, zero, suc, ◌+◌, ◌<◌, List, [], ◌∷◌, ◌++◌, Option, Some, None, Bool, true, false, length, map, refl, sym, ap, subst, ◌∙◌, append-nil, append_assoc, arith}
use Rattle.std.specs.Prelude.{MatchOption, slice_get, slice_index_or}
use Rattle.std.specs.List.{AllByRecursion, Contains}
use Rattle.std.proofs.lemmas.List.{length-map}
use Rattle.std.proofs.lemmas.Bool.{ne_eqb}
use Rattle.std.proofs.lemmas.Bool.Decides.{eqb_tells}
use Rattle.hierarchy.specs.declared.class.ClassId.{ClassId}
use Rattle.hierarchy.specs.LinkedProgram.{LinkedProgram}
use Rattle.init_core.specs.declared.event.Event.{Event}
use Rattle.init_core.specs.declared.frames.Outcome.{Outcome}
use Rattle.init_core.specs.declared.frames.Outcome.TheVariants.{Normal, Abrupt, Ended}
use Rattle.init_core.specs.Interleaving.{of_class, of_thread}
use Rattle.bodies.specs.declared.report.Limit.TheVariants.{Patience}
use Rattle.bodies.specs.declared.report.ThreadOutcome.{ThreadOutcome}
use Rattle.bodies.specs.declared.report.ThreadOutcome.TheVariants as outcome
use Rattle.bodies.specs.Making.{Making}
use Rattle.bodies.specs.ThreadStands.{ThreadStands}
use Rattle.replayer.specs.declared.run.Run.{Run}
use Rattle.replayer.specs.declared.thread.Thread.{Thread}
use Rattle.replayer.specs.declared.thread.Turn.{Turn}
use Rattle.replayer.specs.declared.thread.Turn.TheVariants as turn
use Rattle.replayer.specs.AllGoing.{AreGoing, AreGone, AreToCome, HasDone, HasGone, IsHeld, IsSameBut, IsSameThere, Leads, ThreadAt, mains_of, starts_of}
use Rattle.replayer.specs.Going.{Going, HasLeft, IsInBody, IsPaused, Resting, at_class, in_body, outcome_by}
use Rattle.init_core.specs.Advance.{is_waiting}
use Rattle.init_core.specs.Standing.{Standing}
use Rattle.replayer.specs.OrderedRun.{HasJustMade, Follows, HasEnded, IsAt, IsInBodyAt, IsStuck, IsWaiting, WaitsFor, WaitsInBody, made as makes, gives_up, goes_on, lowest, skipped}
use Rattle.replayer.specs.Turning.{HadTurnsAlone}
use Rattle.replayer.specs.Turns.{AreOf}
use Rattle.replayer.proofs.Acting.{not_gone}
use Rattle.replayer.proofs.Stepping.{not_both}

by_cases : {A : Type 0} (u t : ℕ) → (u ≡ t → A) → (u ≢ t → A) → A
by_cases u t f g = ⊎_elim (λ x. f x.1) (λ x. g x.1) (eqb_tells u t)

-- no event of another thread comes
of_others_to_come : (u : ℕ) (e : Event) (rest : List Event) → e.thread ≢ u → of_thread u (e ∷ rest) ≡ of_thread u rest
of_others_to_come u e rest n = rw (ne_eqb e.thread u n) refl

-- a thread that didn't give up isn't ended for its patience
not_patience : (x : Outcome) → outcome_by false x ≢ outcome.Ended Patience
not_patience Normal q = cc
not_patience (Abrupt e) q = cc
not_patience (Ended e) q = cc

-- and one that gave up and was ended is
for_patience : (gave_up : Bool) (x : Outcome) → gave_up ≡ true → (e : ClassId) × (x ≡ Ended e) → outcome_by gave_up x ≡ outcome.Ended Patience
for_patience gave_up x is ended = subst (λ (b : Bool). outcome_by b x ≡ outcome.Ended Patience) (sym is) (subst (λ (r : Outcome). outcome_by true r ≡ outcome.Ended Patience) (sym ended.1) refl)

-- an item by its number
pub slice_get_map : {A B : Type 0} (f : A → B) (xs : List A) (t : ℕ) (other x : A) → t < length xs → slice_index_or xs t other ≡ x → slice_get (map f xs) t ≡ Some (f x)
slice_get_map f [] t other x low is = absurd (omega (arith, low))
slice_get_map f (y ∷ xs) zero other x low is = ap (λ z. Some (f z)) is
slice_get_map f (y ∷ xs) (suc t) other x low is = slice_get_map f xs t other x (omega (arith, low)) is

pub all_at : {A : Type 0} (P : A → Type 0) (xs : List A) (t : ℕ) (other : A) → AllByRecursion P xs → t < length xs → P (slice_index_or xs t other)
all_at P [] t other a low = absurd (omega (arith, low))
all_at P (x ∷ xs) zero other a low = a.0
all_at P (x ∷ xs) (suc t) other a low = all_at P xs t other a.1 (omega (arith, low))

module _ {S H : Type 0} (p : LinkedProgram) (M : Making S) (U : List (ℕ × H) → ℕ → S → Type 0) (W : List (ℕ × H) → ℕ → Bool → S → Type 0) where
  pub leads_nowhere : (order gone : List ℕ) (r : Run S H) → Leads p M U W order gone r order gone r
  leads_nowhere order gone r = record {
    mains = refl;
    starts = refl;
    have_gone = λ a. a;
    made = [];
    events = sym (append-nil r.log.events.items);
    turned = [];
    turns = sym (append-nil r.shared.turns.items);
    to_come = λ outcomes rest more a. a;
    follows = λ g outcomes rest more a f. f;
  }

  pub leads_on : {order gone left later last latest : List ℕ} {r s u : Run S H} → Leads p M U W order gone r left later s → Leads p M U W left later s last latest u → Leads p M U W order gone r last latest u
  leads_on {order = order} {gone = gone} {left = left} {later = later} {r = r} {s = s} {u = u} a b = record {
    mains = b.mains ∙ a.mains;
    starts = b.starts ∙ a.starts;
    have_gone = λ g. b.have_gone (a.have_gone g);
    made = a.made ++ b.made;
    events = b.events ∙ (ap (λ (es : List Event). es ++ b.made) a.events ∙ append_assoc r.log.events.items a.made b.made);
    turned = a.turned ++ b.turned;
    turns = b.turns ∙ (ap (λ (xs : List (ℕ × H)). xs ++ b.turned) a.turns ∙ append_assoc r.shared.turns.items a.turned b.turned);
    to_come = λ outcomes rest more c. subst (λ (es : List Event). AreToCome outcomes r es ((a.turned ++ b.turned) ++ more)) (sym (append_assoc a.made b.made rest))
        (subst (λ (xs : List (ℕ × H)). AreToCome outcomes r (a.made ++ (b.made ++ rest)) xs) (sym (append_assoc a.turned b.turned more)) (a.to_come outcomes (b.made ++ rest) (b.turned ++ more) (b.to_come outcomes rest more c)));
    follows = λ g outcomes rest more c f.
        let events = r.log.events.items in
        let turns = r.shared.turns.items in
        subst (λ (es : List Event). Follows p M U W (starts_of u) (mains_of u) outcomes order gone events turns es ((a.turned ++ b.turned) ++ more)) (sym (append_assoc a.made b.made rest))
        (subst (λ (xs : List (ℕ × H)). Follows p M U W (starts_of u) (mains_of u) outcomes order gone events turns (a.made ++ (b.made ++ rest)) xs) (sym (append_assoc a.turned b.turned more))
        (subst (λ (ss : List S). Follows p M U W ss (mains_of u) outcomes order gone events turns (a.made ++ (b.made ++ rest)) (a.turned ++ (b.turned ++ more))) (sym b.starts)
        (subst (λ (ms : List ClassId). Follows p M U W (starts_of s) ms outcomes order gone events turns (a.made ++ (b.made ++ rest)) (a.turned ++ (b.turned ++ more))) (sym b.mains)
        (a.follows g outcomes (b.made ++ rest) (b.turned ++ more) (b.to_come outcomes rest more c)
        (subst (λ (ss : List S). Follows p M U W ss (mains_of s) outcomes left later s.log.events.items s.shared.turns.items (b.made ++ rest) (b.turned ++ more)) b.starts
        (subst (λ (ms : List ClassId). Follows p M U W (starts_of u) ms outcomes left later s.log.events.items s.shared.turns.items (b.made ++ rest) (b.turned ++ more)) b.mains
        (b.follows (a.have_gone g) outcomes rest more c f)))))));
  }

  -- ---- one turn

  in_none : (t : ℕ) → Contains [] t → ⊥
  in_none t c = let low = c.1 in absurd (omega (arith, low))

  some_item : {A : Type 0} (xs : List A) (t : ℕ) → t < length xs → A
  some_item [] t low = absurd (omega (arith, low))
  some_item (x ∷ xs) t low = x

  pub same_length : {t : ℕ} {r s : Run S H} → IsSameBut t r s → length s.threads.items ≡ length r.threads.items
  same_length {r = r} {s = s} o = sym (length-map s.threads.items (λ w. w.main)) ∙ (ap length o.mains ∙ length-map r.threads.items (λ w. w.main))

  same_gave_up : {t : ℕ} {r s : Run S H} → IsSameBut t r s → IsSameThere t r s → (u : ℕ) (other : Thread S) → (slice_index_or s.threads.items u other).gave_up ≡ (slice_index_or r.threads.items u other).gave_up
  same_gave_up {t = t} {r = r} {s = s} o h u other = by_cases u t
      (λ e. subst (λ (n : ℕ). (slice_index_or s.threads.items n other).gave_up ≡ (slice_index_or r.threads.items n other).gave_up) (sym e) (h.gave_up other))
      (λ n. ap (λ w. w.gave_up) (o.others u other n))

  still_done : {t : ℕ} {r s : Run S H} → IsSameBut t r s → IsSameThere t r s → (u : ℕ) (other : Thread S) (x : Outcome) → (slice_index_or r.threads.items u other).done ≡ Some x → (slice_index_or s.threads.items u other).done ≡ Some x
  still_done {t = t} {r = r} {s = s} o h u other x q = by_cases u t
      (λ e. subst (λ (n : ℕ). (slice_index_or s.threads.items n other).done ≡ Some x) (sym e) (h.done other x (subst (λ (n : ℕ). (slice_index_or r.threads.items n other).done ≡ Some x) e q)))
      (λ n. ap (λ w. w.done) (o.others u other n) ∙ q)

  still_gone : {t : ℕ} {r s : Run S H} (gone : List ℕ) → IsSameBut t r s → IsSameThere t r s → AreGone gone r → AreGone gone s
  still_gone {r = r} {s = s} gone o h a u other low =
      let many = same_length o in
      let same = same_gave_up o h u other in
      let b = a u other (omega (arith, many, low)) in
      (λ y. b.0 (sym same ∙ y), λ c. same ∙ b.1 c)

  -- what is to come, where no turn was had
  still_to_come : {t : ℕ} {r s : Run S H} (outcomes : List ThreadOutcome) (rest : List Event) (more : List (ℕ × H)) → IsSameBut t r s → IsSameThere t r s → AreToCome outcomes s rest more → AreToCome outcomes r rest more
  still_to_come {r = r} {s = s} outcomes rest more o h a u other low x q =
      let many = same_length o in
      let b = a u other (omega (arith, many, low)) x (still_done o h u other x q) in
      (b.0, b.1, b.2 ∙ ap (λ g. Some (outcome_by g x)) (same_gave_up o h u other))

  none_of : (u t : ℕ) (own more : List (ℕ × H)) → u ≢ t → AreOf t own → AllByRecursion (λ turn. turn.0 ≢ u) more → AllByRecursion (λ turn. turn.0 ≢ u) (own ++ more)
  none_of u t [] more apart is none = none
  none_of u t (turn ∷ own) more apart is none = ((λ q. apart (sym q ∙ is.0)), none_of u t own more apart is.1 none)

  isnt_done : {t : ℕ} (r : Run S H) → ThreadAt r t (λ w. w.done ≡ None) → (u : ℕ) (other : Thread S) (x : Outcome) → (slice_index_or r.threads.items u other).done ≡ Some x → u ≢ t
  isnt_done r none u other x q is = let z : None ≡ Some x = sym (none other) ∙ subst (λ (n : ℕ). (slice_index_or r.threads.items n other).done ≡ Some x) is q in absurd cc

  -- and where t had these, which hadn't ended
  turns_to_come : {t : ℕ} {r s : Run S H} (outcomes : List ThreadOutcome) (rest : List Event) (own more : List (ℕ × H)) → AreOf t own → ThreadAt r t (λ w. w.done ≡ None) → IsSameBut t r s → IsSameThere t r s → AreToCome outcomes s rest more → AreToCome outcomes r rest (own ++ more)
  turns_to_come {t = t} {r = r} {s = s} outcomes rest own more is none o h a u other low x q =
      let b = still_to_come outcomes rest more o h a u other low x q in
      (b.0, none_of u t own more (isnt_done r none u other x q) is b.1, b.2)

  more_to_come : {t : ℕ} {r s : Run S H} (outcomes : List ThreadOutcome) (rest : List Event) (e : Event) (own more : List (ℕ × H)) → e.thread ≡ t → AreOf t own → ThreadAt r t (λ w. w.done ≡ None) → IsSameBut t r s → IsSameThere t r s → AreToCome outcomes s rest more → AreToCome outcomes r (e ∷ rest) (own ++ more)
  more_to_come {t = t} {r = r} {s = s} outcomes rest e own more is mine none o h a u other low x q =
      let b = turns_to_come outcomes rest own more mine none o h a u other low x q in
      (of_others_to_come u e rest (λ y. isnt_done r none u other x q (sym y ∙ is)) ∙ b.0, b.1, b.2)

  not_gave_up : (gone : List ℕ) (t : ℕ) (r : Run S H) (other : Thread S) → (Contains gone t → ⊥) → t < length r.threads.items → AreGone gone r → (slice_index_or r.threads.items t other).gave_up ≡ false
  not_gave_up gone t r other none low a = not_gone p M _ (λ y. none ((a t other low).0 y))

  abbrev no_turns : (t : ℕ) (r s : Run S H) → s.shared ≡ r.shared → HadTurnsAlone t r s
  no_turns t r s same = record { turned = []; own = tt; turns = ap (λ x. x.turns.items) same ∙ sym (append-nil r.shared.turns.items) }

  -- where a thread stands
  at_event : (Such : Standing → Type 0) (V : S → Type 0) (t : ℕ) (s : Run S H) (other w : Thread S) → t < length s.threads.items → slice_index_or s.threads.items t other ≡ w → AreGoing p M s → Going p M s.log w → Such w.procedure → V w.bodies → IsAt p M Such V (starts_of s) (mains_of s) t s.log.events.items
  at_event Such V t s other w low is g going such used = record {
    start = w.start.value;
    main = w.main;
    its_start = slice_get_map (λ v. v.start.value) s.threads.items t other w low is;
    its_main = slice_get_map (λ v. v.main) s.threads.items t other w low is;
    in_main = w.in_main;
    standing = w.procedure;
    state = w.bodies;
    stands = subst (λ (n : ℕ). ThreadStands p n M w.start.value w.main w.in_main w.procedure (of_thread n s.log.events.items) (λ c. of_class c s.log.events.items) w.bodies) (sym (ap (λ v. v.number) is) ∙ g.numbers t other low) going.stands;
    such = such;
    used = used;
  }

  -- after its event, in the events and turns before it and its own
  after_event : (t : ℕ) (r s : Run S H) (w : Thread S) → t < length r.threads.items → AreGoing p M s → (x : HadTurnsAlone t r s) (g : HasGone p M U W t r s turn.Event) → IsSameBut t r s →
      IsAt p M (HasJustMade g.0.event.kind) (U (r.shared.turns.items ++ x.turned) g.0.event.thread) (starts_of s) (mains_of s) g.0.event.thread (r.log.events.items ++ g.0.event ∷ [])
  after_event t r s w low going x g o =
      let here = g.3 w in
      let just = HasJustMade g.0.event.kind in
      subst (λ (n : ℕ). IsAt p M just (U (r.shared.turns.items ++ x.turned) n) (starts_of s) (mains_of s) n (r.log.events.items ++ g.0.event ∷ [])) (sym g.0.thread)
      (subst (λ (es : List Event). IsAt p M just (U (r.shared.turns.items ++ x.turned) t) (starts_of s) (mains_of s) t es) g.0.events
      (subst (λ (xs : List (ℕ × H)). IsAt p M just (U xs t) (starts_of s) (mains_of s) t s.log.events.items) x.turns
      (at_event just (U s.shared.turns.items t) t s w (slice_index_or s.threads.items t w) (let many = same_length o in omega (arith, many, low)) refl going here.0 here.2 here.1)))

  -- it makes an event
  event_made : (order : List ℕ) (t : ℕ) (r s : Run S H) → t < length r.threads.items → AreGoing p M s → HadTurnsAlone t r s → HasGone p M U W t r s turn.Event → IsSameBut t r s → IsSameThere t r s → Leads p M U W (t ∷ order) [] r order [] s
  event_made order t r s low going x g o h =
      let m = g.0 in
      record {
        mains = o.mains;
        starts = o.starts;
        have_gone = λ a. still_gone [] o h a;
        made = m.event ∷ [];
        events = m.events;
        turned = x.turned;
        turns = x.turns;
        to_come = λ outcomes rest more a. more_to_come outcomes rest m.event x.turned more m.thread x.own g.1 o h a;
        follows = λ a outcomes rest more c f.
            let w = some_item r.threads.items t low in
            subst (λ (n : ℕ). Follows p M U W (starts_of s) (mains_of s) outcomes (n ∷ order) [] r.log.events.items r.shared.turns.items (m.event ∷ rest) (x.turned ++ more)) m.thread
            (makes m.event x.turned (subst (λ (n : ℕ). AreOf n x.turned) (sym m.thread) x.own) (λ d q. g.2 w (not_gave_up [] t r w (in_none t) low a) d (subst (λ (n : ℕ). WaitsFor n r.log.events.items d) m.thread q)) (after_event t r s w low going x g o)
            (subst (λ (xs : List (ℕ × H)). Follows p M U W (starts_of s) (mains_of s) outcomes order [] (r.log.events.items ++ m.event ∷ []) xs rest more) x.turns
            (subst (λ (es : List Event). Follows p M U W (starts_of s) (mains_of s) outcomes order [] es s.shared.turns.items rest more) m.events f)));
      }

  -- what follows after a turn without an event, as it was before the turn
  as_before : {order gone : List ℕ} {outcomes : List ThreadOutcome} {rest : List Event} {more : List (ℕ × H)} {t : ℕ} {r s : Run S H} → s.log ≡ r.log → (x : HadTurnsAlone t r s) →
      Follows p M U W (starts_of s) (mains_of s) outcomes order gone s.log.events.items s.shared.turns.items rest more → Follows p M U W (starts_of s) (mains_of s) outcomes order gone r.log.events.items (r.shared.turns.items ++ x.turned) rest more
  as_before {order = order} {gone = gone} {outcomes = outcomes} {rest = rest} {more = more} {r = r} {s = s} same x f =
      subst (λ (xs : List (ℕ × H)). Follows p M U W (starts_of s) (mains_of s) outcomes order gone r.log.events.items xs rest more) x.turns
      (subst (λ (es : List Event). Follows p M U W (starts_of s) (mains_of s) outcomes order gone es s.shared.turns.items rest more) (ap (λ l. l.events.items) same) f)

  stuck_before : {gone : List ℕ} {outcomes : List ThreadOutcome} {rest : List Event} {more : List (ℕ × H)} {t : ℕ} {r s : Run S H} → s.log ≡ r.log → (x : HadTurnsAlone t r s) →
      IsStuck p M (W s.shared.turns.items) (starts_of s) (mains_of s) outcomes gone t s.log.events.items rest more → IsStuck p M (W (r.shared.turns.items ++ x.turned)) (starts_of s) (mains_of s) outcomes gone t r.log.events.items rest more
  stuck_before {gone = gone} {outcomes = outcomes} {rest = rest} {more = more} {t = t} {r = r} {s = s} same x stuck =
      subst (λ (xs : List (ℕ × H)). IsStuck p M (W xs) (starts_of s) (mains_of s) outcomes gone t r.log.events.items rest more) x.turns
      (subst (λ (es : List Event). IsStuck p M (W s.shared.turns.items) (starts_of s) (mains_of s) outcomes gone t es rest more) (ap (λ l. l.events.items) same) stuck)

  -- it can't go on, or can't any more
  skips : (order : List ℕ) (t : ℕ) (r s : Run S H) → s.log ≡ r.log → (x : HadTurnsAlone t r s) → IsSameBut t r s → IsSameThere t r s → ((outcomes : List ThreadOutcome) (rest : List Event) (more : List (ℕ × H)) → AreToCome outcomes s rest more → AreToCome outcomes r rest (x.turned ++ more)) →
      (AreGone [] s → (outcomes : List ThreadOutcome) (rest : List Event) (more : List (ℕ × H)) → AreToCome outcomes s rest more → IsStuck p M (W s.shared.turns.items) (starts_of s) (mains_of s) outcomes [] t s.log.events.items rest more) → Leads p M U W (t ∷ order) [] r order [] s
  skips order t r s same x o h back stuck = record {
    mains = o.mains;
    starts = o.starts;
    have_gone = λ a. still_gone [] o h a;
    made = [];
    events = ap (λ l. l.events.items) same ∙ sym (append-nil r.log.events.items);
    turned = x.turned;
    turns = x.turns;
    to_come = back;
    follows = λ a outcomes rest more c f. skipped t x.turned x.own (stuck_before same x (stuck (still_gone [] o h a) outcomes rest more c)) (as_before same x f);
  }

  -- a thread in a body
  abbrev in_body_at : (t : ℕ) (s : Run S H) (other w : Thread S) (from : S) → t < length s.threads.items → slice_index_or s.threads.items t other ≡ w → AreGoing p M s → Going p M s.log (record w { bodies = from }) → IsInBody w → IsInBodyAt p M (starts_of s) (mains_of s) t s.log.events.items from
  in_body_at t s other w from low is g going body = record {
    start = w.start.value;
    main = w.main;
    its_start = slice_get_map (λ v. v.start.value) s.threads.items t other w low is;
    its_main = slice_get_map (λ v. v.main) s.threads.items t other w low is;
    in_main = w.in_main;
    standing = w.procedure;
    stands = subst (λ (n : ℕ). ThreadStands p n M w.start.value w.main w.in_main w.procedure (of_thread n s.log.events.items) (λ c. of_class c s.log.events.items) from) (sym (ap (λ v. v.number) is) ∙ g.numbers t other low) going.stands;
    requests = body.requests;
    body = body.main;
  }

  -- a thread that waits
  pub held_waits : (gone : List ℕ) (t : ℕ) (s : Run S H) (other : Thread S) → t < length s.threads.items → AreGoing p M s → AreGone gone s → IsHeld p M (W s.shared.turns.items t) s.log (slice_index_or s.threads.items t other) → IsWaiting p M (W s.shared.turns.items t) (starts_of s) (mains_of s) gone t s.log.events.items
  held_waits gone t s other low g a held = record {
    goes_on = λ c. not_both held.goes_on ((a t other low).1 c);
    waits = by (slice_index_or s.threads.items t other) refl held.goes_on held.paused;
  } where
    by : (w : Thread S) → slice_index_or s.threads.items t other ≡ w → w.gave_up ≡ false → IsPaused p M (W s.shared.turns.items t) s.log w →
        ((c : ClassId) × WaitsFor t s.log.events.items c × IsAt p M (λ v. is_waiting c v.frames ≡ true) (W s.shared.turns.items t false) (starts_of s) (mains_of s) t s.log.events.items) ⊎ WaitsInBody p M (W s.shared.turns.items t true) (starts_of s) (mains_of s) t s.log.events.items
    by w is calm (at_class c going q f used) = inl (
      c,
      subst (λ (n : ℕ). WaitsFor n s.log.events.items c) (sym (ap (λ v. v.number) is) ∙ g.numbers t other low) f,
      at_event (λ v. is_waiting c v.frames ≡ true) (W s.shared.turns.items t false) t s other w low is g going (going.calm calm c f.last) used,
    )
    by w is calm (in_body x) = inr (⊎_elim
        (λ y. record { before = w.bodies; body = in_body_at t s other w w.bodies low is g y x.body; now = w.bodies; come = inl refl; waits = x.waits })
        (λ h. let d = h.doing in record { before = d.from; body = in_body_at t s other w d.from low is g d.going x.body; now = w.bodies; come = inr d.does; waits = x.waits })
        x.resting)

  -- a thread that has ended
  pub done_ended : (gone : List ℕ) (t : ℕ) (s : Run S H) (other : Thread S) (x : Outcome) (outcomes : List ThreadOutcome) (rest : List Event) (more : List (ℕ × H)) → t < length s.threads.items → AreGoing p M s → AreGone gone s → (slice_index_or s.threads.items t other).done ≡ Some x → AreToCome outcomes s rest more → HasEnded outcomes gone t rest more
  done_ended gone t s other x outcomes rest more low g a done c =
      let w = slice_index_or s.threads.items t other in
      let b = c t other low x done in
      let left : HasLeft p M s.log x w = subst (λ (o : Option Outcome). MatchOption o (Resting p M s.log w) (λ r. HasLeft p M s.log r w)) done (g.threads t other low) in
      record { none = b.0; turns = b.1; patient = λ q. by w.gave_up refl (sym b.2 ∙ q); gave_up = λ is. (let y = (a t other low).1 is in b.2 ∙ ap Some (for_patience w.gave_up x y (left.gave_up y))) } where
        by : (y : Bool) → (slice_index_or s.threads.items t other).gave_up ≡ y → Some (outcome_by (slice_index_or s.threads.items t other).gave_up x) ≡ Some (outcome.Ended Patience) → Contains gone t
        by true is q = (a t other low).0 is
        by false is q = absurd (not_patience x (let z : outcome_by (slice_index_or s.threads.items t other).gave_up x ≡ outcome.Ended Patience = cc in subst (λ (y : Bool). outcome_by y x ≡ outcome.Ended Patience) is z))

  -- one that has ended or waits can't go on
  stuck_there : (gone : List ℕ) (u : ℕ) (r : Run S H) (other : Thread S) (outcomes : List ThreadOutcome) (rest : List Event) (more : List (ℕ × H)) → u < length r.threads.items → AreGoing p M r → AreGone gone r → AreToCome outcomes r rest more → HasDone (slice_index_or r.threads.items u other) ⊎ IsHeld p M (W r.shared.turns.items u) r.log (slice_index_or r.threads.items u other) →
      IsStuck p M (W r.shared.turns.items) (starts_of r) (mains_of r) outcomes gone u r.log.events.items rest more
  stuck_there gone u r other outcomes rest more low g a c (inl d) = inl (done_ended gone u r other d.0 outcomes rest more low g a d.1 c)
  stuck_there gone u r other outcomes rest more low g a c (inr h) = inr (held_waits gone u r other low g a h)

  pub one_turn : (order : List ℕ) (t : ℕ) (r s : Run S H) (of_turn : Turn) → t < length r.threads.items → AreGoing p M s → HadTurnsAlone t r s → HasGone p M U W t r s of_turn → IsSameBut t r s → IsSameThere t r s → Leads p M U W (t ∷ order) [] r order [] s
  one_turn order t r s turn.Event low g x gone o h = event_made order t r s low g x gone o h
  one_turn order t r s turn.Comes low g x gone o h = absurd gone
  one_turn order t r s turn.Silent low g x gone o h =
      let w = some_item r.threads.items t low in
      let still : t < length s.threads.items = (let many = same_length o in omega (arith, many, low)) in
      skips order t r s gone.0 x o h (λ outcomes rest more c. turns_to_come outcomes rest x.turned more x.own gone.1 o h c) (λ a outcomes rest more c. stuck_there [] t s w outcomes rest more still g a c (gone.2 w))
  one_turn order t r s turn.Waits low g x gone o h =
      let w = some_item r.threads.items t low in
      let still : t < length s.threads.items = (let many = same_length o in omega (arith, many, low)) in
      skips order t r s gone.0 (no_turns t r s gone.1) o h (λ outcomes rest more c. still_to_come outcomes rest more o h c) (λ a outcomes rest more c. stuck_there [] t s w outcomes rest more still g a c (inr (gone.2 w)))
  one_turn order t r s (turn.Ended x) low g own gone o h =
      let w = some_item r.threads.items t low in
      let still : t < length s.threads.items = (let many = same_length o in omega (arith, many, low)) in
      skips order t r s gone.0 (no_turns t r s gone.1) o h (λ outcomes rest more c. still_to_come outcomes rest more o h c) (λ a outcomes rest more c. stuck_there [] t s w outcomes rest more still g a c (inl (x, gone.2 w)))

  -- ---- after the order

  -- each of the first threads has ended or waits
  abbrev pub HavePassed : ℕ → Run S H → Type 0
  HavePassed n r = (u : ℕ) (other : Thread S) → u < n → HasDone (slice_index_or r.threads.items u other) ⊎ IsHeld p M (W r.shared.turns.items u) r.log (slice_index_or r.threads.items u other)

  -- the threads below one that goes on can't
  lower_stuck : (gone : List ℕ) (t : ℕ) (r s : Run S H) (other : Thread S) (outcomes : List ThreadOutcome) (rest : List Event) (more : List (ℕ × H)) → t < length r.threads.items → AreGoing p M r → AreGone gone r → HavePassed t r → IsSameBut t r s → AreToCome outcomes r rest more → (u : ℕ) → u < t →
      IsStuck p M (W r.shared.turns.items) (starts_of s) (mains_of s) outcomes gone u r.log.events.items rest more
  lower_stuck gone t r s other outcomes rest more low g a passed o c u under =
      subst (λ (ss : List S). IsStuck p M (W r.shared.turns.items) ss (mains_of s) outcomes gone u r.log.events.items rest more) (sym o.starts)
      (subst (λ (ms : List ClassId). IsStuck p M (W r.shared.turns.items) (starts_of r) ms outcomes gone u r.log.events.items rest more) (sym o.mains)
      (stuck_there gone u r other outcomes rest more (omega (arith, under, low)) g a c (passed u other under)))

  -- the lowest thread that can makes an event
  pub lowest_turn : (gone : List ℕ) (t : ℕ) (r s : Run S H) → t < length r.threads.items → AreGoing p M r → AreGoing p M s → HavePassed t r → HadTurnsAlone t r s → HasGone p M U W t r s turn.Event → IsSameBut t r s → IsSameThere t r s → Leads p M U W [] gone r [] gone s
  lowest_turn gone t r s low g going passed x gone_on o h =
      let m = gone_on.0 in
      record {
        mains = o.mains;
        starts = o.starts;
        have_gone = λ a. still_gone gone o h a;
        made = m.event ∷ [];
        events = m.events;
        turned = x.turned;
        turns = x.turns;
        to_come = λ outcomes rest more a. more_to_come outcomes rest m.event x.turned more m.thread x.own gone_on.1 o h a;
        follows = λ a outcomes rest more c f.
            let w = some_item r.threads.items t low in
            lowest m.event x.turned (subst (λ (n : ℕ). AreOf n x.turned) (sym m.thread) x.own)
            (λ u below. lower_stuck gone t r s w outcomes (m.event ∷ rest) (x.turned ++ more) low g a passed o (more_to_come outcomes rest m.event x.turned more m.thread x.own gone_on.1 o h c) u (subst (λ (n : ℕ). u < n) m.thread below))
            (λ d q. subst (λ (n : ℕ). Contains gone n) (sym m.thread) (gave_up_then gone t r w low a (λ n. gone_on.2 w n d (subst (λ (k : ℕ). WaitsFor k r.log.events.items d) m.thread q))))
            (after_event t r s w low going x gone_on o)
            (subst (λ (xs : List (ℕ × H)). Follows p M U W (starts_of s) (mains_of s) outcomes [] gone (r.log.events.items ++ m.event ∷ []) xs rest more) x.turns
            (subst (λ (es : List Event). Follows p M U W (starts_of s) (mains_of s) outcomes [] gone es s.shared.turns.items rest more) m.events f));
      } where
        gave_up_then : (gone : List ℕ) (t : ℕ) (r : Run S H) (w : Thread S) → t < length r.threads.items → AreGone gone r → ((slice_index_or r.threads.items t w).gave_up ≡ false → ⊥) → Contains gone t
        gave_up_then gone t r w low a n = by (slice_index_or r.threads.items t w).gave_up refl where
          by : (b : Bool) → (slice_index_or r.threads.items t w).gave_up ≡ b → Contains gone t
          by true is = (a t w low).0 is
          by false is = absurd (n is)

  -- or it goes on without an event
  pub silent_turn : (gone : List ℕ) (t : ℕ) (r s : Run S H) → t < length r.threads.items → AreGoing p M r → AreGoing p M s → HavePassed t r → HadTurnsAlone t r s → HasGone p M U W t r s turn.Silent → IsSameBut t r s → IsSameThere t r s → Leads p M U W [] gone r [] gone s
  silent_turn gone t r s low g going passed x gone_on o h = record {
    mains = o.mains;
    starts = o.starts;
    have_gone = λ a. still_gone gone o h a;
    made = [];
    events = ap (λ l. l.events.items) gone_on.0 ∙ sym (append-nil r.log.events.items);
    turned = x.turned;
    turns = x.turns;
    to_come = λ outcomes rest more a. turns_to_come outcomes rest x.turned more x.own gone_on.1 o h a;
    follows = λ a outcomes rest more c f.
        let w = some_item r.threads.items t low in
        goes_on t x.turned x.own (subst (λ (n : ℕ). t < n) (sym (length-map s.threads.items (λ v. v.main))) still)
        (λ u under. lower_stuck gone t r s w outcomes rest (x.turned ++ more) low g a passed o (turns_to_come outcomes rest x.turned more x.own gone_on.1 o h c) u under)
        (stuck_before gone_on.0 x (stuck_there gone t s w outcomes rest more still going (still_gone gone o h a) c (gone_on.2 w)))
        (as_before gone_on.0 x f);
  } where
    still : t < length s.threads.items
    still = let many = same_length o in omega (arith, many, low)

  -- one that can't go on is passed over
  pub passes_over : (gone : List ℕ) (t : ℕ) (r s : Run S H) → s.log ≡ r.log → s.shared ≡ r.shared → IsSameBut t r s → IsSameThere t r s → Leads p M U W [] gone r [] gone s
  passes_over gone t r s same shared o h = record {
    mains = o.mains;
    starts = o.starts;
    have_gone = λ a. still_gone gone o h a;
    made = [];
    events = ap (λ l. l.events.items) same ∙ sym (append-nil r.log.events.items);
    turned = [];
    turns = ap (λ x. x.turns.items) shared ∙ sym (append-nil r.shared.turns.items);
    to_come = λ outcomes rest more a. still_to_come outcomes rest more o h a;
    follows = λ a outcomes rest more c f. subst (λ (xs : List (ℕ × H)). Follows p M U W (starts_of s) (mains_of s) outcomes [] gone r.log.events.items xs rest more) (ap (λ x. x.turns.items) shared)
        (subst (λ (es : List Event). Follows p M U W (starts_of s) (mains_of s) outcomes [] gone es s.shared.turns.items rest more) (ap (λ l. l.events.items) same) f);
  }

  -- the lowest of the first threads that waits, where one does; those below it have ended
  abbrev pub IsLowestHeld : ℕ → Run S H → Option ℕ → Type 0
  IsLowestHeld n r None = (u : ℕ) (other : Thread S) → u < n → HasDone (slice_index_or r.threads.items u other)
  IsLowestHeld n r (Some t) = (t < n) × ((other : Thread S) → IsHeld p M (W r.shared.turns.items t) r.log (slice_index_or r.threads.items t other)) × ((u : ℕ) (other : Thread S) → u < t → HasDone (slice_index_or r.threads.items u other))

  done_still : {n : ℕ} {r s : Run S H} → IsSameBut n r s → IsSameThere n r s → (u : ℕ) (other : Thread S) → HasDone (slice_index_or r.threads.items u other) → HasDone (slice_index_or s.threads.items u other)
  done_still o h u other d = (d.0, still_done o h u other d.0 d.1)

  held_still : {n : ℕ} {r s : Run S H} → s.log ≡ r.log → s.shared ≡ r.shared → IsSameBut n r s → (u : ℕ) (other : Thread S) → u ≢ n → IsHeld p M (W r.shared.turns.items u) r.log (slice_index_or r.threads.items u other) → IsHeld p M (W s.shared.turns.items u) s.log (slice_index_or s.threads.items u other)
  held_still {r = r} {s = s} same shared o u other n h =
      subst (λ x. IsHeld p M (W x.turns.items u) s.log (slice_index_or s.threads.items u other)) (sym shared)
      (subst (λ l. IsHeld p M (W r.shared.turns.items u) l (slice_index_or s.threads.items u other)) (sym same) (subst (λ w. IsHeld p M (W r.shared.turns.items u) r.log w) (sym (o.others u other n)) h))

  passed_by : (n : ℕ) (r s : Run S H) → s.log ≡ r.log → s.shared ≡ r.shared → IsSameBut n r s → IsSameThere n r s → HavePassed n r → ((other : Thread S) → HasDone (slice_index_or s.threads.items n other) ⊎ IsHeld p M (W s.shared.turns.items n) s.log (slice_index_or s.threads.items n other)) → HavePassed (n + 1) s
  passed_by n r s same shared o h passed here u other low = by_cases u n
      (λ e. subst (λ (k : ℕ). HasDone (slice_index_or s.threads.items k other) ⊎ IsHeld p M (W s.shared.turns.items k) s.log (slice_index_or s.threads.items k other)) (sym e) (here other))
      (λ apart. ⊎_elim (λ d. inl (done_still o h u other d)) (λ x. inr (held_still same shared o u other apart x)) (passed u other (omega (arith, low, apart))))

  pub passed_waits : (n : ℕ) (r s : Run S H) → HasGone p M U W n r s turn.Waits → IsSameBut n r s → IsSameThere n r s → HavePassed n r → HavePassed (n + 1) s
  passed_waits n r s gone o h passed = passed_by n r s gone.0 gone.1 o h passed (λ other. inr (gone.2 other))

  pub passed_ended : (n : ℕ) (r s : Run S H) (x : Outcome) → HasGone p M U W n r s (turn.Ended x) → IsSameBut n r s → IsSameThere n r s → HavePassed n r → HavePassed (n + 1) s
  passed_ended n r s x gone o h passed = passed_by n r s gone.0 gone.1 o h passed (λ other. inl (x, gone.2 other))

  lower_still : (n : ℕ) (r s : Run S H) (t : ℕ) → s.log ≡ r.log → s.shared ≡ r.shared → IsSameBut n r s → IsSameThere n r s → IsLowestHeld n r (Some t) → IsLowestHeld (n + 1) s (Some t)
  lower_still n r s t same shared o h x =
      let low = x.0 in
      (omega (arith, low), (λ other. held_still same shared o t other (λ e. absurd (omega (arith, low, e))) (x.1 other)), λ u other below. done_still o h u other (x.2 u other below))

  pub lowest_waits : (n : ℕ) (r s : Run S H) (held new : Option ℕ) → (held ≡ None → new ≡ Some n) → ((t : ℕ) → held ≡ Some t → new ≡ Some t) → HasGone p M U W n r s turn.Waits → IsSameBut n r s → IsSameThere n r s → IsLowestHeld n r held → IsLowestHeld (n + 1) s new
  lowest_waits n r s None new first later gone o h x = subst (λ (z : Option ℕ). IsLowestHeld (n + 1) s z) (sym (first refl)) (omega arith, gone.2, λ u other below. done_still o h u other (x u other below))
  lowest_waits n r s (Some t) new first later gone o h x = subst (λ (z : Option ℕ). IsLowestHeld (n + 1) s z) (sym (later t refl)) (lower_still n r s t gone.0 gone.1 o h x)

  pub lowest_ended : (n : ℕ) (r s : Run S H) (held : Option ℕ) (y : Outcome) → HasGone p M U W n r s (turn.Ended y) → IsSameBut n r s → IsSameThere n r s → IsLowestHeld n r held → IsLowestHeld (n + 1) s held
  lowest_ended n r s None y gone o h x = λ u other low. by_cases u n
      (λ e. subst (λ (k : ℕ). HasDone (slice_index_or s.threads.items k other)) (sym e) (y, gone.2 other))
      (λ apart. done_still o h u other (x u other (omega (arith, low, apart))))
  lowest_ended n r s (Some t) y gone o h x = lower_still n r s t gone.0 gone.1 o h x

  -- ---- where none can go on

  gone_more : (t : ℕ) (gone : List ℕ) (u : ℕ) → Contains gone u → Contains (t ∷ gone) u
  gone_more t gone u c = let low = c.1 in (suc c.0, omega (arith, low), c.2)

  gone_before : (t : ℕ) (gone : List ℕ) (u k : ℕ) → u ≢ t → k < length (t ∷ gone) → slice_index_or (t ∷ gone) k u ≡ u → Contains gone u
  gone_before t gone u zero n low is = absurd (n (sym is))
  gone_before t gone u (suc k) n low is = (k, omega (arith, low), is)

  -- the lowest that waits gives up
  pub gave_up_turn : (gone : List ℕ) (t : ℕ) (r s : Run S H) → t < length r.threads.items → AreGoing p M r → ThreadAt r t (IsHeld p M (W r.shared.turns.items t) r.log) → ((u : ℕ) (other : Thread S) → u < length r.threads.items → HasDone (slice_index_or r.threads.items u other) ⊎ IsHeld p M (W r.shared.turns.items u) r.log (slice_index_or r.threads.items u other)) →
      ((u : ℕ) (other : Thread S) → u < length r.threads.items → u < t → HasDone (slice_index_or r.threads.items u other)) → HadTurnsAlone t r s → s.log ≡ r.log → IsSameBut t r s → ThreadAt s t (λ w. w.gave_up ≡ true) → Leads p M U W [] gone r [] (t ∷ gone) s
  gave_up_turn gone t r s low g held all under own same o gave_up = record {
    mains = o.mains;
    starts = o.starts;
    have_gone = λ a u other below. now_gone a u other (omega (arith, many, below));
    made = [];
    events = ap (λ l. l.events.items) same ∙ sym (append-nil r.log.events.items);
    turned = own.turned;
    turns = own.turns;
    to_come = still;
    follows = λ a outcomes rest more c f.
        let w = some_item r.threads.items t low in
        let d = still outcomes rest more c in
        let waits = W r.shared.turns.items in
        let events = r.log.events.items in
        gives_up t own.turned own.own (subst (λ (n : ℕ). t < n) (sym (ap length o.mains ∙ count)) low)
        (subst (λ (ss : List S). IsWaiting p M (waits t) ss (mains_of s) gone t events) (sym o.starts) (subst (λ (ms : List ClassId). IsWaiting p M (waits t) (starts_of r) ms gone t events) (sym o.mains) (held_waits gone t r w low g a (held w))))
        (λ u below. let x = under u w (omega (arith, below, low)) below in done_ended gone u r w x.0 outcomes rest (own.turned ++ more) (omega (arith, below, low)) g a x.1 d)
        (λ u below.
        let inside : u < length r.threads.items = subst (λ (n : ℕ). u < n) (ap length o.mains ∙ count) below in
        subst (λ (ss : List S). IsStuck p M waits ss (mains_of s) outcomes gone u events rest (own.turned ++ more)) (sym o.starts)
        (subst (λ (ms : List ClassId). IsStuck p M waits (starts_of r) ms outcomes gone u events rest (own.turned ++ more)) (sym o.mains) (stuck_there gone u r w outcomes rest (own.turned ++ more) inside g a d (all u w inside))))
        (as_before same own f);
  } where
    many : length s.threads.items ≡ length r.threads.items
    many = same_length o

    count : length (mains_of r) ≡ length r.threads.items
    count = length-map r.threads.items (λ w. w.main)

    now_gone : AreGone gone r → (u : ℕ) (other : Thread S) → u < length r.threads.items → ((slice_index_or s.threads.items u other).gave_up ≡ true → Contains (t ∷ gone) u) × (Contains (t ∷ gone) u → (slice_index_or s.threads.items u other).gave_up ≡ true)
    now_gone a u other below = by_cases u t
        (λ e. ((λ y. (0, omega arith, sym e)), λ c. subst (λ (n : ℕ). (slice_index_or s.threads.items n other).gave_up ≡ true) (sym e) (gave_up other)))
        (λ n. let b = a u other below in let q = ap (λ w. w.gave_up) (o.others u other n) in ((λ y. gone_more t gone u (b.0 (sym q ∙ y))), λ c. q ∙ b.1 (gone_before t gone u c.0 n c.1 c.2)))

    still : (outcomes : List ThreadOutcome) (rest : List Event) (more : List (ℕ × H)) → AreToCome outcomes s rest more → AreToCome outcomes r rest (own.turned ++ more)
    still outcomes rest more a u other below x q = by_cases u t
        (λ e. absurd (let z : None ≡ Some x = sym (held other).done ∙ subst (λ (n : ℕ). (slice_index_or r.threads.items n other).done ≡ Some x) e q in cc))
        (λ n. let b = a u other (omega (arith, many, below)) x (ap (λ w. w.done) (o.others u other n) ∙ q) in (b.0, none_of u t own.turned more n own.own b.1, b.2 ∙ ap (λ w. Some (outcome_by w.gave_up x)) (o.others u other n)))

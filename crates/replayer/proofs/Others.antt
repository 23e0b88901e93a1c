-- What an event of one thread leaves of where another stands.
use Rattle.std.proofs.Common.{◌≡◌, ◌≢◌, inl, inr, ℕ, ◌<◌, List, [], ◌∷◌, Option, Some, None, Bool, true, false, refl, sym, ap, subst, ◌∙◌}
use Rattle.std.specs.Prelude.{MatchOption}
use Rattle.hierarchy.specs.declared.class.ClassId.{ClassId}
use Rattle.hierarchy.specs.LinkedProgram.{LinkedProgram}
use Rattle.init_core.specs.declared.event.Event.{Event}
use Rattle.init_core.specs.declared.frames.Outcome.{Outcome}
use Rattle.init_core.specs.Decisions.{waits}
use Rattle.init_core.specs.Interleaving.{of_thread, of_class, is_class}
use Rattle.init_core.specs.ProcedureWord.{ThreadWordOf}
use Rattle.init_core.specs.Stands.{AreOfOthers}
use Rattle.init_core.proofs.Knowing.{others_go_on}
use Rattle.init_core.proofs.Seeing.{waits_others_from}
use Rattle.bodies.specs.Making.{Making, maker_of}
use Rattle.bodies.specs.ThreadStands.{OutsideOf, NoneOpenOf, ThreadStands}
use Rattle.bodies.proofs.ThreadSteps.{goes_of}
use Rattle.replayer.specs.declared.log.EventLog.{EventLog}
use Rattle.replayer.specs.declared.thread.Thread.{Thread}
use Rattle.replayer.specs.declared.thread.Turn.{Turn}
use Rattle.replayer.specs.declared.thread.Turn.TheVariants as turn
use Rattle.replayer.specs.AllGoing.{IsThere}
use Rattle.replayer.specs.Going.{Going, HasLeft, IsOver, IsPaused, IsSameThread, IsWhy, Resting, TurnsTo, at_class, in_body}
use Rattle.replayer.specs.Logged.{IsLog, HasMade, histories}
use Rattle.replayer.proofs.Acting.{kept_calm, not_gone}
use Rattle.replayer.proofs.Logged.{own_same}
use Rattle.replayer.proofs.Stepping.{look_goes_on}

-- it is none of t's
of_others : (t : ℕ) (e : Event) → e.thread ≢ t → (c : ClassId) → AreOfOthers t (of_class c (e ∷ []))
of_others t e other c = at (is_class c e.class) refl where
  at : (b : Bool) → is_class c e.class ≡ b → AreOfOthers t (of_class c (e ∷ []))
  at true q = rw q (other, tt)
  at false q = rw q tt

-- what t has done is the same
pub own_as_was : (t u : ℕ) (l m : EventLog) → HasMade t l m → u ≢ t → of_thread u m.events.items ≡ of_thread u l.events.items
own_as_was t u l m made other = ap (of_thread u) made.events ∙ own_same u l.events.items made.event (λ q. other (sym q ∙ made.thread))

module _ {S : Type 0} (p : LinkedProgram) (M : Making S) where
  others_going : (t : ℕ) (l m : EventLog) (w : Thread S) → HasMade t l m → IsLog p m → w.number ≢ t → Going p M l w → Going p M m w
  others_going t l m w made log other g = record {
    number = subst (λ x. w.number < x.value) (sym made.threads) g.number;
    main = g.main;
    log = log;
    stands = others_go_on p w.number (maker_of p M) (OutsideOf p w.number M w.start.value w.main w.in_main) (NoneOpenOf p w.number M w.start.value w.main w.in_main) (goes_of M p w.number w.start.value w.main w.in_main) made.sees apart
        (subst (λ (es : List Event). ThreadStands p w.number M w.start.value w.main w.in_main w.procedure es (histories l.events.items) w.bodies) (sym (own_as_was t w.number l m made other)) g.stands);
    begun = g.begun;
    reason = λ e q. subst (λ x. IsWhy p M w.bodies x.value w.gave_up e) (sym made.threads) (g.reason e q);
    calm = λ n c q. g.calm n c (sym (ap (waits w.number) (made.sees.adds c) ∙ waits_others_from false w.number (histories l.events.items c) (of_class c (made.event ∷ [])) (apart c)) ∙ q);
    gone = g.gone;
  } where
    apart : (c : ClassId) → AreOfOthers w.number (of_class c (made.event ∷ []))
    apart c = of_others w.number made.event (λ q. other (sym q ∙ made.thread)) c

  others_rest : (t : ℕ) (l m : EventLog) (w : Thread S) → HasMade t l m → IsLog p m → w.number ≢ t → Resting p M l w → Resting p M m w
  others_rest t l m w made log other (inl g) = inl (others_going t l m w made log other g)
  others_rest t l m w made log other (inr held) = inr (record {
    doing = (let d = held.doing in record { from = d.from; going = others_going t l m (record w { bodies = d.from }) made log other d.going; body = d.body; goes_on = d.goes_on; does = d.does; fits = d.fits });
    waits = held.waits;
  })

  others_over : (t : ℕ) (l m : EventLog) (r : Outcome) (w : Thread S) → HasMade t l m → w.number ≢ t → HasLeft p M l r w → HasLeft p M m r w
  others_over t l m r w made other o = record {
    number = subst (λ x. w.number < x.value) (sym made.threads) o.number;
    end = o.end;
    word = subst (λ (es : List Event). ThreadWordOf p w.number (maker_of p M) w.start.value w.main es r o.end) (sym (own_as_was t w.number l m made other)) o.word;
    ends = o.ends;
    reason = λ e q. subst (λ x. IsWhy p M o.end x.value w.gave_up e) (sym made.threads) (o.reason e q);
    gave_up = o.gave_up;
  }

  pub others_there : (t : ℕ) (l m : EventLog) (w : Thread S) → HasMade t l m → IsLog p m → w.number ≢ t → IsThere p M l w → IsThere p M m w
  others_there t l m w made log other there = at w.done there where
    at : (o : Option Outcome) → MatchOption o (Resting p M l w) (λ r. HasLeft p M l r w) → MatchOption o (Resting p M m w) (λ r. HasLeft p M m r w)
    at None x = others_rest t l m w made log other x
    at (Some r) x = others_over t l m r w made other x

  -- it has ended, and left what it held
  pub ended_over : (l : EventLog) (w x : Thread S) (r : Outcome) → IsSameThread (record w { done = Some r }) x → M.ends w.bodies x.bodies → IsOver p M l r w → IsThere p M l x
  ended_over l w x r same ends h = subst (λ (o : Option Outcome). MatchOption o (Resting p M l x) (λ r. HasLeft p M l r x)) (sym same.done) (record {
    number = subst (λ (t : ℕ). t < l.threads.value) (sym same.number) h.number;
    end = w.bodies;
    word = subst (λ (t : ℕ). ThreadWordOf p t (maker_of p M) x.start.value x.main (of_thread t l.events.items) r w.bodies) (sym same.number)
        (subst (λ (s : S). ThreadWordOf p w.number (maker_of p M) s x.main (of_thread w.number l.events.items) r w.bodies) (sym (ap (λ s. s.value) same.start))
        (subst (λ (m : ClassId). ThreadWordOf p w.number (maker_of p M) w.start.value m (of_thread w.number l.events.items) r w.bodies) (sym same.main) h.word));
    ends = ends;
    reason = λ e q. subst (λ (b : Bool). IsWhy p M w.bodies l.threads.value b e) (sym same.gave_up) (h.reason e q);
    gave_up = λ y. h.gave_up (sym same.gave_up ∙ y);
  })

  -- a thread that can't go on, or does
  pub there_of : (l : EventLog) (w : Thread S) → w.done ≡ None → Resting p M l w → IsThere p M l w
  there_of l w none x = subst (λ (o : Option Outcome). MatchOption o (Resting p M l w) (λ r. HasLeft p M l r w)) (sym none) x

  pub rests_of : (l : EventLog) (w : Thread S) → w.done ≡ None → IsThere p M l w → Resting p M l w
  rests_of l w none x = subst (λ (o : Option Outcome). MatchOption o (Resting p M l w) (λ r. HasLeft p M l r w)) none x

  pub paused_rests : {W : Bool → S → Type 0} (l : EventLog) (w : Thread S) → IsPaused p M W l w → Resting p M l w
  paused_rests l w (at_class c g q f used) = inl g
  paused_rests l w (in_body x) = x.resting

  -- one that waits hasn't given up
  pub paused_calm : {W : Bool → S → Type 0} (l : EventLog) (w : Thread S) → IsPaused p M W l w → w.gave_up ≡ false
  paused_calm l w (at_class c g q f used) = not_gone p M w.gave_up (λ y. g.gone y (look_goes_on p M l w c q g))
  paused_calm l w (in_body x) = kept_calm p M l w x

  -- and so by what else says that it waits
  pub paused_by : {V W : Bool → S → Type 0} (l : EventLog) (w : Thread S) → ((in_body : Bool) → V in_body w.bodies → W in_body w.bodies) → IsPaused p M V l w → IsPaused p M W l w
  paused_by l w f (at_class c g q x used) = at_class c g q x (f false used)
  paused_by l w f (in_body x) = in_body (record { resting = x.resting; body = x.body; goes_on = x.goes_on; waits = f true x.waits })

  pub turns_by : (V W : Bool → S → Type 0) (l : EventLog) (w : Thread S) (m : EventLog) (x : Thread S) (t : Turn) → ((in_body : Bool) → V in_body x.bodies → W in_body x.bodies) → TurnsTo p M V l w m x t → TurnsTo p M W l w m x t
  turns_by V W l w m x turn.Event f h = h
  turns_by V W l w m x turn.Silent f h = h
  turns_by V W l w m x turn.Comes f h = (paused_by m x f h.0, h.1)
  turns_by V W l w m x turn.Waits f h = (paused_by m x f h.0, h.1)
  turns_by V W l w m x (turn.Ended r) f h = h

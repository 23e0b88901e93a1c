-- What the threads of a run do with what they share each does beside others that run freely.
use Rattle.std.proofs.Common.{◌≡◌, ℕ, List, Option, Some, map, ap, ◌∙◌}
use Rattle.std.specs.Prelude.{length, option_map, slice_get}
use Rattle.std.proofs.lemmas.Option.{slice_get-map}
use Rattle.hierarchy.specs.declared.class.ClassId.{ClassId}
use Rattle.hierarchy.specs.LinkedProgram.{LinkedProgram}
use Rattle.init_core.specs.declared.event.Event.{Event}
use Rattle.init_core.specs.declared.event.Kind.{Kind}
use Rattle.init_core.specs.declared.event.Kind.TheVariants as kind
use Rattle.init_core.specs.declared.frames.Completed.{Completed}
use Rattle.init_core.specs.declared.frames.Outcome.{Outcome}
use Rattle.init_core.specs.declared.frames.Outcome.TheVariants.{Normal, Abrupt, Ended}
use Rattle.init_core.specs.ProcedureWord.{Maker, Word, word, AfterWait, recurs, finds_initialized, finds_erroneous, gives_up, completes, fails, is_ended, need_fails, need_is_ended, lacks_memory, Begun, begins, and_then, completed, ItemsOf, no_items, requests, uses, prints, Body, stops, stops_ended, ThreadWordOf, ran, threw, was_ended}
use Rattle.bodies.specs.declared.report.Limit.{Limit}
use Rattle.bodies.specs.declared.report.Limit.TheVariants.{Steps, Patience, Memory}
use Rattle.bodies.specs.declared.report.Limits.{Limits}
use Rattle.bodies.specs.declared.report.Report.{Report}
use Rattle.bodies.specs.declared.report.ThreadOutcome.{ThreadOutcome}
use Rattle.bodies.specs.declared.report.ThreadOutcome.TheVariants as outcome
use Rattle.bodies.specs.declared.does.Does.{Does}
use Rattle.bodies.specs.Sharing.{DoesFreely, DoesWith, Sharing, Used, free_bodies, says, says_freely, touches, touches_freely, used_at_start, used_bodies}
use Rattle.bodies.specs.Making.{Making, HasCome, stays, comes, Stops, UsesField, maker_of}
use Rattle.bodies.specs.Runs.{IsEndedAt, IsOutcome, IsRunOf}
use Rattle.replayer.specs.OrderedRun.{IsOrderedRunOf, MayGiveUp}

-- an item of a list whose items are changed
item_before : {A B : Type 0} (f : A → B) (xs : List A) (t : ℕ) (x : A) → slice_get xs t ≡ Some x → slice_get (map f xs) t ≡ Some (f x)
item_before f xs t x is = slice_get-map f xs t ∙ ap (option_map f) is

module _ {S H : Type 0} (M : Sharing S H) where
  abbrev Free : Making S
  Free = free_bodies M

  does_freely : {last : Option Completed} {d : Does} {s z : Used S H} → DoesWith M last d s z → DoesFreely M last d s.state z.state
  does_freely (says x) = says_freely x.step
  does_freely (touches x touch more) = touches_freely touch.met touch.left x.step touch.step (does_freely more)

  come_freely : {last : Option Completed} {s u : Used S H} → HasCome (used_bodies M) s last u → HasCome Free s.state last u.state
  come_freely stays = stays
  come_freely (comes d on x) = comes d on (does_freely x)

  use_freely : (p : LinkedProgram) (s z : Used S H) (c : ClassId) (k : Kind) → UsesField p (used_bodies M) s c k z → UsesField p Free s.state c k z.state
  use_freely p s z c (kind.Gets f v) x = (x.0.state, does_freely x.1, x.2.step)
  use_freely p s z c (kind.Puts f v) x = (x.0, does_freely x.1, x.2)
  use_freely p s z c k x = absurd x

  stop_freely : (s z : Used S H) (last : Option Completed) (r : Outcome) → Stops (used_bodies M) s last r z → Stops Free s.state last r z.state
  stop_freely s z last Normal x = does_freely x
  stop_freely s z last (Abrupt e) x = does_freely x
  stop_freely s z last (Ended e) x = (x.0.state, come_freely x.1, x.2.step)

  module _ (p : LinkedProgram) (t : ℕ) where
    abbrev Shared : Maker
    Shared = maker_of p (used_bodies M)

    mutual
      word_freely : {s z : Used S H} {c : ClassId} {w : List Event} {r : Outcome} → Word p t Shared s c w r z → Word p t (maker_of p Free) s.state c w r z.state
      word_freely (word before x) = word before (rest_freely x)

      rest_freely : {s z : Used S H} {c : ClassId} {w : List Event} {r : Outcome} → AfterWait p t Shared s c w r z → AfterWait p t (maker_of p Free) s.state c w r z.state
      rest_freely recurs = recurs
      rest_freely finds_initialized = finds_initialized
      rest_freely finds_erroneous = finds_erroneous
      rest_freely (gives_up machine) = gives_up machine
      rest_freely (completes g st b) = completes (begun_freely g) st.step (body_freely b)
      rest_freely (fails g st b replaced is) = fails (begun_freely g) st.step (body_freely b) (replaced.met, (replaced.left, replaced.step)) is
      rest_freely (is_ended g st b) = is_ended (begun_freely g) st.step (body_freely b)
      rest_freely (need_fails others e g x) = need_fails others e (begun_freely g) (word_freely x)
      rest_freely (need_is_ended others e g x) = need_is_ended others e (begun_freely g) (word_freely x)
      rest_freely (lacks_memory others e g) = lacks_memory others e (begun_freely g)

      begun_freely : {s z : Used S H} {c : ClassId} {first : List ClassId} {w : List Event} → Begun p t Shared s c first w z → Begun p t (maker_of p Free) s.state c first w z.state
      begun_freely begins = begins
      begun_freely (and_then g x) = and_then (begun_freely g) (word_freely x)

      items_freely : {s z : Used S H} {last : Option Completed} {w : List Event} → ItemsOf p t Shared s last w z → ItemsOf p t (maker_of p Free) s.state last w z.state
      items_freely no_items = no_items
      items_freely (requests i on within ask x) = requests (items_freely i) on within (does_freely ask) (word_freely x)
      items_freely (uses {u = u} {z = z} {c = c} k is i made) = uses k is (items_freely i) (use_freely p u z c k made)
      items_freely (prints text i on made) = prints text (items_freely i) on (does_freely made)

      body_freely : {s z : Used S H} {w : List Event} {r : Outcome} → Body p t Shared s w r z → Body p t (maker_of p Free) s.state w r z.state
      body_freely (stops {u = u} {z = z} {last = last} {r = r} i on is made) = stops (items_freely i) on is (stop_freely u z last r made)
      body_freely (stops_ended {u = u} {z = z} {c = c} {e = e} i made) = stops_ended (items_freely i) (stop_freely u z (Some (completed c (Ended e))) (Ended e) made)

    thread_freely : {s z : Used S H} {m : ClassId} {w : List Event} {r : Outcome} → ThreadWordOf p t Shared s m w r z → ThreadWordOf p t (maker_of p Free) s.state m w r z.state
    thread_freely (ran x enters b) = ran (word_freely x) enters.step (body_freely b)
    thread_freely (threw x) = threw (word_freely x)
    thread_freely (was_ended x) = was_ended (word_freely x)

  ended_freely : (p : LinkedProgram) (limits : Limits) (s : Used S H) (l : Limit) (e : ClassId) → IsEndedAt p (used_bodies M) limits s l e → IsEndedAt p Free limits s.state l e
  ended_freely p limits s Steps e x = x
  ended_freely p limits s Patience e x = x
  ended_freely p limits s Memory e x = x

  outcome_freely : (p : LinkedProgram) (limits : Limits) (s : Used S H) (r : Outcome) (o : ThreadOutcome) → IsOutcome p (used_bodies M) limits s r o → IsOutcome p Free limits s.state r o
  outcome_freely p limits s Normal o x = x
  outcome_freely p limits s (Abrupt e) o x = x
  outcome_freely p limits s (Ended e) (outcome.Ended l) x = ended_freely p limits s l e x
  outcome_freely p limits s (Ended e) outcome.Normal x = x
  outcome_freely p limits s (Ended e) (outcome.Abrupt d) x = x

  -- an ordered run is a run of bodies that run freely
  pub run_freely : {p : LinkedProgram} {first : H} {starts : List S} {mains : List ClassId} {order : List ℕ} {r : Report} {limits : Limits} → IsOrderedRunOf p M first starts mains order r → MayGiveUp (used_bodies M) (length mains) limits → IsRunOf p Free starts mains limits r
  run_freely {p = p} {starts = starts} {limits = limits} ordered may =
      let x = ordered.run limits may in
      record {
        legal = x.legal;
        events = x.events;
        labels = x.labels;
        count = x.count;
        outcomes = λ t m start is_main is_start.
            let y = x.outcomes t m (used_at_start start) is_main (item_before used_at_start starts t start is_start) in
            (y.0, y.1, record { result = y.2.result; end = y.2.end.state; word = thread_freely p t y.2.word; outcome = outcome_freely p limits y.2.end y.2.result y.0 y.2.outcome });
        finished = x.finished;
        output = x.output;
      }

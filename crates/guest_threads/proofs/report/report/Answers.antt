use Rattle.std.proofs.Common.{◌≡◌, ℕ, ◌<◌, List, map, length, sym, subst, ap, ◌∙◌, refl, arith}
use Rattle.std.specs.List.{AllByRecursion}
use Rattle.std.specs.List.Sorted.{IsPermutation}
use Rattle.std.proofs.lemmas.List.Sorted.{IsPermutation-refl}
use Rattle.bodies.specs.declared.report.ThreadOutcome.{ThreadOutcome}
use Rattle.bodies.specs.Output.{output_of}
use Rattle.init_core.specs.declared.event.Event.{Event}
use Rattle.init_core.specs.Label.{label_of}
use Rattle.init_core.specs.Lawful.{IsLawful}
use Rattle.init_core.specs.ProgramEvents.{IsProgramEvent}
use Rattle.init_lock.specs.Log.{AllAllowed}
use Rattle.init_lock.specs.Closing.{numbers, written, HasJournals, FollowsAll}
use Rattle.init_lock.specs.Known.{PassFacts, TableFacts, IsAway}
use Rattle.bodies.specs.Sharing.{free_bodies}
use Rattle.guest_threads.specs.declared.guarded.Guarded.{Guarded}
use Rattle.guest_threads.specs.declared.work.Worked.{Worked}
use Rattle.guest_threads.specs.Drawing.{MayDraw, Follows, merged}
use Rattle.bodies.specs.Runs.{IsRunOf}
use Rattle.guest_threads.specs.MergedJournals.{IsMergeOf}
use Rattle.guest_threads.proofs.Headline.{headline}
use Rattle.guest_threads.proofs.Joining.{pass_numbers, pass_tables, pass_away, words, outcomes_are, outcome_count, events_are, lawful_are, journals_are, merge_is}
use Rattle.guest_threads.proofs.report.report.Goals as goal

pub finish-records-requires-clause-passes : goal.finish-records-requires-clause-passes
finish-records-requires-clause-passes g c =
    subst (λ (ns : List ℕ). IsPermutation (numbers 0 c.args.table.threads) ns)
    (sym (pass_numbers c.args.table c.args.done.items c.requires.back) ∙ ap (map (λ (x : PassFacts Guarded Event). x.number)) (sym c.in_ok-passes.ensures.passes))
    (IsPermutation-refl (numbers 0 c.args.table.threads))

pub finish-records-requires-clause-table : goal.finish-records-requires-clause-table
finish-records-requires-clause-table g c = subst (λ (xs : List (PassFacts Guarded Event)). AllByRecursion (λ p. p.table ≡ c.args.table.id) xs) (sym c.in_ok-passes.ensures.passes) (pass_tables c.args.table c.args.done.items c.requires.back)

pub finish-records-requires-clause-away : goal.finish-records-requires-clause-away
finish-records-requires-clause-away g c = subst (λ (xs : List (PassFacts Guarded Event)). AllByRecursion (λ p. IsAway p.places) xs) (sym c.in_ok-passes.ensures.passes) (pass_away c.args.table c.args.done.items c.requires.back)

pub returns : goal.returns
returns g c =
    let making = g.B.Bodies.making in
    let table = c.args.table in
    let ds = c.args.done.items in
    let rs = c.finish-records.result.records.items in
    let f = c.finish-records.ensures in
    let log = f.log.0 in
    let is : c.in_ok-passes.passes.items ≡ map (λ (w : Worked). w.pass) ds = c.in_ok-passes.ensures.passes in
    let journals : HasJournals log (map (λ (w : Worked). w.pass) ds) = subst (λ (xs : List (PassFacts Guarded Event)). HasJournals log xs) is f.log.2 in
    let follows : AllByRecursion (FollowsAll (λ (x y : Guarded). Follows x.record y.record) rs) (map (λ (w : Worked). w.pass) ds) = subst (λ (xs : List (PassFacts Guarded Event)). AllByRecursion (FollowsAll (λ (x y : Guarded). Follows x.record y.record) rs) xs) is f.follows in
    let places : table.places ≡ length rs = sym f.places ∙ c.finish-records.result.records.ok.0 in
    let lawful : AllByRecursion (λ (r : Guarded). IsLawful r.record.fields r.record.events) rs = subst (λ (xs : List Guarded). AllByRecursion (λ (r : Guarded). IsLawful r.record.fields r.record.events) xs) c.as_slice.ensures.value c.in_ok-labels.ensures.lawful in
    record {
      reports = λ k starts same plan all.
          let p = k.program in
          let mains = k.mains in
          let many : length rs ≡ length p.classes = sym places ∙ (ap (λ (t : TableFacts). t.places) (sym same) ∙ plan.places) in
          let fair : AllAllowed (length mains) (length rs) MayDraw log = subst (λ (n : ℕ). AllAllowed n (length rs) MayDraw log) (ap (λ (t : TableFacts). t.threads) (sym same) ∙ plan.threads) (subst (λ (n : ℕ). AllAllowed table.threads n MayDraw log) places f.log.1) in
          let some : 0 < length mains = omega (arith, plan.mains.some) in
          let h = headline p mains log rs fair f.log.5 many (words making k starts ds all log rs journals follows) f.log.4 (lawful_are making k starts ds all log rs journals follows some many lawful) in
          let events : c.in_ok-events.events.items ≡ merged log = c.in_ok-events.ensures log (journals_are making k starts ds all log rs journals follows (length rs) fair c.finish-records.result.journals.items (f.journals ∙ ap (map written) is)) in
          let merges : c.from_vec.result ≡ merged log = c.from_vec.ensures ∙ events in
          let prints : c.in_ok-output.output ≡ output_of (merged log) = c.in_ok-output.ensures ∙ ap output_of (c.as_slice-2.ensures.value ∙ events) in
          let run : IsRunOf p (free_bodies (making p)) starts mains k.limits (record { outcomes = map (λ (w : Worked). w.outcome) ds; events = merged log; labels = c.in_ok-labels.labels; output = output_of (merged log) }) = record {
            legal = h.0;
            events = subst (λ (n : ℕ). AllByRecursion (λ e. IsProgramEvent p n e) (merged log)) plan.threads (events_are making k starts ds all log rs journals follows (length rs) fair);
            labels = c.in_ok-labels.ensures.labels ∙ (ap (λ (xs : List Guarded). map (λ r. label_of r.record.events) xs) c.as_slice.ensures.value ∙ h.1);
            count = outcome_count making k starts ds all;
            outcomes = outcomes_are making k starts ds all log rs journals follows (length rs) fair;
            finished = h.2;
            output = refl;
          } in (
            subst (IsMergeOf (map (λ (w : Worked). w.pass.journal) ds)) (sym merges) (merge_is making k starts ds all log rs journals follows (length rs) fair),
            subst (λ (xs : List ℕ). IsRunOf p (free_bodies (making p)) starts mains k.limits (record { outcomes = c.in_ok-passes.outcomes; events = c.from_vec.result; labels = c.in_ok-labels.labels; output = xs })) (sym prints)
                (subst (λ (es : List Event). IsRunOf p (free_bodies (making p)) starts mains k.limits (record { outcomes = c.in_ok-passes.outcomes; events = es; labels = c.in_ok-labels.labels; output = output_of (merged log) })) (sym merges)
                (subst (λ (os : List ThreadOutcome). IsRunOf p (free_bodies (making p)) starts mains k.limits (record { outcomes = os; events = merged log; labels = c.in_ok-labels.labels; output = output_of (merged log) })) (sym c.in_ok-passes.ensures.outcomes) run)),
          );
    }

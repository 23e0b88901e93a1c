use Rattle.std.proofs.Common.{◌≡◌, ◌≤◌, List, length, map, subst, sym, ◌∙◌, refl, arith}
use Rattle.init_core.specs.declared.event.TheConstants.{THREADS}
use Rattle.bodies.specs.Sharing.{free_bodies}
use Rattle.guest_threads.specs.AllWork.{PlanFacts, IsPlan}
use Rattle.bodies.specs.Runs.{AreMains, IsRunOf}
use Rattle.guest_threads.specs.Working.{IsTableOf}
use Rattle.guest_threads.proofs.Joining.{none_kept, new_passes, new_count, jobs_may_work, jobs_numbers, are_back, journal_count}
use Rattle.guest_threads.proofs.run.run_threads.Goals as goal

pub new-requires-clause-records : goal.new-requires-clause-records
new-requires-clause-records g c = none_kept c.args.program.now c.in_ok-records.records.items c.in_ok-records.ensures.prepared

pub jobs-requires : goal.jobs-requires
jobs-requires g c = c.requires.bodies ∙ sym (c.in_ok-table.passes.ok.0 ∙ new_count c.in_ok-table.passes.items (length c.args.mains.now) c.in_ok-table.ensures.numbers)

plan_of : (k : PlanFacts) → AreMains k.program k.mains → k.table.places ≡ length k.program.classes → k.table.threads ≡ length k.mains → IsPlan k
plan_of k mains places threads = record { mains = mains; places = places; threads = threads }

table_of : (k : PlanFacts) → IsPlan k → length k.program.classes ≤ 1024 → length k.mains ≤ 16 → IsTableOf k.program k.table
table_of k plan few most = record { classes = plan.places; few_classes = few; few_threads = subst (λ n. n ≤ THREADS) (sym plan.threads) most }

pub run_each-requires-clause-passes : goal.run_each-requires-clause-passes
run_each-requires-clause-passes g c κs within =
    let k : PlanFacts = record { program = c.args.program.now; table = c.in_ok-table.table; mains = c.args.mains.now; limits = c.args.limits } in
    let rs = c.in_ok-records.records in
    let threads = c.in_ok-table.ensures.threads in
    let plan = plan_of k c.requires.mains (c.in_ok-table.ensures.places ∙ c.in_ok-records.ensures.count) threads in
    let many : length rs.items ≡ length c.args.program.now.classes = sym rs.ok.0 ∙ c.in_ok-records.ensures.count in
    jobs_may_work k c.in_ok-jobs.jobs.items c.in_ok-table.passes.items c.in_ok-jobs.ensures.passes
    (new_passes k rs.items c.in_ok-table.passes.items 0 (length c.args.mains.now) (table_of k plan c.prepared.ensures.few c.requires.mains.few) c.in_ok-records.ensures.prepared many (omega arith) c.in_ok-table.ensures.numbers c.in_ok-table.ensures.passes)

pub run_each-requires-clause-numbers : goal.run_each-requires-clause-numbers
run_each-requires-clause-numbers g c κs within = jobs_numbers c.in_ok-jobs.jobs.items c.in_ok-table.passes.items _ c.in_ok-jobs.ensures.passes c.in_ok-table.ensures.numbers

pub report-requires : goal.report-requires
report-requires g c =
    let k : PlanFacts = record { program = c.args.program.now; table = c.in_ok-table.table; mains = c.args.mains.now; limits = c.args.limits } in
    let plan = plan_of k c.requires.mains (c.in_ok-table.ensures.places ∙ c.in_ok-records.ensures.count) c.in_ok-table.ensures.threads in
    record { back = are_back g.B.Bodies.making k (map (λ j. j.bodies) c.in_ok-jobs.jobs.items) c.in_ok-done.done.items plan c.in_ok-done.ensures.done }

pub returns : goal.returns
returns g c =
    let k : PlanFacts = record { program = c.args.program.now; table = c.in_ok-table.table; mains = c.args.mains.now; limits = c.args.limits } in
    let plan = plan_of k c.requires.mains (c.in_ok-table.ensures.places ∙ c.in_ok-records.ensures.count) c.in_ok-table.ensures.threads in
    let starts = map (λ j. j.bodies) c.in_ok-jobs.jobs.items in
    let reports = c.in_ok-report.ensures.reports k starts refl plan c.in_ok-done.ensures.done in
    record {
      merged = record {
        journals = map (λ w. w.pass.journal) c.in_ok-done.done.items;
        count = journal_count g.B.Bodies.making k starts c.in_ok-done.done.items c.in_ok-done.ensures.done;
        merge = reports.0;
      };
      ran = subst (λ (starts : List g.row.B.Denot). IsRunOf k.program (free_bodies (g.B.Bodies.making k.program)) starts k.mains k.limits c.in_ok-report.field-0) c.in_ok-jobs.ensures.bodies reports.1;
    }

use Rattle.std.proofs.Common.{ℕ, ◌+◌, sym, ap, ◌∙◌, arith}
use Rattle.init_lock.specs.Known.{PassFacts}
use Rattle.init_lock.proofs.Passes.{taken_later}
use Rattle.init_lock.proofs.table.InitTable.take_later.Goals as goal

pub look_and_try-requires-clause-table : goal.look_and_try-requires-clause-table
look_and_try-requires-clause-table g c = ap (λ z. z.table) c.loop.invariant.0 ∙ c.requires.table

pub look_and_try-requires-clause-place : goal.look_and_try-requires-clause-place
look_and_try-requires-clause-place g c = c.requires.place

pub returns-in-Some-look_and_try-clause-taken : goal.returns-in-Some-look_and_try-clause-taken
returns-in-Some-look_and_try-clause-taken g c =
    taken_later g.R.Keeps.kept g.R.Keeps.may_draw g.R.Keeps.settles g.R.Keeps.follows c.loop.invariant.0 c.in-Some-look_and_try.ensures.taken

pub returns-in-Some-look_and_try-clause-misses : goal.returns-in-Some-look_and_try-clause-misses
returns-in-Some-look_and_try-clause-misses g c =
    λ some. let now = c.in-Some-look_and_try.ensures.misses in let left = c.loop.invariant.2 some in omega arith

pub returns-then-left-eq1-clause-patient : goal.returns-then-left-eq1-clause-patient
returns-then-left-eq1-clause-patient g c = λ none. let left = c.loop.invariant.1 none in omega arith

pub returns-then-left-eq1-clause-gave_up : goal.returns-then-left-eq1-clause-gave_up
returns-then-left-eq1-clause-gave_up g c =
    let i = c.loop.invariant in
    let left = i.2 (λ none. let left = i.1 none in omega arith) in
    let was = c.args.pass.now in
    c.in_default.ensures.none ∙ ap (λ (p : PassFacts g.row.R.Denot g.row.R-Event.Denot). record p { misses = c.loop.pass.misses + 1 }) i.0
    ∙ ap (λ (n : ℕ). record was { misses = n }) (omega arith)

pub loop-preserved : goal.loop-preserved
loop-preserved g c =
    let i = c.loop.invariant in
    let was = c.args.pass.now in
    let missed = c.in_default.ensures.none in
    let one = ap (λ z. z.misses) missed in (
      missed ∙ ap (λ (p : PassFacts g.row.R.Denot g.row.R-Event.Denot). record p { misses = c.loop.pass.misses + 1 }) i.0
          ∙ ap (λ (n : ℕ). record was { misses = n }) (sym one),
      (λ none. let left = i.1 none in omega arith),
      (λ some. let left = i.2 some in (omega arith, omega arith)),
    )

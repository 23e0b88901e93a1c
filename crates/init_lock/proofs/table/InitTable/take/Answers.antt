use Rattle.std.proofs.Common.{◌≡◌, ◌≢◌, ℕ, ◌+◌, ◌-◌, ap, sym, ◌∙◌, arith}
use Rattle.init_lock.specs.Known.{PassFacts}
use Rattle.init_lock.proofs.Passes.{taken_later}
use Rattle.init_lock.proofs.table.InitTable.take.Goals as goal

pub take_later-requires-clause-table : goal.take_later-requires-clause-table
take_later-requires-clause-table g c = ap (λ z. z.table) c.in_default.ensures.none ∙ c.requires.table

pub returns-then-patience-eq1-clause-gave_up : goal.returns-then-patience-eq1-clause-gave_up
returns-then-patience-eq1-clause-gave_up g c =
    let was = c.args.pass.now in
    c.in_default.ensures.none ∙ ap (λ (n : ℕ). record was { misses = was.misses + n }) (sym c.if-patience-eq1.true)

pub returns-in-Ok-clause-taken : goal.returns-in-Ok-clause-taken
returns-in-Ok-clause-taken g c =
    taken_later g.R.Keeps.kept g.R.Keeps.may_draw g.R.Keeps.settles g.R.Keeps.follows c.in_default.ensures.none c.in-Ok.ensures.taken

pub returns-in-Ok-clause-misses : goal.returns-in-Ok-clause-misses
returns-in-Ok-clause-misses g c = λ some.
    let one = ap (λ z. z.misses) c.in_default.ensures.none in
    let more = c.if-patience-eq1.false in
    let left = c.in-Ok.ensures.misses (λ none. absurd (omega arith)) in
    omega arith

pub returns-in-Err-clause-patient : goal.returns-in-Err-clause-patient
returns-in-Err-clause-patient g c = λ none. c.in-Err.ensures.patient (omega arith)

pub returns-in-Err-clause-gave_up : goal.returns-in-Err-clause-gave_up
returns-in-Err-clause-gave_up g c =
    let was = c.args.pass.now in
    let missed = c.in_default.ensures.none in
    let one = ap (λ z. z.misses) missed in
    let more = c.in-Err.ensures.patient in
    let less = c.saturating_sub.ensures in
    c.in-Err.ensures.gave_up
    ∙ ap (λ (p : PassFacts g.row.R.Denot g.row.R-Event.Denot). record p { misses = p.misses + c.saturating_sub.result }) missed
    ∙ ap (λ (n : ℕ). record was { misses = n }) (omega arith)

use Rattle.std.proofs.Common.{rules, ◌<◌, ◌≤◌, ◌+◌, [], None, Some, length, sym, subst, ⊎_elim, ◌∙◌, arith, refl, ap}
use Rattle.std.specs.Option.{option_or}
use Rattle.bodies.specs.Sharing.{used_bodies}
use Rattle.replayer.specs.declared.thread.Turn.TheVariants as turn
use Rattle.replayer.specs.AllGoing.{HasGone}
use Rattle.replayer.specs.OrderedRun.{HasUsed, WaitsAfter}
use Rattle.replayer.proofs.Followed.{IsLowestHeld, leads_nowhere, leads_on, lowest_ended, lowest_turn, lowest_waits, passed_ended, passed_waits, passes_over, same_length, silent_turn}
use Rattle.replayer.proofs.run.Run+Used+B+B+Shared+B+Shared.go_lowest.Goals.{in-Waits, in-Ended}
use Rattle.replayer.proofs.run.Run+Used+B+B+Shared+B+Shared.go_lowest.Goals as goal

pub threads-init : goal.threads-init
threads-init g c =
    let p = c.args.program.now in
    let M = used_bodies (g.B.Bodies.making p) in
    let U = HasUsed c.args.self.now.shared.first.value in
    let W = WaitsAfter (g.B.Bodies.making p) c.args.self.now.shared.first.value in
    record {
      going = c.requires.going;
      in_turn = c.requires.in_turn;
      first = refl;
      many = refl;
      leads = λ gone. leads_nowhere p M U W [] gone c.args.self.now;
      passed = λ u other low. absurd (omega (arith, low));
      held = λ u other low. absurd (omega (arith, low));
    }

pub returns-in-Event-clause-found : goal.returns-in-Event-clause-found
returns-in-Event-clause-found g c gone =
    let p = c.args.program.now in
    let M = used_bodies (g.B.Bodies.making p) in
    let U = HasUsed c.args.self.now.shared.first.value in
    let W = WaitsAfter (g.B.Bodies.making p) c.args.self.now.shared.first.value in
    let n = c.threads.number in
    let r = c.threads.self in
    let s = c.go.new.self in
    let e = c.in_ok-go.ensures in
    let on = e.alone.still in
    let low : n < length r.threads.items = search rules in
    let own = e.alone.turned in
    let goes = subst (λ f. HasGone p M (HasUsed f.value) (WaitsAfter (g.B.Bodies.making p) f.value) n r s c.in_ok-go.field-0) c.threads.invariant.first e.gone in
    leads_on p M U W (c.threads.invariant.leads gone) (⊎_elim
    (λ is. lowest_turn p M U W gone n r s low c.threads.invariant.going on.going c.threads.invariant.passed own (subst (HasGone p M U W n r s) is goes) e.alone.others e.there)
    (λ is. let silent : HasGone p M U W n r s turn.Silent = subst (HasGone p M U W n r s) is goes in silent_turn p M U W gone n r s low c.threads.invariant.going on.going c.threads.invariant.passed own silent e.alone.others e.there)
    c.in-Event.is)

pub threads-preserved : goal.threads-preserved
threads-preserved g c =
    let p = c.args.program.now in
    let M = used_bodies (g.B.Bodies.making p) in
    let U = HasUsed c.args.self.now.shared.first.value in
    let W = WaitsAfter (g.B.Bodies.making p) c.args.self.now.shared.first.value in
    let n = c.threads.number in
    let r = c.threads.self in
    let s = c.go.new.self in
    let e = c.in_ok-go.ensures in
    let on = e.alone.still in
    let o = e.alone.others in
    let h = e.there in
    let goes = subst (λ f. HasGone p M (HasUsed f.value) (WaitsAfter (g.B.Bodies.making p) f.value) n r s c.in_ok-go.field-0) c.threads.invariant.first e.gone in
    elim c.match-branch-2.branch [
      | in-Waits w ↦ (let gone_on = subst (HasGone p M U W n r s) w.in-Waits.is goes in record {
        going = on.going;
        in_turn = on.in_turn;
        first = on.first ∙ c.threads.invariant.first;
        many = same_length p M U W o ∙ c.threads.invariant.many;
        leads = λ gone. leads_on p M U W (c.threads.invariant.leads gone) (passes_over p M U W gone n r s gone_on.0 gone_on.1 o h);
        passed = passed_waits p M U W n r s gone_on o h c.threads.invariant.passed;
        held = lowest_waits p M U W n r s c.threads.held c.match-branch-2.held (λ q. w.held-is ∙ (w.or-held.ensures ∙ ap (λ z. option_or z (Some n)) q)) (λ t q. w.held-is ∙ (w.or-held.ensures ∙ ap (λ z. option_or z (Some n)) q)) gone_on o h c.threads.invariant.held;
      })
      | in-Ended w ↦ (let gone_on = subst (HasGone p M U W n r s) w.in-Ended.is goes in record {
        going = on.going;
        in_turn = on.in_turn;
        first = on.first ∙ c.threads.invariant.first;
        many = same_length p M U W o ∙ c.threads.invariant.many;
        leads = λ gone. leads_on p M U W (c.threads.invariant.leads gone) (passes_over p M U W gone n r s gone_on.0 gone_on.1 o h);
        passed = passed_ended p M U W n r s _ gone_on o h c.threads.invariant.passed;
        held = subst (IsLowestHeld p M U W (n + 1) s) (sym w.held-is) (lowest_ended p M U W n r s c.threads.held _ gone_on o h c.threads.invariant.held);
      })
    ]

pub returns-in-Some-clause-found : goal.returns-in-Some-clause-found
returns-in-Some-clause-found g c =
    let p = c.args.program.now in
    let M = used_bodies (g.B.Bodies.making p) in
    let U = HasUsed c.args.self.now.shared.first.value in
    let W = WaitsAfter (g.B.Bodies.making p) c.args.self.now.shared.first.value in
    let many = c.threads.invariant.many in
    let x : IsLowestHeld p M U W c.threads.number c.threads.self (Some c.in-Some.number) = subst (IsLowestHeld p M U W c.threads.number c.threads.self) c.in-Some.is c.threads.invariant.held in
    let end : length c.threads.self.threads.items ≤ c.threads.number = search rules in
    let within : c.threads.number ≤ length c.threads.self.threads.items = search rules in
    let under = x.0 in
    (c.threads.invariant.leads, omega (arith, under, within), x.1, (λ u other low. c.threads.invariant.passed u other (omega (arith, low, end))), λ u other low below. x.2 u other below)

pub go-requires-clause-going : goal.go-requires-clause-going
go-requires-clause-going g c = c.threads.invariant.going

pub go-requires-clause-in_turn : goal.go-requires-clause-in_turn
go-requires-clause-in_turn g c = c.threads.invariant.in_turn

pub returns-in-Event-clause-still : goal.returns-in-Event-clause-still
returns-in-Event-clause-still g c =
    let on = c.in_ok-go.ensures.alone.still in
    record { going = on.going; in_turn = on.in_turn; first = on.first ∙ c.threads.invariant.first }

pub returns-in-Some-clause-still : goal.returns-in-Some-clause-still
returns-in-Some-clause-still g c = record { going = c.threads.invariant.going; in_turn = c.threads.invariant.in_turn; first = c.threads.invariant.first }

pub returns-in-None-clause-still : goal.returns-in-None-clause-still
returns-in-None-clause-still g c = record { going = c.threads.invariant.going; in_turn = c.threads.invariant.in_turn; first = c.threads.invariant.first }

pub returns-in-None-clause-found : goal.returns-in-None-clause-found
returns-in-None-clause-found g c =
    let p = c.args.program.now in
    let M = used_bodies (g.B.Bodies.making p) in
    let U = HasUsed c.args.self.now.shared.first.value in
    let W = WaitsAfter (g.B.Bodies.making p) c.args.self.now.shared.first.value in
    let done : IsLowestHeld p M U W c.threads.number c.threads.self None = subst (IsLowestHeld p M U W c.threads.number c.threads.self) c.in-None.is c.threads.invariant.held in
    let end : length c.threads.self.threads.items ≤ c.threads.number = search rules in
    (c.threads.invariant.leads, λ u other low. done u other (omega (arith, low, end)))

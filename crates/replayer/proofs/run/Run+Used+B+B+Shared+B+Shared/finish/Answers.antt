use Rattle.std.proofs.Common.{◌≡◌, ℕ, List, ◌∷◌, [], refl, sym, subst, ◌∙◌}
use Rattle.bodies.specs.Sharing.{used_bodies}
use Rattle.replayer.specs.declared.run.Found.TheVariants as found
use Rattle.replayer.specs.AllGoing.{AreGoing, IsFound, IsHeld, Leads, ThreadAt}
use Rattle.replayer.specs.OrderedRun.{HasUsed, WaitsAfter}
use Rattle.replayer.specs.Turning.{AreInTurn}
use Rattle.replayer.proofs.Followed.{gave_up_turn, leads_nowhere, leads_on}
use Rattle.replayer.proofs.run.Run+Used+B+B+Shared+B+Shared.finish.Goals.{in-GoesOn, in-Held}
use Rattle.replayer.proofs.run.Run+Used+B+B+Shared+B+Shared.finish.Goals as goal

pub rounds-init : goal.rounds-init
rounds-init g c =
    let p = c.args.program.now in
    let M = used_bodies (g.B.Bodies.making p) in
    let U = HasUsed c.args.self.now.shared.first.value in
    let W = WaitsAfter (g.B.Bodies.making p) c.args.self.now.shared.first.value in
    record { going = c.requires.going; in_turn = c.requires.in_turn; first = refl; leads = ([], leads_nowhere p M U W [] [] c.args.self.now) }

pub give_up-requires-clause-held : goal.give_up-requires-clause-held
give_up-requires-clause-held g c =
    let p = c.args.program.now in
    let M = used_bodies (g.B.Bodies.making p) in
    let U = HasUsed c.rounds.self.shared.first.value in
    let W = WaitsAfter (g.B.Bodies.making p) c.rounds.self.shared.first.value in
    let r = c.go_lowest.new.self in
    let held : IsFound p M U W c.rounds.self r (found.Held c.in-Held.number) = subst (IsFound p M U W c.rounds.self r) c.in-Held.is c.in_ok-go_lowest.ensures.found in
    subst (λ f. ThreadAt r c.in-Held.number (IsHeld p M (WaitsAfter (g.B.Bodies.making p) f.value r.shared.turns.items c.in-Held.number) r.log)) (sym c.in_ok-go_lowest.ensures.still.first) held.2

pub rounds-preserved : goal.rounds-preserved
rounds-preserved g c =
    let p = c.args.program.now in
    let M = used_bodies (g.B.Bodies.making p) in
    let U = HasUsed c.args.self.now.shared.first.value in
    let W = WaitsAfter (g.B.Bodies.making p) c.args.self.now.shared.first.value in
    let gone = c.rounds.invariant.leads.0 in
    let before = c.rounds.invariant.leads.1 in
    let r = c.go_lowest.new.self in
    let e = c.in_ok-go_lowest.ensures.still in
    let found_so = subst (λ f. IsFound p M (HasUsed f.value) (WaitsAfter (g.B.Bodies.making p) f.value) c.rounds.self r c.in_ok-go_lowest.field-0) c.rounds.invariant.first c.in_ok-go_lowest.ensures.found in
    elim c.match-branch-2.branch [
      | in-GoesOn w ↦ (let on : IsFound p M U W c.rounds.self r found.GoesOn = subst (IsFound p M U W c.rounds.self r) w.in-GoesOn.is found_so in
          subst (λ s. record { going : AreGoing p M s; in_turn : AreInTurn s; first : s.shared.first ≡ c.args.self.now.shared.first; leads : (gone : List ℕ) × Leads p M U W [] [] c.args.self.now [] gone s }) (sym w.self-is)
          (record { going = e.going; in_turn = e.in_turn; first = e.first ∙ c.rounds.invariant.first; leads = (gone, leads_on p M U W before (on gone)) }))
      | in-Held w ↦ (let t = w.in-Held.number in
          let held : IsFound p M U W c.rounds.self r (found.Held t) = subst (IsFound p M U W c.rounds.self r) w.in-Held.is found_so in
          let up = w.give_up.ensures in
          let still = up.alone.still in
          subst (λ s. record { going : AreGoing p M s; in_turn : AreInTurn s; first : s.shared.first ≡ c.args.self.now.shared.first; leads : (gone : List ℕ) × Leads p M U W [] [] c.args.self.now [] gone s }) (sym w.self-is)
          (record {
            going = still.going;
            in_turn = still.in_turn;
            first = still.first ∙ (e.first ∙ c.rounds.invariant.first);
            leads = (t ∷ gone, leads_on p M U W (leads_on p M U W before (held.0 gone)) (gave_up_turn p M U W gone t r w.give_up.new.self held.1 e.going held.2 held.3 held.4 up.alone.turned up.log up.alone.others up.gave_up));
          }))
    ]

pub returns-in-Ended-clause-follows : goal.returns-in-Ended-clause-follows
returns-in-Ended-clause-follows g c =
    let p = c.args.program.now in
    let M = used_bodies (g.B.Bodies.making p) in
    let U = HasUsed c.args.self.now.shared.first.value in
    let W = WaitsAfter (g.B.Bodies.making p) c.args.self.now.shared.first.value in
    let r = c.go_lowest.new.self in
    let found_so = subst (λ f. IsFound p M (HasUsed f.value) (WaitsAfter (g.B.Bodies.making p) f.value) c.rounds.self r c.in_ok-go_lowest.field-0) c.rounds.invariant.first c.in_ok-go_lowest.ensures.found in
    let over : IsFound p M U W c.rounds.self r found.Ended = subst (IsFound p M U W c.rounds.self r) c.in-Ended.is found_so in
    (c.rounds.invariant.leads.0, leads_on p M U W c.rounds.invariant.leads.1 (over.0 c.rounds.invariant.leads.0))

pub go_lowest-requires-clause-going : goal.go_lowest-requires-clause-going
go_lowest-requires-clause-going g c = c.rounds.invariant.going

pub go_lowest-requires-clause-in_turn : goal.go_lowest-requires-clause-in_turn
go_lowest-requires-clause-in_turn g c = c.rounds.invariant.in_turn

pub give_up-requires-clause-going : goal.give_up-requires-clause-going
give_up-requires-clause-going g c = c.in_ok-go_lowest.ensures.still.going

pub give_up-requires-clause-in_turn : goal.give_up-requires-clause-in_turn
give_up-requires-clause-in_turn g c = c.in_ok-go_lowest.ensures.still.in_turn

pub returns-in-Ended-clause-still : goal.returns-in-Ended-clause-still
returns-in-Ended-clause-still g c =
    let on = c.in_ok-go_lowest.ensures.still in
    record { going = on.going; in_turn = on.in_turn; first = on.first ∙ c.rounds.invariant.first }

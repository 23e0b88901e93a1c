use Rattle.std.proofs.Common.{◌<◌, ◌+◌, ℕ, [], List, length, drop, refl, sym, subst, ◌∙◌}
use Rattle.std.specs.Prelude.{slice_index_or}
use Rattle.std.proofs.lemmas.List.{drop_all, drop_more}
use Rattle.bodies.specs.Sharing.{used_bodies}
use Rattle.replayer.specs.AllGoing.{HasGone, Leads}
use Rattle.replayer.specs.OrderedRun.{HasUsed, WaitsAfter}
use Rattle.replayer.proofs.Followed.{all_at, leads_nowhere, leads_on, one_turn, same_length}
use Rattle.replayer.proofs.run.Run+Used+B+B+Shared+B+Shared.follow.Goals as goal

pub order-init : goal.order-init
order-init g c =
    let p = c.args.program.now in
    let M = used_bodies (g.B.Bodies.making p) in
    let U = HasUsed c.args.self.now.shared.first.value in
    let W = WaitsAfter (g.B.Bodies.making p) c.args.self.now.shared.first.value in
    record { going = c.requires.going; in_turn = c.requires.in_turn; first = refl; leads = leads_nowhere p M U W c.args.order.now [] c.args.self.now; many = refl }

pub go-requires-clause-number : goal.go-requires-clause-number
go-requires-clause-number g c = subst (λ (n : ℕ). slice_index_or c.args.order.now c.order.number-index 0 < n) (sym c.order.invariant.many) (all_at (λ t. t < length c.args.self.now.threads.items) c.args.order.now c.order.number-index 0 c.requires.order c.order-test.true)

pub order-preserved : goal.order-preserved
order-preserved g c =
    let p = c.args.program.now in
    let M = used_bodies (g.B.Bodies.making p) in
    let U = HasUsed c.args.self.now.shared.first.value in
    let W = WaitsAfter (g.B.Bodies.making p) c.args.self.now.shared.first.value in
    let t = slice_index_or c.args.order.now c.order.number-index 0 in
    let r = c.order.self in
    let s = c.go.new.self in
    let e = c.in_ok-go.ensures in
    let on = e.alone.still in
    let low : t < length r.threads.items = subst (λ (n : ℕ). t < n) (sym c.order.invariant.many) (all_at (λ u. u < length c.args.self.now.threads.items) c.args.order.now c.order.number-index 0 c.requires.order c.order-test.true) in
    let gone = subst (λ f. HasGone p M (HasUsed f.value) (WaitsAfter (g.B.Bodies.making p) f.value) t r s c.in_ok-go.field-0) c.order.invariant.first e.gone in
    let one = one_turn p M U W (drop (c.order.number-index + 1) c.args.order.now) t r s c.in_ok-go.field-0 low on.going e.alone.turned gone e.alone.others e.there in
    let so_far = subst (λ (ns : List ℕ). Leads p M U W c.args.order.now [] c.args.self.now ns [] r) (drop_more c.args.order.now c.order.number-index 0 c.order-test.true) c.order.invariant.leads in
    record { going = on.going; in_turn = on.in_turn; first = on.first ∙ c.order.invariant.first; leads = leads_on p M U W so_far one; many = same_length p M U W e.alone.others ∙ c.order.invariant.many }

pub go-requires-clause-going : goal.go-requires-clause-going
go-requires-clause-going g c = c.order.invariant.going

pub go-requires-clause-in_turn : goal.go-requires-clause-in_turn
go-requires-clause-in_turn g c = c.order.invariant.in_turn

pub returns-clause-still : goal.returns-clause-still
returns-clause-still g c = record { going = c.order.invariant.going; in_turn = c.order.invariant.in_turn; first = c.order.invariant.first }

pub returns-clause-follows : goal.returns-clause-follows
returns-clause-follows g c =
    let p = c.args.program.now in
    let M = used_bodies (g.B.Bodies.making p) in
    let U = HasUsed c.args.self.now.shared.first.value in
    let W = WaitsAfter (g.B.Bodies.making p) c.args.self.now.shared.first.value in
    subst (λ (ns : List ℕ). Leads p M U W c.args.order.now [] c.args.self.now ns [] c.order.self) (drop_all c.order.number-index c.args.order.now c.order-test.false) c.order.invariant.leads

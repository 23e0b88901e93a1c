use Rattle.std.proofs.Common.{◌≡◌, ◌∷◌, ◌+◌, ◌-◌, ◌<◌, ℕ, List, suc, length, refl, arith, append_assoc}
use Rattle.hierarchy.specs.LinkedProgram.{id}
use Rattle.init_core.specs.declared.event.Event.{Event}
use Rattle.init_core.specs.Interleaving.{labels_from, of_class}
use Rattle.init_core.specs.Label.{label_of}
use Rattle.replayer.proofs.log.EventLog.labels.Goals as goal

next : (events : List Event) (n count : ℕ) → n < count → labels_from n (count - n) events ≡ label_of (of_class (id n) events) ∷ labels_from (n + 1) (count - (n + 1)) events
next events n count within = let e : count - n ≡ suc (count - (n + 1)) = omega arith in rw e refl

pub state-requires : goal.state-requires
state-requires c = let many : length c.args.self.now.states.items ≡ length c.args.program.now.classes = c.requires.count in omega (arith, c.loop-number-test.true, c.len-number-end.ensures.count, many)

pub loop-number-preserved : goal.loop-number-preserved
loop-number-preserved c =
    let here : c.loop-number.number < length c.args.program.now.classes = omega (arith, c.loop-number-test.true, c.len-number-end.ensures.count) in
    let label = next c.args.self.now.events.items c.loop-number.number (length c.args.program.now.classes) here in
    rw (c.in_ok-push.ensures.ok, c.label.ensures, (c.state.ensures c.args.program.now c.requires).state.label) (simp append_assoc (rw label at c.loop-number.invariant))

use Rattle.std.proofs.Common.{rules, ◌≡◌, false, true, sym, subst}
use Rattle.bodies.specs.Sharing.{DoesWith, says}
use Rattle.bodies.specs.declared.does.Does.TheVariants as does
use Rattle.replayer.proofs.Touching.{may_used, touched_again}
use Rattle.replayer.proofs.Turned.{none_turned, then_turned}
use Rattle.replayer.proofs.used.Used+B+B+Shared.next.Goals as goal

pub returns-in_default : goal.returns-in_default
returns-in_default g c = record {
  does = c.touches.invariant.touched.does _ _ (says c.ask-does.ensures.does);
  fits = c.touches.invariant.touched.fits _ _ (may_used c.args.program.now (g.B.Bodies.making c.args.program.now) c.touches.told c.ask-does.result c.ask-does.new.self c.ask-does.ensures.fits);
  held = λ q. absurd (c.in_default.not-Touches q);
  turned = then_turned c.touches.invariant.turned (none_turned c.args.number c.touches.shared c.touches.self.uses c.ask-does.new.self.uses c.ask-does.ensures.does.uses);
}

pub returns-then-not-branch-clause-does : goal.returns-then-not-branch-clause-does
returns-then-not-branch-clause-does g c =
    let is : c.in_ok-touch.field-0 ≡ false = search rules in
    subst (λ z. DoesWith (g.B.Bodies.making c.args.program.now) c.args.last does.Touches c.args.self.now z) (sym (c.in_ok-touch.ensures.still is)) (c.touches.invariant.touched.does does.Touches _ (says c.in-Touches.ensures.does))

pub touches-preserved : goal.touches-preserved
touches-preserved g c =
    let is : c.in_ok-touch.field-0 ≡ true = search rules in
    record {
      touched = touched_again c.args.program.now (g.B.Bodies.making c.args.program.now) c.touches.invariant.touched c.in-Touches.ensures.does (c.in_ok-touch.ensures.done is);
      turned = then_turned (then_turned c.touches.invariant.turned (none_turned c.args.number c.touches.shared c.touches.self.uses c.ask-does.new.self.uses c.ask-does.ensures.does.uses)) (c.in_ok-touch.ensures.turned is);
    }

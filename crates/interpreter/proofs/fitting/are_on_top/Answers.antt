use Rattle.std.proofs.Common.{◌≡◌, true, false, sym}
use Rattle.frames.specs.Activations.{operands_of}
use Rattle.interpreter.proofs.OnTop.{ends_with, next_fits, next_unfit, one_less}
use Rattle.interpreter.proofs.fitting.are_on_top.Goals as goal

pub returns-then-not-is_fit : goal.returns-then-not-is_fit
returns-then-not-is_fit c =
    let out : c.is_fit.result ≡ false = c.if-not-is_fit.true in (
      (λ h. let e : false ≡ true = h in cc e),
      (λ h. absurd (next_unfit c.args.program.now c.args.heap.now c.loop-rest.rest.now _ _ (operands_of c.args.frames.now) c.loop-rest.depth c.operand.result (sym c.operand.ensures) (ends_with c.loop-rest.rest.now _ c.in-len1-up.len_at_least) (λ f. let in_it : c.is_fit.result ≡ true = c.is_fit.ensures.1 f in cc (out, in_it)) (c.loop-rest.invariant.1.0 h))),
    )

pub loop-rest-preserved : goal.loop-rest-preserved
loop-rest-preserved c =
    let step = next_fits c.args.program.now c.args.heap.now c.loop-rest.rest.now _ _ (operands_of c.args.frames.now) c.loop-rest.depth c.operand.result (sym c.operand.ensures) (ends_with c.loop-rest.rest.now _ c.in-len1-up.len_at_least) (c.is_fit.ensures.0 c.if-not-is_fit.false) in
    (one_less c.loop-rest.depth c.loop-rest.rest.now c.args.types.now c.in-len1-up.len_at_least c.loop-rest.invariant.0, ((λ h. step.0 (c.loop-rest.invariant.1.0 h)), (λ h. c.loop-rest.invariant.1.1 (step.1 h))))

use Rattle.std.proofs.Common.{◌≡◌, true, false, sym}
use Rattle.frames.specs.Activations.{operands_of}
use Rattle.interpreter.proofs.OnTop.{ends_with, next_asked, next_plain, one_less}
use Rattle.interpreter.proofs.fitting.are_plain.Goals as goal

pub returns-then-not-is_plain : goal.returns-then-not-is_plain
returns-then-not-is_plain c =
    let out : c.is_plain.result ≡ false = c.if-not-is_plain.true in (
      (λ h. let e : false ≡ true = h in cc e),
      (λ h. absurd (next_asked c.loop-rest.rest.now _ _ (operands_of c.args.frames.now) c.loop-rest.depth c.operand.result (sym c.operand.ensures) (ends_with c.loop-rest.rest.now _ c.in-len1-up.len_at_least) (λ f. let in_it : c.is_plain.result ≡ true = c.is_plain.ensures.1 f in cc (out, in_it)) (c.loop-rest.invariant.1.0 h))),
    )

pub loop-rest-preserved : goal.loop-rest-preserved
loop-rest-preserved c =
    let step = next_plain c.loop-rest.rest.now _ _ (operands_of c.args.frames.now) c.loop-rest.depth c.operand.result (sym c.operand.ensures) (ends_with c.loop-rest.rest.now _ c.in-len1-up.len_at_least) (c.is_plain.ensures.0 c.if-not-is_plain.false) in
    (one_less c.loop-rest.depth c.loop-rest.rest.now c.args.types.now c.in-len1-up.len_at_least c.loop-rest.invariant.0, ((λ h. step.0 (c.loop-rest.invariant.1.0 h)), (λ h. c.loop-rest.invariant.1.1 (step.1 h))))

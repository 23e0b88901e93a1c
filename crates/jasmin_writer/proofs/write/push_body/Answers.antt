use Rattle.std.proofs.Common.{◌≡◌, ◌+◌, ◌++◌, ℕ, List, length, drop, subst, ap, arith}
use Rattle.jasmin_writer.specs.Canonical.{ended_all, code_places, body_lines}
use Rattle.jasmin_writer.proofs.Body.{goes_on, is_done, next, drop_all}
use Rattle.jasmin_writer.proofs.write.push_body.Goals as goal

pub loop-instruction-preserved : goal.loop-instruction-preserved
loop-instruction-preserved c =
    let ps : List ℕ = code_places c.args.code.now in
    let total : List ℕ = c.args.text.now.text ++ ended_all (body_lines ps 0 c.args.code.now.instructions) in
    let i : ℕ = c.loop-instruction.instruction-index in
    let e = next c.args.code.now.instructions c.as_slice-instruction-items.result.now i c.instruction-item.result c.as_slice-instruction-items.ensures c.loop-instruction-test.true c.instruction-item.is in
    let count : length c.as_slice-instruction-items.result.now ≡ length c.args.code.now.instructions = ap length c.as_slice-instruction-items.ensures in (
      (λ h.
          let instruction = c.push_instruction.ensures h in
          let label = c.push_place.ensures instruction.0 in
          let before = c.loop-instruction.invariant.0 label.0 in
          let so_far = subst (λ (z : List _). c.loop-instruction.text.text ++ ended_all (body_lines ps c.loop-instruction.place z) ≡ total) e before.1 in
          (before.0, goes_on ps c.loop-instruction.place c.instruction-item.result (drop (i + 1) c.args.code.now.instructions) c.loop-instruction.text.text c.push_place.new.text.text c.push_instruction.new.text.text total _ (c.requires.each c.loop-instruction.place (omega (arith, c.loop-instruction.invariant.1))) label.1 instruction.1 so_far)),
      omega (arith, c.loop-instruction.invariant.1),
    )

pub returns : goal.returns
returns c =
    let ps : List ℕ = code_places c.args.code.now in
    let total : List ℕ = c.args.text.now.text ++ ended_all (body_lines ps 0 c.args.code.now.instructions) in
    let i : ℕ = c.loop-instruction.instruction-index in
    let e = drop_all c.args.code.now.instructions c.as_slice-instruction-items.result.now i c.as_slice-instruction-items.ensures c.loop-instruction-test.false in
    let count : length c.as_slice-instruction-items.result.now ≡ length c.args.code.now.instructions = ap length c.as_slice-instruction-items.ensures in
    λ h.
    let label = c.push_place-2.ensures h in
    let before = c.loop-instruction.invariant.0 label.0 in
    let so_far = subst (λ (z : List _). c.loop-instruction.text.text ++ ended_all (body_lines ps c.loop-instruction.place z) ≡ total) e before.1 in
    (before.0, is_done ps c.loop-instruction.place c.loop-instruction.text.text c.push_place-2.new.text.text total _ (c.requires.each c.loop-instruction.place (omega (arith, c.loop-instruction.invariant.1))) label.1 so_far)

use Rattle.std.proofs.Common.{◌≡◌, ◌++◌, ◌+◌, ◌-◌, ◌<◌, ℕ, suc, length, refl, arith, append_assoc}
use Rattle.hierarchy.specs.LinkedProgram.{LinkedProgram, id}
use Rattle.cli.specs.NeedsText.{needs_from, needs_line}
use Rattle.cli.proofs.needed.write_needs.Goals as goal

next : (p : LinkedProgram) (n count : ℕ) → n < count → needs_from p n (count - n) ≡ needs_line p (id n) ++ needs_from p (n + 1) (count - (n + 1))
next p n count within = let e : count - n ≡ suc (count - (n + 1)) = omega arith in rw e refl

pub loop-number-preserved : goal.loop-number-preserved
loop-number-preserved c =
    let here : c.loop-number.number < length c.args.program.now.classes = omega (arith, c.loop-number-test.true, c.len-number-end.ensures.count) in
    let line = next c.args.program.now c.loop-number.number (length c.args.program.now.classes) here in
    λ h. let written = c.write_line.ensures h in rw written.1 (simp append_assoc (simp append_assoc at (rw line at (c.loop-number.invariant written.0))))

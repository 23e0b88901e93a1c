use Rattle.std.proofs.Common.{◌∷◌, [], ℕ, get_or, refl}
use Rattle.std.specs.Prelude.{ℤ, pos}
use Rattle.jasmin_writer.proofs.Marks.{marked_more, marked_all}
use Rattle.jasmin_writer.proofs.mark.mark_cases.Goals as goal

pub loop-case-preserved : goal.loop-case-preserved
loop-case-preserved c = marked_more (λ (k : ℤ × ℕ). k.1 ∷ []) c.args.marks.now.items c.loop-case.marks.items c.mark.new.marks.items c.args.cases.now c.loop-case.case-index (get_or c.args.cases.now c.loop-case.case-index (pos 0, 0)) (pos 0, 0) c.loop-case-test.true refl c.mark.ensures c.loop-case.invariant

pub returns : goal.returns
returns c = marked_all (λ (k : ℤ × ℕ). k.1 ∷ []) c.args.marks.now.items c.loop-case.marks.items c.args.cases.now c.loop-case.case-index c.loop-case-test.false c.loop-case.invariant

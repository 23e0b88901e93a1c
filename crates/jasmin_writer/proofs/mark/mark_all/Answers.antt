use Rattle.std.proofs.Common.{◌∷◌, [], ℕ, get_or, refl}
use Rattle.jasmin_writer.proofs.Marks.{marked_more, marked_all}
use Rattle.jasmin_writer.proofs.mark.mark_all.Goals as goal

pub loop-place-preserved : goal.loop-place-preserved
loop-place-preserved c = marked_more (λ (p : ℕ). p ∷ []) c.args.marks.now.items c.loop-place.marks.items c.mark.new.marks.items c.args.all.now c.loop-place.place-index (get_or c.args.all.now c.loop-place.place-index 0) 0 c.loop-place-test.true refl c.mark.ensures c.loop-place.invariant

pub returns : goal.returns
returns c = marked_all (λ (p : ℕ). p ∷ []) c.args.marks.now.items c.loop-place.marks.items c.args.all.now c.loop-place.place-index c.loop-place-test.false c.loop-place.invariant

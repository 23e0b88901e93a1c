use Rattle.std.proofs.Common.{◌∷◌, []}
use Rattle.jasmin_writer.proofs.Marks.{then_marked}
use Rattle.jasmin_writer.proofs.mark.mark_handler.Goals as goal

pub returns : goal.returns
returns c = then_marked _ _ _ (c.args.handler.now.from ∷ []) (c.args.handler.now.to ∷ c.args.handler.now.handler ∷ []) c.mark.ensures (then_marked _ _ _ (c.args.handler.now.to ∷ []) (c.args.handler.now.handler ∷ []) c.mark-2.ensures c.mark-3.ensures)

use Rattle.std.proofs.Common.{sym}
use Rattle.jasmin_writer.specs.Canonical.{handler_places}
use Rattle.jasmin_writer.proofs.Marks.{marked_more, marked_all}
use Rattle.jasmin_writer.proofs.mark.mark_handlers.Goals as goal

pub loop-handler-preserved : goal.loop-handler-preserved
loop-handler-preserved c = marked_more handler_places c.args.marks.now.items c.loop-handler.marks.items c.mark_handler.new.marks.items c.args.handlers.now c.loop-handler.handler-index c.handler-item.result c.handler-item.result c.loop-handler-test.true (sym c.handler-item.is) c.mark_handler.ensures c.loop-handler.invariant

pub returns : goal.returns
returns c = marked_all handler_places c.args.marks.now.items c.loop-handler.marks.items c.args.handlers.now c.loop-handler.handler-index c.loop-handler-test.false c.loop-handler.invariant

use Rattle.std.proofs.Common.{sym}
use Rattle.jasmin_writer.specs.Canonical.{instruction_places}
use Rattle.jasmin_writer.proofs.Marks.{marked_more, marked_all}
use Rattle.jasmin_writer.proofs.mark.mark_instructions.Goals as goal

pub loop-instruction-preserved : goal.loop-instruction-preserved
loop-instruction-preserved c = marked_more instruction_places c.args.marks.now.items c.loop-instruction.marks.items c.mark_instruction.new.marks.items c.args.instructions.now c.loop-instruction.instruction-index c.instruction-item.result c.instruction-item.result c.loop-instruction-test.true (sym c.instruction-item.is) c.mark_instruction.ensures c.loop-instruction.invariant

pub returns : goal.returns
returns c = marked_all instruction_places c.args.marks.now.items c.loop-instruction.marks.items c.args.instructions.now c.loop-instruction.instruction-index c.loop-instruction-test.false c.loop-instruction.invariant

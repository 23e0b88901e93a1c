use Rattle.interpreter.proofs.InterfaceCalls.{calls_interface}
use Rattle.interpreter.proofs.call_leads.call_interface.Goals as goal

pub returns-in-At : goal.returns-in-At
returns-in-At c = calls_interface c.args.program.now c.args.heap.now c.args.frames.now c.args.named c.args.class c.args.method c.parameters-types.result.now c.is_of_class-implements.result c.operand-object.result c.in-At.receiver c.find_receiver.result c.run_interface.result
    c.parameters-types.ensures c.operand-object.ensures c.is_of_class-implements.ensures c.find_receiver.ensures c.in-At.is c.run_interface.ensures

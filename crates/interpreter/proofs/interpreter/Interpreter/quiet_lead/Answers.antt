use Rattle.interpreter.proofs.Quietly.{leads_always, not_quiet}
use Rattle.interpreter.proofs.interpreter.Interpreter.quiet_lead.Goals as goal

pub returns-then-is_quiet-clause-quiet : goal.returns-then-is_quiet-clause-quiet
returns-then-is_quiet-clause-quiet c = (c.asks_nothing.ensures.0 c.if-not-asks_nothing.false, c.is_quiet.ensures.0 c.if-is_quiet.true)

pub returns-then-is_quiet-clause-always : goal.returns-then-is_quiet-clause-always
returns-then-is_quiet-clause-always c = leads_always c.args.program.now c.args.self.now.frames c.args.at c.args.code.now c.args.op c.lead_of-lead.result c.new-nothing.result (c.asks_nothing.ensures.0 c.if-not-asks_nothing.false) (c.is_quiet.ensures.0 c.if-is_quiet.true) c.new-nothing.ensures c.lead_of-lead.ensures

pub returns-clause-none : goal.returns-clause-none
returns-clause-none c = λ k may leads is. not_quiet c.args.program.now c.args.self.now.frames c.args.at c.args.code.now c.args.op c.lead_of-lead.result k c.new-nothing.result c.is_quiet.result c.new-nothing.ensures c.lead_of-lead.ensures c.is_quiet.ensures c.if-is_quiet.false may leads is

use Rattle.interpreter.proofs.interpreter.Interpreter.exchange.Goals as goal

pub returns-clause-own : goal.returns-clause-own
returns-clause-own c = rw (c.swap.ensures.x_after, c.swap-2.ensures.x_after)

pub returns-clause-given : goal.returns-clause-given
returns-clause-given c = rw (c.swap.ensures.y_after, c.swap-2.ensures.y_after)

use Rattle.std.proofs.Common.{drop}
use Rattle.frames.proofs.HandlerRows.{IsLeft}
use Rattle.frames.proofs.handlers.handler_at.Given as goal

abbrev pub invariant-loop-row : goal.invariant-loop-row
invariant-loop-row l = IsLeft l.program l.place l.thrown (drop l.row-index l.handlers) l.handlers

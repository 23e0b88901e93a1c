use Rattle.std.proofs.Common.{false}
use Rattle.library_tests.proofs.Asked.{opened, may_lack_memory, lacks_memory, may_end}
use Rattle.library_tests.proofs.procedures.gives_up.Goals as goal

pub advance-requires : goal.advance-requires
advance-requires c = rw (opened _ c.requires c.in_ok-request.ensures.standing) (may_lack_memory _ _ false c.built_in-error.ensures)

pub advance-requires-2 : goal.advance-requires-2
advance-requires-2 c = rw (lacks_memory _ _ false c.built_in-error.ensures (rw (opened _ c.requires c.in_ok-request.ensures.standing) at c.in_ok-next.ensures.standing)) (may_end _ _ _)

use Rattle.std.proofs.Common.{true}
use Rattle.library_tests.proofs.Asked.{opened, may_wait, has_waited, may_find_erroneous}
use Rattle.library_tests.proofs.procedures.refuses.Goals as goal

pub advance-requires : goal.advance-requires
advance-requires c = rw (opened _ c.requires c.in_ok-request.ensures.standing) (may_wait _ _)

pub advance-requires-2 : goal.advance-requires-2
advance-requires-2 c = rw (has_waited _ _ (rw (opened _ c.requires c.in_ok-request.ensures.standing) at c.in_ok-next.ensures.standing)) (may_find_erroneous _ _ true)

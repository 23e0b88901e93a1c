use Rattle.std.proofs.Common.{false}
use Rattle.library_tests.proofs.Asked.{opened, may_still_wait, still_waits, may_give_up}
use Rattle.library_tests.proofs.procedures.waits_and_gives_up.Goals as goal

pub advance-requires : goal.advance-requires
advance-requires c = rw (opened _ c.requires c.in_ok-request.ensures.standing) (may_still_wait _ _ false)

pub advance-requires-2 : goal.advance-requires-2
advance-requires-2 c = rw (still_waits _ _ false (rw (opened _ c.requires c.in_ok-request.ensures.standing) at c.in_ok-next.ensures.standing)) (may_give_up _ _ false c.built_in-error.ensures)

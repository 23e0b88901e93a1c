use Rattle.std.proofs.Common.{false}
use Rattle.library_tests.proofs.Asked.{opened, may_begin}
use Rattle.library_tests.proofs.procedures.begins.Goals as goal

pub advance-requires : goal.advance-requires
advance-requires c = rw (opened _ c.requires c.in_ok-request.ensures.standing) (may_begin _ _ false)

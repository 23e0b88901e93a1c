use Rattle.init_core.proofs.Answered.{has_recurred, was_initialized, was_erroneous, has_begun}
use Rattle.init_core.proofs.procedure.Procedure.decide.Goals as goal

pub returns-in-Recurs-clause-standing : goal.returns-in-Recurs-clause-standing
returns-in-Recurs-clause-standing c = rw c.in-Recurs.is (has_recurred _ _ _ c.complete.ensures)

pub returns-in-FindsInitialized-clause-standing : goal.returns-in-FindsInitialized-clause-standing
returns-in-FindsInitialized-clause-standing c = rw c.in-FindsInitialized.is (was_initialized _ _ _ c.complete-in-FindsInitialized.ensures)

pub returns-in-FindsErroneous-clause-standing : goal.returns-in-FindsErroneous-clause-standing
returns-in-FindsErroneous-clause-standing c = rw c.in-FindsErroneous.is (was_erroneous _ _ _ (rw c.built_in-error.ensures at c.complete-in-FindsErroneous.ensures))

pub returns-in_ok-begin-in-Begins-clause-standing : goal.returns-in_ok-begin-in-Begins-clause-standing
returns-in_ok-begin-in-Begins-clause-standing c = rw c.in-Begins.is (has_begun _ _ _ c.in_ok-begin-in-Begins.ensures.standing)

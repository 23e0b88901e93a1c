use Rattle.std.proofs.Common.{drop}
use Rattle.std.specs.List.{AllByRecursion}
use Rattle.init_core.specs.ProcedureWord.{IsOfFiles}
use Rattle.library_tests.proofs.runs.are_of_files.Given as goal

abbrev pub invariant-loop-main : goal.invariant-loop-main
invariant-loop-main l = AllByRecursion (λ m. IsOfFiles l.program m) (drop l.main-index l.mains) → AllByRecursion (λ m. IsOfFiles l.program m) l.mains

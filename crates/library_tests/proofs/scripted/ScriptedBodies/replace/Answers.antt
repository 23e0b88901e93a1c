use Rattle.std.proofs.Common.{refl, subst, sym}
use Rattle.hierarchy.specs.declared.built_in.BuiltIn.TheVariants.{Error, ExceptionInInitializerError, LinkageError}
use Rattle.hierarchy.specs.Subclasses.{below, is_built_in, itself, IsError}
use Rattle.library_tests.proofs.scripted.ScriptedBodies.replace.Goals as goal

pub returns-in-Wrapped-clause-error : goal.returns-in-Wrapped-clause-error
returns-in-Wrapped-clause-error c = subst (IsError c.args.program.now) (sym c.built_in.ensures) (below (is_built_in ExceptionInInitializerError LinkageError refl) (below (is_built_in LinkageError Error refl) itself))

use Rattle.std.proofs.Common.{refl, subst, sym}
use Rattle.hierarchy.specs.declared.built_in.BuiltIn.TheVariants.{Error, ExceptionInInitializerError, LinkageError}
use Rattle.hierarchy.specs.Subclasses.{IsError, is_built_in, itself, below}
use Rattle.bodies.proofs.no_code.NoCodeBodies.replace.Goals as goal

pub returns-clause-error : goal.returns-clause-error
returns-clause-error c = subst (IsError c.args.program.now) (sym c.built_in.ensures)
    (below (is_built_in ExceptionInInitializerError LinkageError refl) (below (is_built_in LinkageError Error refl) itself))

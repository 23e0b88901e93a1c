use Rattle.std.proofs.Common.{lit<}
use Rattle.hierarchy.specs.declared.built_in.BuiltIn.TheVariants.{Error, Throwable}
use Rattle.hierarchy.proofs.ProvedByLinking.{linked_resolved}
use Rattle.hierarchy.proofs.Throwables.{subtypes_are_subclasses}
use Rattle.hierarchy.proofs.laws.throwables_are_subclasses.Goals as goal

pub returns-clause-errors : goal.returns-clause-errors
returns-clause-errors c = subtypes_are_subclasses c.args.program.now.classes (linked_resolved c.args.program.now c.is_linked.ensures.linked) Error (lit< tt) c.args.id

pub returns-clause-throwables : goal.returns-clause-throwables
returns-clause-throwables c = subtypes_are_subclasses c.args.program.now.classes (linked_resolved c.args.program.now c.is_linked.ensures.linked) Throwable (lit< tt) c.args.id

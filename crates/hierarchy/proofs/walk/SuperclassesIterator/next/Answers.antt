use Rattle.std.proofs.Common.{◌∙◌, sym, ap, length, arith}
use Rattle.hierarchy.specs.Ancestry.{superclasses_from}
use Rattle.hierarchy.proofs.Superclasses.{superclasses-at}
use Rattle.hierarchy.proofs.walk.SuperclassesIterator.next.Goals as goal

pub returns-clause-steps : goal.returns-clause-steps
returns-clause-steps c =
    let classes = c.args.self.now.program.now.classes in
    ap (superclasses_from classes) c.in_ok-id.was ∙ superclasses-at classes c.is_linked.ensures.acyclic c.in_ok-id.id c.superclass-self.result (sym c.superclass-self.ensures)

pub returns-clause-goes : goal.returns-clause-goes
returns-clause-goes c = record {
  on = λ f. (tt, tt, omega (arith, ap length (returns-clause-steps c)));
  keeps = tt;
  rests = λ f. tt;
}

use Rattle.hierarchy.proofs.TextReferences.{texts_refer}
use Rattle.hierarchy.proofs.laws.texts_have_own_references.Goals as goal

pub returns : goal.returns
returns c = texts_refer c.args.program.now

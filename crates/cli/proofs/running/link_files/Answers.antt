use Rattle.std.proofs.lemmas.Result.{IfErr-weaker}
use Rattle.cli.specs.ReadRefusals.{unlinked, unread_files}
use Rattle.cli.proofs.running.link_files.Goals as goal

pub returns-in-Err-clause-refused : goal.returns-in-Err-clause-refused
returns-in-Err-clause-refused g c = unread_files c.in-Err.ensures.refused

pub returns-clause-refused : goal.returns-clause-refused
returns-clause-refused g c = IfErr-weaker c.link_texts.result _ _ (λ f refused. unlinked c.in-Ok.texts.items c.in-Ok.ensures.classes refused) c.link_texts.ensures.refused

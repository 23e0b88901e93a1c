use Rattle.std.proofs.Common.{refl, rules}
use Rattle.cli.specs.declared.fault.Fault.TheVariants.{Memory, Output}
use Rattle.cli.proofs.CutShort.{cut_in_text, verdict_cut, verdict_unmade}
use Rattle.cli.proofs.serving.write_verdict.Goals as goal

pub returns-in-Ok-clause-cut : goal.returns-in-Ok-clause-cut
returns-in-Ok-clause-cut g c =
    let before = g.O.Write.contents c.args.out.now in
    let after = g.O.Write.contents c.write_output.new.out in
    verdict_cut c.args.judged.now.verdict c.args.explains before after c.deref.result.now c.write_output.result (search rules)
    (cut_in_text Output before after c.deref.result.now c.write_output.result c.write_output.ensures.refused c.write_output.ensures.front)

pub returns-in-Err-clause-cut : goal.returns-in-Err-clause-cut
returns-in-Err-clause-cut g c = verdict_unmade c.args.judged.now.verdict c.args.explains Memory (g.O.Write.contents c.args.out.now) refl

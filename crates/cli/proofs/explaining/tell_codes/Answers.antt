use Rattle.std.proofs.Common.{None, inr, subst}
use Rattle.std.proofs.lemmas.Result.{IfErr-weaker}
use Rattle.cli.specs.declared.fault.Fault.TheVariants.{Output}
use Rattle.cli.specs.CutShort.{IsTextCut}
use Rattle.cli.proofs.CutShort.{cut_in_text}
use Rattle.cli.proofs.KnownFiles.{keeps_all}
use Rattle.cli.proofs.KnownOutput.{keeps_same}
use Rattle.cli.proofs.explaining.tell_codes.Goals as goal

pub returns-in-Ok-clause-stopped : goal.returns-in-Ok-clause-stopped
returns-in-Ok-clause-stopped g c =
    let before = g.O.Write.contents c.args.out.now in
    let after = g.O.Write.contents c.write_output.new.out in
    IfErr-weaker c.write_output.result _ _ (λ f cut files errors. inr (record {
      text = c.in-Ok.text.items;
      said = c.in-Ok.ensures.said;
      cut = record { output = subst (λ text. IsTextCut Output before after text f) c.deref.ensures.value cut; files = keeps_all None files; silent = keeps_same errors };
    })) (cut_in_text Output before after c.deref.result.now c.write_output.result c.write_output.ensures.refused c.write_output.ensures.front)

use Rattle.std.proofs.Common.{subst, sym}
use Rattle.std.proofs.lemmas.Result.{IfErr-weaker, IfOk-weaker}
use Rattle.clap.proofs.WalkLemmas.{IfOk-both}
use Rattle.clap.specs.Walk.{texts}
use Rattle.command_line.specs.CommandLine.{text_of}
use Rattle.cli.specs.Checking.{IsJudged, no_program, not_judged}
use Rattle.cli.proofs.Checked.{judged_before, not_judged_before}
use Rattle.cli.proofs.checking.check_named.Goals as goal

pub returns-in-Ok-clause-judged : goal.returns-in-Ok-clause-judged
returns-in-Ok-clause-judged g c =
    let before = g.N.Named.held c.args.named.now in
    let after = g.N.Named.held c.link_files.new.named in
    let mains = text_of c.args.mains in
    IfOk-weaker c.judge_trace.result _ _ (λ j h.
    subst (λ p. IsJudged before (texts c.args.files.now) c.args.edition mains c.args.trace.now p j.mains.items j.events.items j.verdict) (sym h.0)
    (record {
      linked = c.in-Ok.ensures.linked;
      of_program = judged_before before after c.in-Ok.program mains c.args.trace.now j.mains.items j.events.items j.verdict
          c.link_files.ensures.files h.1;
    })) (IfOk-both c.judge_trace.result _ _ c.judge_trace.ensures.program c.judge_trace.ensures.judged)

pub returns-in-Ok-clause-refused : goal.returns-in-Ok-clause-refused
returns-in-Ok-clause-refused g c =
    IfErr-weaker c.judge_trace.result _ _ (λ f refused. not_judged c.in-Ok.ensures.linked
    (not_judged_before (g.N.Named.held c.args.named.now) (g.N.Named.held c.link_files.new.named) _ _ c.args.trace.now f c.link_files.ensures.files refused)) c.judge_trace.ensures.refused

pub returns-in-Err-clause-refused : goal.returns-in-Err-clause-refused
returns-in-Err-clause-refused g c = no_program c.in-Err.ensures.refused

use Rattle.std.proofs.Common.{inl, inr, length, subst, sym}
use Rattle.judge.specs.Verdicts.{IsVerdict}
use Rattle.cli.specs.Checking.{IsJudgeRefusal, IsTraceRefusal, TraceHolds, no_mains, no_memory, no_trace}
use Rattle.cli.proofs.checking.judge_trace.Goals as goal

pub returns-in-Err-clause-refused : goal.returns-in-Err-clause-refused
returns-in-Err-clause-refused g c = elim c.in-Err.ensures.refused [
  | inl is ↦ subst (IsJudgeRefusal _ _ _ _) (sym is) no_memory
  | inr is ↦ subst (IsJudgeRefusal _ _ _ _) (sym is.0) (no_mains is.1)
]

pub returns-clause-refused : goal.returns-clause-refused
returns-clause-refused g c =
    no_trace {classes = c.in-Ok.mains.items} c.in-Ok.ensures.named
    (subst (λ mains. IsTraceRefusal (g.N.Named.held c.args.named.now) c.args.file.now c.args.program (length mains) c.in-Err-judge_events.fault) c.deref.ensures.value c.in-Err-judge_events.ensures.refused)

pub returns-in-Ok-judge_events-clause-judged : goal.returns-in-Ok-judge_events-clause-judged
returns-in-Ok-judge_events-clause-judged g c =
    let found = c.in-Ok-judge_events in
    let known = g.N.Named.held c.args.named.now in
    record {
      named = c.in-Ok.ensures.named;
      traced = subst (λ classes. TraceHolds known c.args.file.now c.args.program (length classes) found.events.items)
          c.deref.ensures.value found.ensures.traced;
      judged = subst (λ classes. IsVerdict c.args.program classes found.events.items found.verdict) c.deref.ensures.value found.ensures.judged;
    }

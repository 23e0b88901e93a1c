use Rattle.std.proofs.Common.{Bool, true, false, rules, subst}
use Rattle.std.specs.Bool.{OnTrue}
use Rattle.clap.specs.Walk.{texts}
use Rattle.cli.specs.NamedRun.{IsAmongFiles}
use Rattle.cli.specs.Refusals.{of_replayed_trace, of_trace}
use Rattle.cli.proofs.serving.replaces_input.Goals as goal

weaker : {P Q : Type 0} (b : Bool) → (P → Q) → OnTrue b P → OnTrue b Q
weaker true f p = f p
weaker false f p = tt

pub returns-then-is_among : goal.returns-then-is_among
returns-then-is_among g c =
    of_trace {trace = c.in-Some.trace.now} (search rules) (subst (λ files. IsAmongFiles (g.N.Named.held c.args.named.now) c.in-Some.trace.now (texts files)) c.deref.ensures.value c.if-is_among.ensures)

pub returns-in-Some-replay : goal.returns-in-Some-replay
returns-in-Some-replay g c = weaker c.is_same.result (λ one. of_replayed_trace {trace = c.in-Some.trace.now} {replay = c.in-Some-replay.replay.now} (search rules) (search rules) one) c.is_same.ensures

use Rattle.std.proofs.Common.{◌≡◌, [], if◌then◌else◌, rules, subst, Some}
use Rattle.command_line.specs.CommandLine.{text_of}
use Rattle.cli.specs.CutShort.{IsTraceCut, in_file, unmade}
use Rattle.cli.specs.Serving.{is_standard_output, trace_after}
use Rattle.trace.specs.TraceText.{trace_of}
use Rattle.cli.proofs.KnownOutput.{keeps_same}
use Rattle.cli.proofs.reporting.write_traced.Goals as goal

pub returns-clause-cut : goal.returns-clause-cut
returns-clause-cut g c = in_file (keeps_same (g.O.Write.contents c.args.out.now)) (unmade {name = c.in-Some.name.now} (search rules))

pub returns-in-Ok-clause-cut : goal.returns-in-Ok-clause-cut
returns-in-Ok-clause-cut g c =
    let files = g.N.Named.held c.args.named.now in
    let files_after = g.N.Named.held c.write_trace_text.new.named in
    let before = g.O.Write.contents c.args.out.now in
    let after = g.O.Write.contents c.write_trace_text.new.out in
    let named : Some c.in-Some.name.now ≡ text_of c.args.trace = search rules in
    let text : c.deref.result.now ≡ trace_of c.args.ran.now.program c.args.ran.now.report.events = search rules in
    subst (λ trace. IsTraceCut trace files files_after before after (trace_after trace c.args.ran.now.program c.args.ran.now.report) c.in-Err-write_trace_text.fault) named
    (subst (λ t. IsTraceCut (Some c.in-Some.name.now) files files_after before after (if is_standard_output c.in-Some.name.now then t else []) c.in-Err-write_trace_text.fault) text c.in-Err-write_trace_text.ensures.cut)

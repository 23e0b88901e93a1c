use Rattle.std.proofs.Common.{None, rules}
use Rattle.command_line.specs.CommandLine.{run_words_of, text_of}
use Rattle.cli.specs.CutShort.{in_lines}
use Rattle.cli.specs.Serving.{trace_after}
use Rattle.cli.proofs.CutShort.{cut_in_output, cut_in_trace, trace_status}
use Rattle.cli.proofs.KnownFiles.{keeps_all}
use Rattle.cli.proofs.KnownOutput.{appends_then}
use Rattle.cli.proofs.reporting.report_run.Goals as goal

pub returns-in-Err-clause-cut : goal.returns-in-Err-clause-cut
returns-in-Err-clause-cut g c =
    cut_in_output (g.N.Named.held c.args.named.now) (g.O.Write.contents c.args.out.now) (g.O.Write.contents c.write_output.new.out) (g.E.Write.contents c.args.err.now) (run_words_of c.args.words.now) c.args.ran.now.program c.args.ran.now.report
    c.in-Err.fault c.in-Err.ensures.refused (keeps_all None (g.N.Named.held c.args.named.now)) (search rules)

pub returns-in-Err-write_traced-clause-cut : goal.returns-in-Err-write_traced-clause-cut
returns-in-Err-write_traced-clause-cut g c =
    cut_in_trace (g.N.Named.held c.args.named.now) (g.N.Named.held c.write_traced.new.named) (g.O.Write.contents c.args.out.now) (g.O.Write.contents c.write_output.new.out) (g.O.Write.contents c.write_traced.new.out)
    (g.E.Write.contents c.args.err.now) (run_words_of c.args.words.now) c.args.ran.now.program c.args.ran.now.report c.in-Err-write_traced.fault (search rules) c.in-Err-write_traced.ensures.cut

pub returns-in-Err-write_traced-clause-refused : goal.returns-in-Err-write_traced-clause-refused
returns-in-Err-write_traced-clause-refused g c =
    trace_status (text_of c.args.words.now.trace) (g.N.Named.held c.args.named.now) (g.N.Named.held c.write_traced.new.named) (g.O.Write.contents c.write_output.new.out) (g.O.Write.contents c.write_traced.new.out)
    (trace_after (text_of c.args.words.now.trace) c.args.ran.now.program c.args.ran.now.report) c.in-Err-write_traced.fault c.in-Err-write_traced.ensures.cut

pub returns-in-Err-tell_outcomes-clause-cut : goal.returns-in-Err-tell_outcomes-clause-cut
returns-in-Err-tell_outcomes-clause-cut g c = in_lines (record {
  output = appends_then (g.O.Write.contents c.args.out.now) (g.O.Write.contents c.write_output.new.out) (g.O.Write.contents c.write_traced.new.out) c.args.ran.now.report.output
      (trace_after (text_of c.args.words.now.trace) c.args.ran.now.program c.args.ran.now.report) (search rules) c.in-Ok-write_traced.ensures.written;
  traced = c.in-Ok-write_traced.ensures.traced;
}) (search rules)

use Rattle.std.proofs.Common.{◌≡◌, ◌≤◌, ◌++◌, arith, refl, rules, subst}
use Rattle.command_line.specs.CommandLine.{request_of}
use Rattle.cli.specs.FaultText.{fault_line}
use Rattle.cli.specs.Serving.{IsServed, around}
use Rattle.cli.proofs.CutShort.{cut_short, served_status}
use Rattle.cli.proofs.Emitted.{kept_appends}
use Rattle.cli.proofs.KnownOutput.{appends_then}
use Rattle.cli.proofs.Quiet.{quiet}
use Rattle.cli.proofs.serving.answer_or_tell.Goals as goal

pub returns-in-Ok-clause-quiet : goal.returns-in-Ok-clause-quiet
returns-in-Ok-clause-quiet g c zero unasked =
    let errors = g.E.Write.contents c.args.err.now in
    let errors_after = g.E.Write.contents c.answer.new.err in
    let before = around (g.N.Named.held c.args.named.now) (g.O.Write.contents c.args.out.now) in
    let after = around (g.N.Named.held c.answer.new.named) (g.O.Write.contents c.answer.new.out) in
    quiet before after errors errors_after (request_of c.args.asked.now) unasked (subst (λ n. IsServed before after errors errors_after (request_of c.args.asked.now) n) zero c.in-Ok.ensures.served)

pub returns-in-Ok-clause-cut : goal.returns-in-Ok-clause-cut
returns-in-Ok-clause-cut g c three =
    let before = around (g.N.Named.held c.args.named.now) (g.O.Write.contents c.args.out.now) in
    let after = around (g.N.Named.held c.answer.new.named) (g.O.Write.contents c.answer.new.out) in
    let small : c.in-Ok.status ≤ 1 = served_status before after (g.E.Write.contents c.args.err.now) (g.E.Write.contents c.answer.new.err) (request_of c.args.asked.now) c.in-Ok.status c.in-Ok.ensures.served in
    let is : c.in-Ok.status ≡ 3 = three in
    absurd (omega (arith, small, is))

pub returns-then-status-ne2-clause-cut : goal.returns-then-status-ne2-clause-cut
returns-then-status-ne2-clause-cut g c three =
    let before = around (g.N.Named.held c.args.named.now) (g.O.Write.contents c.args.out.now) in
    let after = around (g.N.Named.held c.answer.new.named) (g.O.Write.contents c.answer.new.out) in
    cut_short before after (g.E.Write.contents c.args.err.now) (g.E.Write.contents c.answer.new.err) (g.E.Write.contents c.tell_fault-status.new.err) (request_of c.args.asked.now) c.in-Err.fault c.in-Err.ensures.stopped
    (c.tell_fault-status.ensures.cut three)

pub returns-else-status-ne2-clause-refused : goal.returns-else-status-ne2-clause-refused
returns-else-status-ne2-clause-refused g c two =
    let line = fault_line c.in-Err.fault in
    let words = c.explain_fault.ensures.words.0 in
    let mended = (c.tell_fault-status.ensures.told two).0 in
    record {
      first = c.in-Err.fault;
      is_first = c.in-Err.ensures.refused mended;
      status = mended;
      text = line ++ words;
      tells = (words, refl, c.explain_fault.ensures.words.2);
      told = kept_appends (g.E.Write.contents c.args.err.now) (g.E.Write.contents c.answer.new.err) (g.E.Write.contents c.explain_fault.new.err) (line ++ words) (c.in-Err.ensures.silent mended)
          (appends_then (g.E.Write.contents c.answer.new.err) (g.E.Write.contents c.tell_fault-status.new.err) (g.E.Write.contents c.explain_fault.new.err) line words (c.tell_fault-status.ensures.told two).1 c.explain_fault.ensures.words.1);
    }

pub returns-else-status-ne2-clause-cut : goal.returns-else-status-ne2-clause-cut
returns-else-status-ne2-clause-cut g c three =
    let two : c.tell_fault-status.result ≡ 2 = search rules in
    let is : c.tell_fault-status.result ≡ 3 = three in
    absurd (omega (arith, two, is))

use Rattle.std.proofs.Common.{option_map, sym}
use Rattle.cli.specs.Refusals.{of_edition, of_limits, of_order}
use Rattle.command_line.specs.CommandLine.{run as run_request, run_words_of}
use Rattle.cli.proofs.CutShort.{none_begun}
use Rattle.cli.proofs.serving.run.Goals as goal

pub returns-in-Err-clause-refused : goal.returns-in-Err-clause-refused
returns-in-Err-clause-refused g c = λ mended. of_order c.in-Err.ensures.refused

pub returns-in-Err-limits_of-clause-refused : goal.returns-in-Err-limits_of-clause-refused
returns-in-Err-limits_of-clause-refused g c = λ mended. of_limits (option_map (λ all. all.items) c.in-Ok.order) (sym c.in-Ok.ensures.said) c.in-Err-limits_of.ensures.refused

pub returns-in-Err-edition_of-clause-refused : goal.returns-in-Err-edition_of-clause-refused
returns-in-Err-edition_of-clause-refused g c = λ mended. of_edition (option_map (λ all. all.items) c.in-Ok.order) c.in-Ok-limits_of.limits (sym c.in-Ok.ensures.said) c.in-Ok-limits_of.ensures.said c.in-Err-edition_of.ensures.refused

pub returns-in-Err-clause-stopped : goal.returns-in-Err-clause-stopped
returns-in-Err-clause-stopped g c = none_begun (g.N.Named.held c.args.named.now) (g.O.Write.contents c.args.out.now) (g.E.Write.contents c.args.err.now) (run_request (run_words_of c.args.words.now)) c.in-Err.fault (of_order c.in-Err.ensures.refused)

pub returns-in-Err-limits_of-clause-stopped : goal.returns-in-Err-limits_of-clause-stopped
returns-in-Err-limits_of-clause-stopped g c =
    none_begun (g.N.Named.held c.args.named.now) (g.O.Write.contents c.args.out.now) (g.E.Write.contents c.args.err.now) (run_request (run_words_of c.args.words.now)) c.in-Err-limits_of.fault (of_limits (option_map (λ all. all.items) c.in-Ok.order) (sym c.in-Ok.ensures.said) c.in-Err-limits_of.ensures.refused)

pub returns-in-Err-edition_of-clause-stopped : goal.returns-in-Err-edition_of-clause-stopped
returns-in-Err-edition_of-clause-stopped g c =
    none_begun (g.N.Named.held c.args.named.now) (g.O.Write.contents c.args.out.now) (g.E.Write.contents c.args.err.now) (run_request (run_words_of c.args.words.now)) c.in-Err-edition_of.fault
    (of_edition (option_map (λ all. all.items) c.in-Ok.order) c.in-Ok-limits_of.limits (sym c.in-Ok.ensures.said) c.in-Ok-limits_of.ensures.said c.in-Err-edition_of.ensures.refused)

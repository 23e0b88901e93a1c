use Rattle.std.proofs.Common.{rules}
use Rattle.cli.specs.CutShort.{of_refused}
use Rattle.cli.specs.FaultText.{fault_line}
use Rattle.cli.proofs.Emitted.{whole_front}
use Rattle.cli.proofs.serving.tell_fault.Goals as goal

pub returns-clause-cut : goal.returns-clause-cut
returns-clause-cut g c = λ three. of_refused (search rules) (whole_front (g.E.Write.contents c.args.err.now) (g.E.Write.contents c.tell.new.err) (fault_line c.args.fault.now) (search rules))

use Rattle.std.proofs.Common.{◌≡◌, length}
use Rattle.trace_reader.specs.Prefixes.{behind}
use Rattle.trace_reader.proofs.fields.behind_bytes.Given as goal

abbrev pub invariant-loop-wanted : goal.invariant-loop-wanted
invariant-loop-wanted l = behind l.wanted l.rest ≡ behind l.front l.bytes

abbrev pub decreases-loop-wanted : goal.decreases-loop-wanted
decreases-loop-wanted l = length l.wanted

use Rattle.std.proofs.Common.{◌≡◌, ◌++◌, drop}
use Rattle.bodies.specs.Output.{output_of}
use Rattle.bodies.proofs.output.printed_by.Given as goal

abbrev pub invariant-loop-event : goal.invariant-loop-event
invariant-loop-event l = l.output.items ++ output_of (drop l.event-index l.events) ≡ output_of l.events

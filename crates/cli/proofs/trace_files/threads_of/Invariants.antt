use Rattle.std.proofs.Common.{◌≡◌, take}
use Rattle.cli.specs.NamedRun.{threads_of as threads_of_events}
use Rattle.cli.proofs.trace_files.threads_of.Given as goal

abbrev pub invariant-loop-event : goal.invariant-loop-event
invariant-loop-event l = l.threads.items ≡ threads_of_events (take l.event-index l.events)

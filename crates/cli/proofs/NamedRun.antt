-- What is found of a run in files, while no file is written.
use Rattle.std.proofs.Common.{ℕ, List, Option, None, length}
use Rattle.hierarchy.specs.LinkedProgram.{LinkedProgram}
use Rattle.bodies.specs.declared.report.Limits.{Limits}
use Rattle.bodies.specs.declared.report.Report.{Report}
use Rattle.command_line.specs.CommandLine.{Options}
use Rattle.trace_reader.specs.TraceEvents.{IsTraceOf}
use Rattle.cli.specs.declared.fault.Fault.{Fault}
use Rattle.cli.specs.Files.{Files, KeepsAllBut}
use Rattle.cli.specs.NamedRun.{IsOrder, IsRunAsked, IsRunRefusal, disordered, no_memory, no_thread, replayed, said, unnamed, unreplayed}
use Rattle.cli.proofs.Checked.{untraced_before}
use Rattle.cli.proofs.KnownFiles.{held_before}

order_before : (before after : Option Files) (p : LinkedProgram) (words : Options) (order : Option (List ℕ)) → KeepsAllBut None before after → IsOrder after p words order → IsOrder before p words order
order_before before after p words order kept (said none is) = said none is
order_before before after p words order kept (replayed {name} {classes} events is named traced order_is) =
    replayed {name = name} {classes = classes} events is named (held_before before after name (λ all. IsTraceOf p (length classes) all events) kept traced) order_is

pub asked_before : (before after : Option Files) (words : Options) (limits : Limits) (p : LinkedProgram) (r : Report) → KeepsAllBut None before after → IsRunAsked after words limits p r → IsRunAsked before words limits p r
asked_before before after words limits p r kept asked = record { order = asked.order; ordered = order_before before after p words asked.order kept asked.ordered; ran = asked.ran }

pub not_run_before : (before after : Option Files) (p : LinkedProgram) (words : Options) (f : Fault) → KeepsAllBut None before after → IsRunRefusal after p words f → IsRunRefusal before p words f
not_run_before before after p words _ kept (unnamed none) = unnamed none
not_run_before before after p words f kept (unreplayed {name} {classes} named is refused) =
    unreplayed {name = name} {classes = classes} named is (untraced_before before after name p (length classes) f kept refused)
not_run_before before after p words _ kept (disordered {classes} {order} named ordered unfit) =
    disordered {classes = classes} {order = order} named (order_before before after p words order kept ordered) unfit
not_run_before before after p words _ kept (no_thread {classes} named ordered) = no_thread {classes = classes} named (order_before before after p words None kept ordered)
not_run_before before after p words _ kept no_memory = no_memory

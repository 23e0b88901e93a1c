use Rattle.std.proofs.Common.{◌≡◌, ◌++◌, map, drop}
use Rattle.std.specs.List.{AllByRecursion}
use Rattle.init_core.specs.Label.{label_of}
use Rattle.init_core.specs.Lawful.{IsLawful}
use Rattle.guest_threads.proofs.report.labels.Given as goal

abbrev pub invariant-loop-guarded : goal.invariant-loop-guarded
invariant-loop-guarded l = (l.labels ++ map (λ r. label_of r.record.events) (drop l.guarded-index l.records) ≡ map (λ r. label_of r.record.events) l.records) × (AllByRecursion (λ r. IsLawful r.record.fields r.record.events) (drop l.guarded-index l.records) → AllByRecursion (λ r. IsLawful r.record.fields r.record.events) l.records)

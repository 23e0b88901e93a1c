-- At exit status 0 nothing is written to standard error.
use Rattle.std.proofs.Common.{◌≡◌, ◌∙◌, ◌&&◌, ℕ, suc, Bool, true, false, List, [], ◌∷◌, Option, Some, None, refl, append-nil, subst, if◌then◌else◌}
use Rattle.std.specs.List.{list_any}
use Rattle.std.specs.Io.KnownBytes.{Appends, Keeps}
use Rattle.hierarchy.specs.LinkedProgram.{LinkedProgram}
use Rattle.bodies.specs.declared.report.ThreadOutcome.{ThreadOutcome}
use Rattle.bodies.specs.declared.report.ThreadOutcome.TheVariants.{Normal, Abrupt, Ended}
use Rattle.command_line.specs.CommandLine.{Request, run, check, explain, explains_in, needs, unfit}
use Rattle.bodies.specs.declared.report.Report.{Report}
use Rattle.cli.specs.Outcomes.{is_abrupt, outcomes_from, outcomes_text}
use Rattle.cli.specs.Serving.{IsServed, Surroundings, lines_with}

-- threads that ended normally have no line
silent : (p : LinkedProgram) (thread : ℕ) (outcomes : List ThreadOutcome) → list_any is_abrupt outcomes ≡ false → outcomes_from p thread outcomes ≡ []
silent p thread [] none = refl
silent p thread (Normal ∷ os) none = silent p (suc thread) os none
silent p thread (Abrupt e ∷ os) none = cc
silent p thread (Ended limit ∷ os) none = cc

none_by : (b : Bool) → ◌≡◌ {A = ℕ} 0 (if b then 1 else 0) → b ≡ false
none_by true ended = cc
none_by false ended = refl

nothing : (before after : Option (List ℕ)) → Appends before after [] → Keeps before after
nothing None after appended = tt
nothing (Some xs) None appended = absurd appended
nothing (Some xs) (Some ys) appended = appended ∙ append-nil xs

unnoted : (explains large : Bool) (p : LinkedProgram) (r : Report) → explains ≡ false → lines_with (explains && large) p r ≡ outcomes_text p r.outcomes
unnoted true large p r is = cc
unnoted false large p r is = refl

pub quiet : (before after : Surroundings) (errors errors_after : Option (List ℕ)) (request : Request) → explains_in request ≡ false → IsServed before after errors errors_after request 0 → Keeps errors errors_after
quiet before after errors errors_after (run words) unasked done =
    nothing errors errors_after (subst (Appends errors errors_after) (unnoted words.explains _ done.program done.report unasked ∙ silent done.program 0 done.report.outcomes (none_by (list_any is_abrupt done.report.outcomes) done.ended)) done.told)
quiet before after errors errors_after (check words) unasked done = done.quiet
quiet before after errors errors_after (needs words) unasked done = done.1
quiet before after errors errors_after (explain names) unasked done = done.1
quiet before after errors errors_after (unfit explains) unasked done = absurd done

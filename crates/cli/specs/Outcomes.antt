-- How the threads of a run ended, as text and as an exit status.
use Rattle.std.specs.Prelude.{ℕ, suc, Bool, true, false, List, [], ◌∷◌, ◌++◌, codes, decimal, if◌then◌else◌}
use Rattle.std.specs.List.{list_any}
use Rattle.hierarchy.specs.declared.built_in.BuiltIn.TheVariants.{InternalError, OutOfMemoryError}
use Rattle.hierarchy.specs.LinkedProgram.{LinkedProgram, built_in}
use Rattle.hierarchy.specs.declared.class.ClassId.{ClassId}
use Rattle.trace.specs.TraceText.{class_text}
use Rattle.bodies.specs.declared.report.Limit.{Limit}
use Rattle.bodies.specs.declared.report.Limit.TheVariants.{Memory}
use Rattle.bodies.specs.declared.report.ThreadOutcome.{ThreadOutcome}
use Rattle.bodies.specs.declared.report.ThreadOutcome.TheVariants.{Normal, Abrupt, Ended}

-- the error by which the machine ends a thread
abbrev pub error_of : LinkedProgram → Limit → ClassId
error_of p Memory = built_in p OutOfMemoryError
error_of p limit = built_in p InternalError

-- t<thread>: <class>
abbrev pub outcome_line : LinkedProgram → ℕ → ClassId → List ℕ
outcome_line p thread throwable = codes "t" ++ decimal thread ++ codes ": " ++ class_text p throwable ++ codes "\n"

-- a line for a thread that didn't end normally
abbrev pub outcome_text : LinkedProgram → ℕ → ThreadOutcome → List ℕ
outcome_text p thread Normal = []
outcome_text p thread (Abrupt throwable) = outcome_line p thread throwable
outcome_text p thread (Ended limit) = outcome_line p thread (error_of p limit)

-- those of the threads from this number on
abbrev pub outcomes_from : LinkedProgram → ℕ → List ThreadOutcome → List ℕ
outcomes_from p thread [] = []
outcomes_from p thread (o ∷ os) = outcome_text p thread o ++ outcomes_from p (suc thread) os

abbrev pub outcomes_text : LinkedProgram → List ThreadOutcome → List ℕ
outcomes_text p outcomes = outcomes_from p 0 outcomes

-- by a throwable, or by the machine
abbrev pub is_abrupt : ThreadOutcome → Bool
is_abrupt Normal = false
is_abrupt _ = true

-- 0 where all threads ended normally, else 1
abbrev pub status_after : List ThreadOutcome → ℕ
status_after outcomes = if list_any is_abrupt outcomes then 1 else 0

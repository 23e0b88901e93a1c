-- The events of a text, or its first fault, line by line.
use Rattle.std.specs.Prelude.{ℕ, zero, suc, ◌+◌, ◌-◌, List, [], ◌∷◌, length, nat_lt, Bool, ◌==◌, Result, Ok, Err, if◌then◌else◌}
use Rattle.sequence.specs.Gives.{◌>>=◌}
use Rattle.hierarchy.specs.LinkedProgram.{LinkedProgram}
use Rattle.init_core.specs.declared.event.Event.{Event}
use Rattle.trace_reader.specs.declared.fault.TraceFault.{TraceFault}
use Rattle.trace_reader.specs.declared.fault.TraceFaultKind.TheVariants.{TooLarge}
use Rattle.trace_reader.specs.declared.reader.TheConstants.{MOST_LINES, MOST_BYTES}
use Rattle.trace_reader.specs.Faults.{fault_at, on_line}
use Rattle.trace_reader.specs.Reading.{event_at}

-- how many bytes the first line has, with its LF
abbrev pub line_end : List ℕ → ℕ
line_end [] = 0
line_end (b ∷ bs) = if b == 10 then 1 else 1 + line_end bs

-- whether the next line ends past the limit, where this is what is left of a text of so many bytes
abbrev pub is_past : ℕ → List ℕ → Bool
is_past total text = nat_lt MOST_BYTES ((total - length text) + line_end text)

-- the event of line n, of which nothing is read where it ends past the limit, and what follows the line
unfoldable pub line_at : LinkedProgram → ℕ → ℕ → ℕ → List ℕ → Result (Event × List ℕ) TraceFault
line_at p threads total n text = if is_past total text then Err (fault_at TooLarge (n + 1)) else on_line (n + 1) (event_at p threads n text)

-- the events from line n on, where so many lines may follow
unfoldable pub events_from : LinkedProgram → ℕ → ℕ → ℕ → ℕ → List ℕ → Result (List Event) TraceFault
events_from p threads total lines n [] = Ok []
events_from p threads total zero n (b ∷ bs) = Err (fault_at TooLarge (n + 1))
events_from p threads total (suc lines) n (b ∷ bs) =
    line_at p threads total n (b ∷ bs) >>= λ first. events_from p threads total lines (n + 1) first.1 >>= λ events. Ok (first.0 ∷ events)

-- the events that a text spells, or its first fault
unfoldable pub events_of : LinkedProgram → ℕ → List ℕ → Result (List Event) TraceFault
events_of p threads text = events_from p threads (length text) MOST_LINES 0 text

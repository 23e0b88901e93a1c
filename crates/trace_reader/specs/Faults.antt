-- The kinds of fault, and what a function answers that meets one.
use Rattle.std.specs.Prelude.{◌≡◌, ◌⊎◌, ℕ, Result, Ok, Err}
use Rattle.sequence.specs.declared.refusal.Refusal.{Refusal}
use Rattle.sequence.specs.declared.refusal.Refusal.TheVariants as refusal
use Rattle.trace_reader.specs.declared.fault.TraceFault.{TraceFault}
use Rattle.trace_reader.specs.declared.fault.TraceFaultKind.{TraceFaultKind}
use Rattle.trace_reader.specs.declared.fault.TraceFaultKind.TheVariants.{BadLine, NumberOutOfTurn, UnknownStep, UnknownName, BadValue, TooLarge, OutOfMemory}

abbrev pub number_of : TraceFaultKind → ℕ
number_of BadLine = 1
number_of NumberOutOfTurn = 2
number_of UnknownStep = 3
number_of UnknownName = 4
number_of BadValue = 5
number_of TooLarge = 6
number_of OutOfMemory = 7

abbrev pub fault_at : TraceFaultKind → ℕ → TraceFault
fault_at k line = record { kind = k; line = line }

-- the fault of the line with this number from 1
abbrev pub told : Refusal TraceFaultKind → ℕ → TraceFault
told refusal.Memory line = fault_at OutOfMemory line
told (refusal.Fault k) line = fault_at k line

-- what reading the line gives, reported with its number from 1
abbrev pub on_line : {X : Type 0} → ℕ → Result X TraceFaultKind → Result X TraceFault
on_line line (Ok x) = Ok x
on_line line (Err k) = Err (fault_at k line)

-- out of memory, or the fault that reading gives
abbrev pub Tells : {Y : Type 0} → TraceFault → Result Y TraceFault → Type 0
Tells f read = (f.kind ≡ OutOfMemory) ⊎ (read ≡ Err f)

-- What a function returned, seen by view, is what reading gives, unless memory ran out.
abbrev pub Reads : {X Y : Type 0} → (X → Y) → Result X TraceFault → Result Y TraceFault → Type 0
Reads view (Ok x) read = read ≡ Ok (view x)
Reads view (Err f) read = Tells f read

-- Exit statuses.
use Rattle.std.specs.Prelude.{◌≤◌, ℕ}
use Rattle.cli.specs.declared.fault.Fault.{Fault}
use Rattle.cli.specs.declared.fault.Fault.TheVariants.{Code, Edition, Files, Io, Jasmin, Lines, Link, Mains, Memory, Order, Output, Patience, Steps, Threads, Trace, Words}

-- 3 for what the machine refused, 2 for what the user can mend
abbrev pub status_of : Fault → ℕ
status_of Words = 2
status_of Files = 2
status_of (Io _) = 3
status_of (Jasmin _ _) = 2
status_of (Trace _ _) = 2
status_of (Link _) = 2
status_of Order = 2
status_of Steps = 2
status_of Patience = 2
status_of Edition = 2
status_of Mains = 2
status_of Code = 2
status_of Threads = 3
status_of Memory = 3
status_of Output = 3
status_of Lines = 3

-- an exit status of the program
abbrev pub IsStatus : ℕ → Type 0
IsStatus n = n ≤ 3

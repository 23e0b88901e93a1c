-- The third word of a line: a step by its number in JLS SE 8 12.4.2, get, put or print.
use Rattle.std.specs.Prelude.{ℕ, List, codes, Option, Some, None, Result, Ok, Err, if◌then◌else◌}
use Rattle.std.specs.Str.{bytes_eq}
use Rattle.trace_reader.specs.declared.fault.TraceFaultKind.{TraceFaultKind}
use Rattle.trace_reader.specs.declared.fault.TraceFaultKind.TheVariants.{UnknownStep}
use Rattle.trace_reader.specs.declared.verbs.Deed.{Deed}
use Rattle.trace_reader.specs.declared.verbs.Deed.TheVariants as deed
use Rattle.trace_reader.specs.declared.verbs.Verb.{Verb}
use Rattle.trace_reader.specs.declared.verbs.Verb.TheVariants as verb

-- what is done at a class
abbrev pub deed_at : List ℕ → Option Deed
deed_at word =
    if bytes_eq word (codes "step2") then Some deed.Waits
    else if bytes_eq word (codes "step3") then Some deed.Recurs
    else if bytes_eq word (codes "step4") then Some deed.FindsInitialized
    else if bytes_eq word (codes "step5") then Some deed.FindsErroneous
    else if bytes_eq word (codes "step6") then Some deed.Begins
    else if bytes_eq word (codes "step7") then Some deed.SuperFails
    else if bytes_eq word (codes "step9") then Some deed.Runs
    else if bytes_eq word (codes "step10") then Some deed.Completes
    else if bytes_eq word (codes "step12") then Some deed.Fails
    else if bytes_eq word (codes "get") then Some deed.Gets
    else if bytes_eq word (codes "put") then Some deed.Puts
    else None

abbrev pub known_deed : Option Deed → Result Verb TraceFaultKind
known_deed (Some d) = Ok (verb.AtClass d)
known_deed None = Err UnknownStep

unfoldable pub verb_at : List ℕ → Result Verb TraceFaultKind
verb_at word = if bytes_eq word (codes "print") then Ok verb.Prints else known_deed (deed_at word)

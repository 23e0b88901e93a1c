-- The line that reports a fault.
use Rattle.std.specs.Prelude.{ℕ, List, [], ◌++◌, codes, decimal}
use Rattle.hierarchy.specs.declared.fault.LinkFault.{LinkFault}
use Rattle.hierarchy.specs.declared.fault.LinkFaultKind.{LinkFaultKind}
use Rattle.hierarchy.specs.declared.fault.LinkFaultKind.TheVariants.{RepeatedName, UnknownSupertype, Cycle, SuperclassKind, InterfaceKind, ReservedName, RepeatedMember, TooMany, NoMemory}
use Rattle.jasmin_reader.specs.declared.fault.ReadFault.{ReadFault}
use Rattle.jasmin_words.specs.Fault.{number_of}
use Rattle.trace_reader.specs.declared.fault.TraceFault.{TraceFault}
use Rattle.trace_reader.specs.Faults.{number_of as trace_number_of}
use Rattle.cli.specs.declared.fault.Fault.{Fault}
use Rattle.cli.specs.declared.fault.Fault.TheVariants.{Code, Edition, Files, Io, Jasmin, Lines, Link, Mains, Memory, Order, Output, Patience, Steps, Threads, Trace, Words}

-- the number in the code of a fault of linking
abbrev pub link_number_of : LinkFaultKind → ℕ
link_number_of RepeatedName = 1
link_number_of UnknownSupertype = 2
link_number_of Cycle = 3
link_number_of SuperclassKind = 4
link_number_of InterfaceKind = 5
link_number_of ReservedName = 6
link_number_of RepeatedMember = 7
link_number_of TooMany = 8
link_number_of NoMemory = 9

-- io: <file>
abbrev pub io_line : List ℕ → List ℕ
io_line file = codes "io: " ++ file ++ codes "\n"

-- <file>:<line>: <kind>
abbrev pub jasmin_line : List ℕ → ReadFault → List ℕ
jasmin_line file f = file ++ codes ":" ++ decimal f.line ++ codes ": J" ++ decimal (number_of f.kind) ++ codes "\n"

abbrev pub trace_line : List ℕ → TraceFault → List ℕ
trace_line file f = file ++ codes ":" ++ decimal f.line ++ codes ": L" ++ decimal (trace_number_of f.kind) ++ codes "\n"

-- link: <kind> <class>
abbrev pub link_line : LinkFault → List ℕ
link_line f = codes "link: H" ++ decimal (link_number_of f.kind) ++ codes " " ++ f.class ++ codes "\n"

-- the line of a fault that names no file and no class
abbrev pub fixed_line_of : Fault → List ℕ
fixed_line_of Words = codes "cli: words\n"
fixed_line_of Files = codes "cli: files\n"
fixed_line_of (Io file) = []
fixed_line_of (Jasmin file f) = []
fixed_line_of (Trace file f) = []
fixed_line_of (Link f) = []
fixed_line_of Order = codes "cli: order\n"
fixed_line_of Steps = codes "cli: steps\n"
fixed_line_of Patience = codes "cli: patience\n"
fixed_line_of Edition = codes "cli: edition\n"
fixed_line_of Mains = codes "cli: mains\n"
fixed_line_of Code = codes "cli: code\n"
fixed_line_of Threads = codes "threads\n"
fixed_line_of Memory = codes "memory\n"
fixed_line_of Output = codes "io: output\n"
fixed_line_of Lines = []

-- what is wrong, and of which file or class
abbrev pub fault_line : Fault → List ℕ
fault_line (Io file) = io_line file.now
fault_line (Jasmin file f) = jasmin_line file.now f
fault_line (Trace file f) = trace_line file.now f
fault_line (Link f) = link_line f
fault_line f = fixed_line_of f

-- The text of a trace: a line an event, numbered from 0, words separated by one space.
use Rattle.std.specs.Prelude.{ℕ, ◌+◌, List, [], ◌∷◌, ◌++◌, Option, Some, None, codes, decimal, unwrap_or, slice_get}
use Rattle.std.specs.Fmt.{signed_decimal}
use Rattle.descriptors.specs.Spelling.{field_spelling}
use Rattle.jasmin_words.specs.Quoting.{quoted}
use Rattle.jasmin_text.specs.declared.class_text.Field.{Field}
use Rattle.hierarchy.specs.declared.class.ClassId.{ClassId}
use Rattle.hierarchy.specs.declared.value.Value.{Value}
use Rattle.hierarchy.specs.declared.value.Value.TheVariants as value
use Rattle.hierarchy.specs.LinkedProgram.{LinkedProgram, name_at}
use Rattle.statics.specs.Statics.{static_fields}
use Rattle.init_core.specs.declared.event.Event.{Event}
use Rattle.init_core.specs.declared.event.Kind.{Kind}
use Rattle.init_core.specs.declared.event.Kind.TheVariants as kind

abbrev pub class_text : LinkedProgram → ClassId → List ℕ
class_text p c = unwrap_or (name_at p c) []

abbrev pub event_class_text : LinkedProgram → Option ClassId → List ℕ
event_class_text p None = []
event_class_text p (Some c) = class_text p c

abbrev pub throwable_text : LinkedProgram → Option ClassId → List ℕ
throwable_text p None = []
throwable_text p (Some e) = codes " " ++ class_text p e

-- <n> t<thread>
abbrev pub head : ℕ → ℕ → List ℕ
head n t = decimal n ++ codes " t" ++ decimal t

-- step<k> <class>, for a step of JLS SE 8 12.4.2; with the throwable after it where there is one
abbrev pub step_text : LinkedProgram → ℕ → Option ClassId → Option ClassId → List ℕ
step_text p k c e = codes " step" ++ decimal k ++ codes " " ++ event_class_text p c ++ throwable_text p e

abbrev pub field_in_trace : Option Field → List ℕ
field_in_trace None = []
field_in_trace (Some f) = f.name ++ codes ":" ++ field_spelling f.field_type

-- <field>:<descriptor>, of a static field by its place among those of its class
abbrev pub field_text : LinkedProgram → Option ClassId → ℕ → List ℕ
field_text p None place = []
field_text p (Some c) place = field_in_trace (slice_get (static_fields p c) place)

-- an int in decimal; null; # and the number of a reference
abbrev pub value_text : Value → List ℕ
value_text (value.Int n) = signed_decimal n
value_text value.Null = codes "null"
value_text (value.Reference number) = codes "#" ++ decimal number

-- get or put, <class> <field>:<descriptor> <value>
abbrev pub use_text : LinkedProgram → List ℕ → Option ClassId → ℕ → Value → List ℕ
use_text p word c place v = word ++ event_class_text p c ++ codes " " ++ field_text p c place ++ codes " " ++ value_text v

-- what follows the number and the thread
abbrev pub kind_text : LinkedProgram → Option ClassId → Kind → List ℕ
kind_text p c kind.Waits = step_text p 2 c None
kind_text p c kind.Recurs = step_text p 3 c None
kind_text p c kind.FindsInitialized = step_text p 4 c None
kind_text p c kind.FindsErroneous = step_text p 5 c None
kind_text p c kind.Begins = step_text p 6 c None
kind_text p c (kind.SuperFails e) = step_text p 7 c (Some e)
kind_text p c kind.Runs = step_text p 9 c None
kind_text p c kind.Completes = step_text p 10 c None
kind_text p c (kind.Fails e) = step_text p 12 c (Some e)
kind_text p c (kind.Gets place v) = use_text p (codes " get ") c place v
kind_text p c (kind.Puts place v) = use_text p (codes " put ") c place v
kind_text p c (kind.Prints text) = codes " print " ++ quoted text

abbrev pub line : LinkedProgram → ℕ → Event → List ℕ
line p n e = head n e.thread ++ kind_text p e.class e.kind ++ codes "\n"

abbrev pub trace_from : LinkedProgram → ℕ → List Event → List ℕ
trace_from p n [] = []
trace_from p n (e ∷ es) = line p n e ++ trace_from p (n + 1) es

-- the trace of these events
abbrev pub trace_of : LinkedProgram → List Event → List ℕ
trace_of p events = trace_from p 0 events

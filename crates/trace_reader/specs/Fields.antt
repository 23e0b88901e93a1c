-- The static field that a word names, and its value.
use Rattle.std.specs.Prelude.{ℕ, ℤ, ◌+◌, List, [], ◌∷◌, ◌==◌, nat_lt, codes, Option, Some, None, Result, Ok, Err, if◌then◌else◌}
use Rattle.std.specs.Ordering.{int_eq}
use Rattle.std.specs.List.{list_any}
use Rattle.std.specs.Str.{bytes_eq}
use Rattle.descriptors.specs.declared.base.BaseType.{BaseType}
use Rattle.jasmin_text.specs.declared.class_text.Field.{Field}
use Rattle.hierarchy.specs.declared.class.ClassId.{ClassId}
use Rattle.hierarchy.specs.declared.value.Value.{Value}
use Rattle.hierarchy.specs.declared.value.Value.TheVariants as value
use Rattle.hierarchy.specs.LinkedProgram.{LinkedProgram}
use Rattle.statics.specs.Statics.{base_in, narrowed_int, static_fields}
use Rattle.trace.specs.TraceText.{field_in_trace}
use Rattle.trace_reader.specs.declared.fault.TraceFaultKind.{TraceFaultKind}
use Rattle.trace_reader.specs.declared.fault.TraceFaultKind.TheVariants.{BadLine, UnknownName, BadValue}
use Rattle.trace_reader.specs.Numbers.{int_in, number_in}

-- the place of the field that is spelled so among these, counted on, and its base type
abbrev pub field_from : ℕ → List Field → List ℕ → Option (ℕ × Option BaseType)
field_from place [] word = None
field_from place (f ∷ fs) word = if bytes_eq (field_in_trace (Some f)) word then Some (place, base_in f.field_type) else field_from (place + 1) fs word

abbrev pub known_field : Option (ℕ × Option BaseType) → List ℕ → Result (ℕ × Option BaseType) TraceFaultKind
known_field (Some f) word = Ok f
known_field None word = if list_any (λ b. b == 58) word then Err UnknownName else Err BadLine

-- <field>:<descriptor>
unfoldable pub field_at : LinkedProgram → ClassId → List ℕ → Result (ℕ × Option BaseType) TraceFaultKind
field_at p c word = known_field (field_from 0 (static_fields p c) word) word

-- an int that the field keeps whole
abbrev pub kept : BaseType → Option ℤ → Option Value
kept base (Some n) = if int_eq (narrowed_int base n) n then Some (value.Int n) else None
kept base None = None

-- the numbers of references in a trace are below this
abbrev pub most_references : ℕ
most_references = 1000000

abbrev pub referred : Option ℕ → Option Value
referred (Some n) = if nat_lt n most_references then Some (value.Reference n) else None
referred None = None

-- # and a number
abbrev pub reference_in : List ℕ → Option Value
reference_in [] = None
reference_in (b ∷ digits) = if b == 35 then referred (number_in digits) else None

abbrev pub value_in : Option BaseType → List ℕ → Option Value
value_in (Some base) word = kept base (int_in word)
value_in None word = if bytes_eq word (codes "null") then Some value.Null else reference_in word

abbrev pub value_or_bad : Option Value → Result Value TraceFaultKind
value_or_bad (Some v) = Ok v
value_or_bad None = Err BadValue

-- a value of a field of this base type, or without one a reference
unfoldable pub value_at : Option BaseType → List ℕ → Result Value TraceFaultKind
value_at base word = value_or_bad (value_in base word)

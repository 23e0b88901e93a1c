-- What references refer to while a program runs (JVMS SE 8 2.4, 2.5.3).
use Rattle.std.specs.Prelude.{ℕ, ◌+◌, ◌-◌, nat_le, Bool, true, false, ◌==◌, List, [], ◌∷◌, ◌++◌, Option, Some, None, length, slice_get, replicate, if◌then◌else◌}
use Rattle.descriptors.specs.declared.base.BaseType.{BaseType}
use Rattle.hierarchy.specs.declared.built_in.BuiltIn.{BuiltIn}
use Rattle.hierarchy.specs.declared.built_in.BuiltIn.TheVariants.{String, PrintStream, OutOfMemoryError, NoClassDefFoundError}
use Rattle.hierarchy.specs.declared.class.ClassId.{ClassId}
use Rattle.code.specs.declared.class_code.Element.{Element}
use Rattle.code.specs.declared.class_code.Element.TheVariants as element
use Rattle.code.specs.declared.class_code.ResolvedType.{ResolvedType}
use Rattle.hierarchy.specs.declared.ready.ReadyObject.{ReadyObject}
use Rattle.hierarchy.specs.declared.ready.ReadyObject.TheVariants as ready
use Rattle.hierarchy.specs.declared.value.Value.{Value}
use Rattle.hierarchy.specs.LinkedProgram.{LinkedProgram, built_in}
use Rattle.hierarchy.specs.Objects.{object_fields, objects_at_start}
use Rattle.statics.specs.Statics.{default_in}
use Rattle.heap.specs.declared.object.HeapObject.{HeapObject}
use Rattle.heap.specs.declared.object.HeapObject.TheVariants.{Instance, Array}
use Rattle.frames.specs.declared.thrown.Thrown.{Thrown}

-- how many references there are before the program runs; each takes a cell
abbrev pub ready_count : LinkedProgram → ℕ
ready_count p = length (objects_at_start p)

-- an object takes one cell and one for each field, an array one and one for each element
abbrev pub cells_of : HeapObject → ℕ
cells_of (Instance c fields) = 1 + length fields
cells_of (Array type elements) = 1 + length elements

abbrev pub cells_of_all : List HeapObject → ℕ
cells_of_all [] = 0
cells_of_all (o ∷ made) = cells_of o + cells_of_all made

abbrev pub cells_taken : LinkedProgram → List HeapObject → ℕ
cells_taken p made = ready_count p + cells_of_all made

-- the heap has a million cells
abbrev pub has_cells : LinkedProgram → List HeapObject → ℕ → Bool
has_cells p made cells = nat_le (cells_taken p made + cells) 1000000

-- what is made next gets this reference
abbrev pub next_reference : LinkedProgram → List HeapObject → ℕ
next_reference p made = ready_count p + length made

-- an object or array is made, where the heap has room for it
abbrev pub reference_of_new : LinkedProgram → List HeapObject → HeapObject → Option ℕ
reference_of_new p made o = if has_cells p made (cells_of o) then Some (next_reference p made) else None

abbrev pub with_new : LinkedProgram → List HeapObject → HeapObject → List HeapObject
with_new p made o = if has_cells p made (cells_of o) then made ++ o ∷ [] else made

-- an object whose fields were never written
abbrev pub new_object : LinkedProgram → ClassId → HeapObject
new_object p c = Instance c (replicate (length (object_fields p c)) None)

abbrev pub base_of_element : Element → Option BaseType
base_of_element (element.Base base) = Some base
base_of_element e = None

-- the base type that a type is, if it is one
abbrev pub base_of_type : ResolvedType → Option BaseType
base_of_type type = if type.dimensions == 0 then base_of_element type.element else None

-- zero, or null (2.3, 2.4)
abbrev pub default_of_type : ResolvedType → Value
default_of_type type = default_in (base_of_type type)

-- an array whose elements hold the default of their type
abbrev pub new_array : ResolvedType → ℕ → HeapObject
new_array type n = Array type (replicate n (default_of_type type))

-- the array of no texts that main takes
abbrev pub no_texts : LinkedProgram → HeapObject
no_texts p = new_array (record { dimensions = 0; element = element.Class (built_in p String).number }) 0

-- what a reference refers to: one of the ready objects, a quoted text, or what was made
abbrev pub ready_class : LinkedProgram → ReadyObject → ClassId
ready_class p ready.Out = built_in p PrintStream
ready_class p ready.OutOfMemoryError = built_in p OutOfMemoryError
ready_class p ready.NoClassDefFoundError = built_in p NoClassDefFoundError
ready_class p ready.Text = built_in p String

abbrev pub ready_or_made : LinkedProgram → Option ReadyObject → Option HeapObject → Option HeapObject
ready_or_made p (Some o) made = Some (Instance (ready_class p o) [])
ready_or_made p None made = made

abbrev pub object_at : LinkedProgram → List HeapObject → ℕ → Option HeapObject
object_at p made reference = ready_or_made p (slice_get (objects_at_start p) reference) (slice_get made (reference - ready_count p))

abbrev pub made_unless : Option ReadyObject → Option HeapObject → Option HeapObject
made_unless (Some o) made = None
made_unless None made = made

-- what was made alone
abbrev pub made_at : LinkedProgram → List HeapObject → ℕ → Option HeapObject
made_at p made reference = made_unless (slice_get (objects_at_start p) reference) (slice_get made (reference - ready_count p))

-- the ready OutOfMemoryError and NoClassDefFoundError
abbrev pub ready_out_of_memory : LinkedProgram → Thrown
ready_out_of_memory p = record { reference = 1; class = built_in p OutOfMemoryError }

abbrev pub ready_no_class : LinkedProgram → Thrown
ready_no_class p = record { reference = 2; class = built_in p NoClassDefFoundError }

abbrev pub is_no_class : BuiltIn → Bool
is_no_class NoClassDefFoundError = true
is_no_class b = false

-- The machine throws its ready NoClassDefFoundError itself. Of another throwable it makes a new object, which has no field, and
-- throws its ready OutOfMemoryError instead where the heap is full.
abbrev pub thrown_by : LinkedProgram → BuiltIn → List HeapObject → Thrown
thrown_by p b made = if is_no_class b then ready_no_class p else if has_cells p made 1 then record { reference = next_reference p made; class = built_in p b } else ready_out_of_memory p

-- a new object is made of it
abbrev pub makes_thrown : LinkedProgram → BuiltIn → List HeapObject → Bool
makes_thrown p b made = if is_no_class b then false else has_cells p made 1

abbrev pub with_thrown : LinkedProgram → BuiltIn → List HeapObject → List HeapObject
with_thrown p b made = if is_no_class b then made else with_new p made (Instance (built_in p b) [])

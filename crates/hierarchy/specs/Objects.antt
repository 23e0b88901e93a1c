-- Objects: the fields that one has, each in a cell of its own (JLS SE 8 12.5), and those that are ready from the start.
use Rattle.std.specs.Prelude.{◌≡◌, ℕ, ◌≤◌, ◌+◌, ◌-◌, nat_lt, Bool, not, List, [], ◌∷◌, ◌++◌, Option, Some, None, filter, length, map, reverse, slice_get, take, if◌then◌else◌}
use Rattle.std.specs.List.{flat_map}
use Rattle.jasmin_text.specs.declared.class_text.Field.{Field}
use Rattle.hierarchy.specs.declared.class.Class.{Class}
use Rattle.hierarchy.specs.declared.class.ClassId.{ClassId}
use Rattle.hierarchy.specs.declared.fields.FieldId.{FieldId}
use Rattle.hierarchy.specs.declared.fields.FieldId.TheVariants.{Declared}
use Rattle.hierarchy.specs.declared.ready.ReadyObject.{ReadyObject}
use Rattle.hierarchy.specs.declared.ready.ReadyObject.TheVariants as ready
use Rattle.hierarchy.specs.Ancestry.{superclass_of, superclasses}
use Rattle.hierarchy.specs.LinkedProgram.{LinkedProgram}
use Rattle.hierarchy.specs.OwnNames.{fields_of}
use Rattle.hierarchy.specs.Quoted.{quoted_texts}

abbrev pub is_instance_field : Field → Bool
is_instance_field f = not f.access.is_static

-- the instance fields among these, where the list starts at place k of c
abbrev pub instance_fields_from : ClassId → ℕ → List Field → List FieldId
instance_fields_from c k [] = []
instance_fields_from c k (f ∷ fs) = if is_instance_field f then Declared c k ∷ instance_fields_from c (k + 1) fs else instance_fields_from c (k + 1) fs

-- the instance fields that c declares, in file order
abbrev pub own_instance_fields : LinkedProgram → ClassId → List FieldId
own_instance_fields p c = instance_fields_from c 0 (fields_of p c)

-- the fields of an object of c, cell by cell: those of its superclasses from the top down, then those of c
abbrev pub object_fields : LinkedProgram → ClassId → List FieldId
object_fields p c = flat_map (own_instance_fields p) (reverse (superclasses p.classes c))

-- no class of the files declares more than 1,024 fields, as none does that a file can spell
abbrev pub HaveFewFields : List Class → Type 0
HaveFewFields classes = (n : ℕ) (class : Class) → slice_get classes n ≡ Some class → length class.fields ≤ 1024

abbrev pub cells_in : LinkedProgram → Option ClassId → ℕ
cells_in p None = 0
cells_in p (Some c) = length (object_fields p c)

abbrev pub field_cell_in : LinkedProgram → ClassId → ℕ → Option Field → Option ℕ
field_cell_in p c place None = None
field_cell_in p c place (Some f) = if is_instance_field f then Some (cells_in p (superclass_of p.classes c) + length (filter is_instance_field (take place (fields_of p c)))) else None

-- the cell of the instance field at this place of c: after those of the superclass and of the fields before
abbrev pub field_cell : LinkedProgram → ClassId → ℕ → Option ℕ
field_cell p c place = field_cell_in p c place (slice_get (fields_of p c) place)

abbrev pub ready_objects : List ReadyObject
ready_objects = ready.Out ∷ ready.OutOfMemoryError ∷ ready.NoClassDefFoundError ∷ []

-- what the references from 0 on refer to before a program runs: three ready objects, then its quoted texts
abbrev pub objects_at_start : LinkedProgram → List ReadyObject
objects_at_start p = ready_objects ++ map (λ t. ready.Text) (quoted_texts p.classes)

-- the quoted text to which a reference refers
abbrev pub text_at : LinkedProgram → ℕ → Option (List ℕ)
text_at p reference = if nat_lt reference 3 then None else slice_get (quoted_texts p.classes) (reference - 3)

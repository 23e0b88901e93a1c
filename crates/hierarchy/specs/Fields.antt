-- Field resolution (JVMS SE 8 5.4.3.2).
use Rattle.std.specs.Prelude.{ℕ, ◌-◌, ◌==◌, Bool, true, false, not, ◌&&◌, List, ◌++◌, Option, Some, None, Result, Ok, Err, length, slice_get, nat_eq, codes, if◌then◌else◌}
use Rattle.std.specs.Str.{bytes_eq}
use Rattle.std.specs.Cmp.Lexicographic.{pointwise}
use Rattle.descriptors.specs.Same.{same_field}
use Rattle.descriptors.specs.declared.field.ElementType.{ElementType}
use Rattle.descriptors.specs.declared.field.ElementType.TheVariants.{Base, Class as OfClass}
use Rattle.descriptors.specs.declared.field.FieldType.{FieldType}
use Rattle.jasmin_text.specs.declared.class_text.Field.{Field}
use Rattle.hierarchy.specs.declared.class.Class.{Class}
use Rattle.hierarchy.specs.declared.class.ClassId.{ClassId}
use Rattle.hierarchy.specs.declared.built_in.BuiltIn.{BuiltIn}
use Rattle.hierarchy.specs.declared.built_in.BuiltIn.TheVariants.{System, NoSuchFieldError, IncompatibleClassChangeError}
use Rattle.hierarchy.specs.declared.fields.FieldId.{FieldId}
use Rattle.hierarchy.specs.declared.fields.FieldId.TheVariants.{Declared, Out}
use Rattle.hierarchy.specs.declared.fields.FieldKind.{FieldKind}
use Rattle.hierarchy.specs.declared.fields.FieldKind.TheVariants as field_kind
use Rattle.hierarchy.specs.declared.fields.DeclaredField.{DeclaredField}
use Rattle.hierarchy.specs.BuiltIn.{built_ins}
use Rattle.hierarchy.specs.LinkedProgram.{LinkedProgram, class_at}
use Rattle.hierarchy.specs.Hierarchy.{interfaces_of}
use Rattle.hierarchy.specs.Members.{first_from}
use Rattle.hierarchy.specs.Ancestry.{ancestry, superclass_alone, first_given}

-- the direct superinterfaces in order, then the superclass
abbrev pub interfaces_first : List Class → ClassId → List ClassId
interfaces_first classes c = interfaces_of classes c ++ superclass_alone classes c

-- The classes in which a field is looked up: C, then those of each direct superinterface in order, then those of
-- the superclass.
abbrev pub field_order : List Class → ClassId → List ClassId
field_order classes c = ancestry classes (interfaces_first classes) c

-- whether a field has that name and descriptor
abbrev pub is_field : List ℕ → FieldType → Field → Bool
is_field name type f = pointwise nat_eq f.name name && same_field f.field_type type

abbrev pub field_at : ClassId → ℕ → Field → DeclaredField
field_at c k f = record { id = Declared c k; is_static = f.access.is_static }

abbrev pub field_from : ClassId → ℕ → List ℕ → FieldType → List Field → Option DeclaredField
field_from c k name type fs = first_from (is_field name type) (field_at c) k fs

abbrev pub is_class_element : List ℕ → ElementType → Bool
is_class_element name (Base b) = false
is_class_element name (OfClass n) = bytes_eq n name

-- whether a type is the class of that name
abbrev pub is_class_type : List ℕ → FieldType → Bool
is_class_type name type = type.dimensions == 0 && is_class_element name type.element

-- out Ljava/io/PrintStream;
abbrev pub is_out : List ℕ → FieldType → Bool
is_out name type = bytes_eq name (codes "out") && is_class_type (codes "java/io/PrintStream") type

-- Of the built-in classes java/lang/System declares a field, static out Ljava/io/PrintStream;.
abbrev pub built_in_field : Option BuiltIn → List ℕ → FieldType → Option DeclaredField
built_in_field (Some System) name type = if is_out name type then Some (record { id = Out; is_static = true }) else None
built_in_field _ name type = None

abbrev pub field_in : ClassId → List ℕ → FieldType → Option Class → Option BuiltIn → Option DeclaredField
field_in c name type (Some class) b = field_from c 0 name type class.fields
field_in c name type None b = built_in_field b name type

-- the field of that name and descriptor that c declares
abbrev pub declared_field : LinkedProgram → List ℕ → FieldType → ClassId → Option DeclaredField
declared_field p name type c = field_in c name type (class_at p c) (slice_get built_ins (c.number - length p.classes))

abbrev pub is_of_kind : FieldKind → DeclaredField → Bool
is_of_kind field_kind.Static f = f.is_static
is_of_kind field_kind.Instance f = not f.is_static

abbrev pub field_result : FieldKind → Option DeclaredField → Result FieldId BuiltIn
field_result kind None = Err NoSuchFieldError
field_result kind (Some f) = if is_of_kind kind f then Ok f.id else Err IncompatibleClassChangeError

-- The field that a reference names: that of the first class in order which declares it. None: NoSuchFieldError.
-- A static field where an instance field is wanted, or the reverse (chapter 6): IncompatibleClassChangeError.
abbrev pub resolved_field : LinkedProgram → ClassId → List ℕ → FieldType → FieldKind → Result FieldId BuiltIn
resolved_field p c name type kind = field_result kind (first_given (declared_field p name type) (field_order p.classes c))

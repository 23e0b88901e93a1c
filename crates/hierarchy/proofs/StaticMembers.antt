-- Static members that a class of the files declares, as resolution finds them (JVMS SE 8 5.4.3.2, 5.4.3.3).
use Rattle.std.specs.Prelude.{◌≡◌, ℕ, true, Some, slice_get}
use Rattle.jasmin_text.specs.declared.class_text.Field.{Field}
use Rattle.jasmin_text.specs.declared.class_text.Method.{Method}
use Rattle.hierarchy.specs.declared.class.ClassId.{ClassId}
use Rattle.hierarchy.specs.declared.declared_method.MethodId.{MethodId}
use Rattle.hierarchy.specs.declared.declared_method.MethodId.TheVariants as method_id
use Rattle.hierarchy.specs.declared.fields.FieldId.{FieldId}
use Rattle.hierarchy.specs.declared.fields.FieldId.TheVariants as field_id
use Rattle.hierarchy.specs.LinkedProgram.{LinkedProgram}
use Rattle.hierarchy.specs.OwnNames.{fields_of, methods_of}

-- the field at this place of c is there, and static
pub record DeclaresStaticField (p : LinkedProgram) (c : ClassId) (place : ℕ) : Type 0 where
  pub field : Field
  pub there : slice_get (fields_of p c) place ≡ Some field
  pub marked : field.access.is_static ≡ true

-- the method at this place of c is there, and static
pub record DeclaresStaticMethod (p : LinkedProgram) (c : ClassId) (place : ℕ) : Type 0 where
  pub method : Method
  pub there : slice_get (methods_of p c) place ≡ Some method
  pub marked : method.access.is_static ≡ true

-- a static field, of a class of the files if it isn't out of java/lang/System
abbrev pub IsStaticField : LinkedProgram → FieldId → Type 0
IsStaticField p (field_id.Declared c place) = DeclaresStaticField p c place
IsStaticField p field_id.Out = Unit {0}

-- a static method of a class of the files, or a method of a built-in class
abbrev pub IsStaticMethod : LinkedProgram → MethodId → Type 0
IsStaticMethod p (method_id.Declared c place) = DeclaresStaticMethod p c place
IsStaticMethod p (method_id.BuiltIn b m) = Unit {0}

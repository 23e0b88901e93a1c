-- The type of a method as contracts see it (JVMS SE 8 4.3.3).
use Rattle.std.specs.Prelude.{List, Option}
use Rattle.descriptors.specs.declared.field.FieldType.{FieldType}

-- the types of the parameters, and of the result, None where it is void
pub record Signature : Type 0 where
  pub parameters : List FieldType
  pub result : Option FieldType

-- What a bank is to its callers.
use Rattle.std.specs.Prelude.{List}
use Rattle.hierarchy.specs.declared.value.Value.{Value}
use Rattle.statics.specs.declared.static_field.StaticField.{StaticField}

-- what is known of each static field, and what each holds
pub record BankState : Type 0 where
  pub fields : List StaticField
  pub values : List Value

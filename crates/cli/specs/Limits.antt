-- How far each thread may go, as the command line says it.
use Rattle.std.specs.Prelude.{◌≡◌, ℕ, ◌≤◌, List, Option, Some, None}
use Rattle.std.specs.Str.Parse.{IsNumeral, digits_value}
use Rattle.bodies.specs.declared.report.Limits.{Limits}
use Rattle.cli.specs.declared.fault.Fault.{Fault}
use Rattle.cli.specs.declared.fault.Fault.TheVariants.{Patience, Steps}

-- decimal digits alone, which write this number; zeros may lead
abbrev pub IsNumber : List ℕ → ℕ → Type 0
IsNumber digits n = IsNumeral 10 digits × (n ≡ digits_value 10 digits)

-- the instructions that the text of `--steps` says: a decimal number from 1 to 100,000,000; 1,000,000 where the option isn't given
abbrev pub IsSteps : Option (List ℕ) → ℕ → Type 0
IsSteps None n = n ≡ 1000000
IsSteps (Some digits) n = IsNumber digits n × (1 ≤ n) × (n ≤ 100000000)

-- the patience that the text of `--patience` says: a decimal number up to 1,000,000,000; 0 where the option isn't given
abbrev pub IsPatience : Option (List ℕ) → ℕ → Type 0
IsPatience None n = n ≡ 0
IsPatience (Some digits) n = IsNumber digits n × (n ≤ 1000000000)

-- the limits that the texts of `--steps` and `--patience` say
pub record AreLimits (steps patience : Option (List ℕ)) (limits : Limits) : Type 0 where
  pub steps_said : IsSteps steps limits.steps
  pub patience_said : IsPatience patience limits.patience

-- why the texts of `--steps` and `--patience` say no limits: the first fault, in this order
pub data IsLimitRefusal (steps patience : Option (List ℕ)) : Fault → Type 0 where
  no_steps : ((n : ℕ) → IsSteps steps n → ⊥) → IsLimitRefusal steps patience Steps
  no_patience : (n : ℕ) → IsSteps steps n → ((m : ℕ) → IsPatience patience m → ⊥) → IsLimitRefusal steps patience Patience

-- Words that have the name of a member in them: after its class, before its descriptor.
use Rattle.std.specs.Prelude.{ℕ, ◌+◌, Bool, List, [], ◌∷◌, take, drop, Option, Some, None, Result, Ok, Err, ◌==◌, if◌then◌else◌}
use Rattle.descriptors.specs.ClassName.{is_class_name}
use Rattle.jasmin_words.specs.Names.{is_member_name}
use Rattle.jasmin_words.specs.declared.fault.FaultKind.{FaultKind}
use Rattle.jasmin_words.specs.declared.fault.FaultKind.TheVariants as fault
use Rattle.sequence.specs.Gives.{◌>>=◌}

abbrev pub checked : Bool → List ℕ → Result (List ℕ) FaultKind
checked b w = if b then Ok w else Err fault.BadOperand

abbrev pub class_name_in : List ℕ → Result (List ℕ) FaultKind
class_name_in w = checked (is_class_name w) w

abbrev pub member_name_in : List ℕ → Result (List ℕ) FaultKind
member_name_in w = checked (is_member_name w) w

-- how many bytes come before the last slash
abbrev pub slash_in : List ℕ → Option ℕ
slash_in [] = None
slash_in (b ∷ bs) = elim (slash_in bs) [ Some n ↦ Some (n + 1) | None ↦ if b == 47 then Some 0 else None ]

abbrev pub member_at : List ℕ → Option ℕ → Result (List ℕ × List ℕ) FaultKind
member_at w None = Err fault.BadOperand
member_at w (Some n) = class_name_in (take n w) >>= λ class. member_name_in (drop (n + 1) w) >>= λ name. Ok (class, name)

-- a class and a member's name; the last slash separates them
unfoldable pub member_in : List ℕ → Result (List ℕ × List ℕ) FaultKind
member_in w = member_at w (slash_in w)

-- how many bytes come before the first (
abbrev pub name_len : List ℕ → ℕ
name_len [] = 0
name_len (b ∷ bs) = if b == 40 then 0 else 1 + name_len bs

-- what comes before the descriptor of a method
abbrev pub before_type : List ℕ → List ℕ
before_type w = take (name_len w) w

-- the descriptor of a method
abbrev pub type_part : List ℕ → List ℕ
type_part w = drop (name_len w) w

-- The letters of descriptors (JVMS SE 8 4.3.2, table 4.3-A; 4.3.3).
use Rattle.std.specs.Prelude.{ℕ, Bool, ◌||◌, Option, Some, None, ◌==◌, if◌then◌else◌}
use Rattle.descriptors.specs.declared.base.BaseType.{BaseType}
use Rattle.descriptors.specs.declared.base.BaseType.TheVariants.{Boolean, Byte, Char, Short, Int}

-- Z B C S I
abbrev pub letter_of : BaseType → ℕ
letter_of Boolean = 90
letter_of Byte = 66
letter_of Char = 67
letter_of Short = 83
letter_of Int = 73

abbrev pub base_of_letter : ℕ → Option BaseType
base_of_letter c = if c == 90 then Some Boolean else if c == 66 then Some Byte else if c == 67 then Some Char else if c == 83 then Some Short else if c == 73 then Some Int else None

-- J F D, the letters of long, float and double
abbrev pub is_left_out : ℕ → Bool
is_left_out c = c == 74 || c == 70 || c == 68

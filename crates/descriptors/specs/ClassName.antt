-- The name of a class or interface in its internal form (JVMS SE 8 4.2.1).
use Rattle.std.specs.Prelude.{◌≡◌, ℕ, Bool, true, not, ◌&&◌, List, [], ◌∷◌, nat_lt, ◌==◌, if◌then◌else◌}
use Rattle.std.specs.List.{list_all}
use Rattle.sequence.specs.Parts.{with_byte, is_some_byte}

-- a byte that may be in a segment: from 33 to 126, and none of . ; : = " [ ( ) which other texts need
abbrev pub is_name_byte : ℕ → Bool
is_name_byte b = nat_lt 32 b && nat_lt b 127 && not (b == 46) && not (b == 59) && not (b == 58) && not (b == 61) && not (b == 34) && not (b == 91) && not (b == 40) && not (b == 41)

-- the segments between the slashes
abbrev pub segments : List ℕ → List (List ℕ)
segments [] = [] ∷ []
segments (b ∷ bs) = if b == 47 then [] ∷ segments bs else with_byte b (segments bs)

-- one byte or more, each of which may be in a segment
abbrev pub is_segment : List ℕ → Bool
is_segment s = is_some_byte s && list_all is_name_byte s

-- the test: each segment is one
unfoldable pub is_class_name : List ℕ → Bool
is_class_name name = list_all is_segment (segments name)

-- the bytes are the name of a class or interface
abbrev pub IsClassName : List ℕ → Type 0
IsClassName name = is_class_name name ≡ true

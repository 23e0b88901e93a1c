-- Lists of classes without repeats.
use Rattle.std.specs.Prelude.{Bool, ◌==◌, List, [], ◌∷◌, ◌++◌, if◌then◌else◌}
use Rattle.std.specs.List.{list_any, fold}
use Rattle.hierarchy.specs.declared.class.ClassId.{ClassId}

abbrev pub same_class : ClassId → ClassId → Bool
same_class c d = c.number == d.number

abbrev pub is_among : ClassId → List ClassId → Bool
is_among c found = list_any (same_class c) found

-- c at the end unless it is there already
abbrev pub add_new : List ClassId → ClassId → List ClassId
add_new found c = if is_among c found then found else found ++ c ∷ []

-- each in turn: of repeats the first is kept
abbrev pub add_all : List ClassId → List ClassId → List ClassId
add_all found cs = fold add_new found cs

abbrev pub distinct : List ClassId → List ClassId
distinct cs = add_all [] cs

-- c is one of them
pub data Among : ClassId → List ClassId → Type 0 where
  first : {c : ClassId} {cs : List ClassId} → Among c (c ∷ cs)
  later : {c d : ClassId} {cs : List ClassId} → Among c cs → Among c (d ∷ cs)

-- P holds of each
abbrev pub Every : (ClassId → Type 0) → List ClassId → Type 0
Every P [] = Unit {0}
Every P (c ∷ cs) = P c × Every P cs

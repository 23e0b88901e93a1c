-- Members: two are one member where they have one name and one descriptor (JVMS SE 8 4.5, 4.6).
use Rattle.std.specs.Prelude.{ℕ, ◌+◌, Bool, false, ◌&&◌, ◌||◌, List, [], ◌∷◌, Option, Some, None, nat_eq, if◌then◌else◌}
use Rattle.std.specs.List.{list_any}
use Rattle.std.specs.Cmp.Lexicographic.{pointwise}
use Rattle.descriptors.specs.Same.{same_field, same_method}
use Rattle.jasmin_text.specs.declared.class_text.Field.{Field}
use Rattle.jasmin_text.specs.declared.class_text.Method.{Method}
use Rattle.hierarchy.specs.declared.class.Class.{Class}

abbrev pub same_field_member : Field → Field → Bool
same_field_member f g = pointwise nat_eq f.name g.name && same_field f.field_type g.field_type

abbrev pub same_method_member : Method → Method → Bool
same_method_member m n = pointwise nat_eq m.name n.name && same_method m.method_type n.method_type

-- whether one is the same as a later one
abbrev pub repeats : {X : Type 0} → (X → X → Bool) → List X → Bool
repeats same [] = false
repeats same (x ∷ xs) = list_any (same x) xs || repeats same xs

-- whether a class declares a field twice, or a method twice
abbrev pub repeats_member : Class → Bool
repeats_member c = repeats same_field_member c.fields || repeats same_method_member c.methods

-- the first member that passes, made with its place, where the list starts at place k
abbrev pub first_from : {X D : Type 0} → (X → Bool) → (ℕ → X → D) → ℕ → List X → Option D
first_from is made k [] = None
first_from is made k (x ∷ xs) = if is x then Some (made k x) else first_from is made (k + 1) xs

-- How many methods a search finds.
use Rattle.std.specs.Prelude.{List, [], ◌∷◌}
use Rattle.hierarchy.specs.declared.declared_method.DeclaredMethod.{DeclaredMethod}
use Rattle.hierarchy.specs.declared.lookup.Found.{Found}
use Rattle.hierarchy.specs.declared.lookup.Found.TheVariants.{Nothing, One, Several}

-- none, exactly one, or more
abbrev pub found_of : List DeclaredMethod → Found
found_of [] = Nothing
found_of (m ∷ []) = One m
found_of (m ∷ n ∷ ms) = Several

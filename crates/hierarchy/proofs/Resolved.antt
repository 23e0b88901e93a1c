-- Supertypes resolved one after the other.
use Rattle.std.proofs.Common.{List, ◌++◌, Result, Ok, Err}

-- what was found before, and then the rest
abbrev pub after_these : {X E : Type 0} → List X → Result (List X) E → Result (List X) E
after_these found (Ok cs) = Ok (found ++ cs)
after_these found (Err k) = Err k

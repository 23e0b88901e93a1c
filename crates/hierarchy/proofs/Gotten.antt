-- What `get` of a slice returns, as the list has it.
use Rattle.std.proofs.Common.{◌≡◌, ℕ, ◌<◌, ◌≤◌, Option, Some, None, List, Bor, length, get_or, slice_get, option_copied, IfSome, refl, sym}
use Rattle.std.specs.List.{HoldsAt}
use Rattle.std.specs.Option.{MatchOption}
use Rattle.std.proofs.lemmas.Option.{slice_get_past, slice_get_read}

pub gotten : {X : Type 0} (xs : List X) (n : ℕ) (found : Option (Bor X)) → IfSome found (λ x. x.now ≡ get_or xs n x.now) → MatchOption found (length xs ≤ n) (λ x. (n < length xs) × HoldsAt (λ y. x.now ≡ y) xs n) → option_copied found ≡ slice_get xs n
gotten xs n None got within = sym (slice_get_past xs n within)
gotten xs n (Some x) got within = sym (slice_get_read xs (length xs) n x.now refl within.0 got)

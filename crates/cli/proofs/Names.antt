-- Lists of names, read from the left.
use Rattle.std.proofs.Common.{◌++◌, ℕ, List, Option, option_map}
use Rattle.hierarchy.specs.declared.class.ClassId.{ClassId}

-- these classes, and after them further ones, where those are there
abbrev pub behind : List ClassId → Option (List ClassId) → Option (List ClassId)
behind first o = option_map (λ cs. first ++ cs) o

-- this text, and after it further ones, where those are there
abbrev pub after_text : List ℕ → Option (List ℕ) → Option (List ℕ)
after_text first o = option_map (λ more. first ++ more) o

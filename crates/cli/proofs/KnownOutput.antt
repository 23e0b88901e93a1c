-- Writers whose bytes are known.
use Rattle.std.proofs.Common.{◌∙◌, ap, append_assoc, refl, List, ℕ, ◌++◌, Option, Some, None}
use Rattle.std.specs.Io.KnownBytes.{Appends, Keeps}

-- a flush after a write
pub appends_kept : (before middle after : Option (List ℕ)) (bytes : List ℕ) → Appends before middle bytes → Keeps middle after → Appends before after bytes
appends_kept None middle after bytes appended kept = tt
appends_kept (Some xs) None after bytes appended kept = absurd appended
appends_kept (Some xs) (Some ys) None bytes appended kept = absurd kept
appends_kept (Some xs) (Some ys) (Some zs) bytes appended kept = kept ∙ appended

-- one write after another
pub appends_then : (before middle after : Option (List ℕ)) (first second : List ℕ) → Appends before middle first → Appends middle after second → Appends before after (first ++ second)
appends_then None middle after first second one two = tt
appends_then (Some xs) None after first second one two = absurd one
appends_then (Some xs) (Some ys) None first second one two = absurd two
appends_then (Some xs) (Some ys) (Some zs) first second one two = two ∙ ap (λ bytes. bytes ++ second) one ∙ append_assoc xs first second

pub keeps_same : (known : Option (List ℕ)) → Keeps known known
keeps_same None = tt
keeps_same (Some xs) = refl

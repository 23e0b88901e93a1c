-- A table from texts to their places.
use Rattle.std.specs.Prelude.{◌≡◌, ℕ, List, Vec}
use Rattle.std.specs.Global.{Global}
use Rattle.std.specs.BTreeMap.{BTreeMap, get_by}
use Rattle.std.specs.Cmp.Lexicographic.{slice_cmp}
use Rattle.std.specs.Ordering.{nat_cmp}
use Rattle.texts.specs.Texts.{place_of_text}

-- the table has each text at its place, and no other text
abbrev pub FindsEach : BTreeMap (Vec ℕ Global) ℕ → List (List ℕ) → Type 0
FindsEach places texts = (text : List ℕ) → get_by (λ key. slice_cmp nat_cmp text key.items) places ≡ place_of_text text texts

-- What is written of something in one line, which may be explained.
use Rattle.std.specs.Prelude.{◌≡◌, ◌++◌, Bool, false, List, ℕ, []}

-- the text is this line, and where it is to be explained further words after it
abbrev pub Tells : List ℕ → Bool → List ℕ → Type 0
Tells line explains text = (words : List ℕ) × (text ≡ line ++ words) × (explains ≡ false → words ≡ [])

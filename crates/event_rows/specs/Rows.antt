-- Rows of words with texts.
use Rattle.std.specs.Prelude.{◌≡◌, ℕ, zero, suc, ◌+◌, ◌*◌, ◌≤◌, ◌^◌, ◌++◌, ◌∷◌, [], ◌==◌, List, length, Option, Some, None, Vec, if◌then◌else◌}
use Rattle.std.specs.Global.{Global}
use Rattle.std.specs.Vec.{vec_len, vec_capacity}
use Rattle.event_rows.specs.Blocks.{BlockList, words_at}
use Rattle.event_rows.specs.declared.rows.RowText.{RowText}

-- the words of a row, and its text if it has one
pub record Row (T : Type 0) : Type 0 where
  pub words : List ℕ
  pub text : Option T

-- rows of so many words, and how many more go in without memory
pub record RowList (T : Type 0) : Type 0 where
  pub width : ℕ
  pub rows : List (Row T)
  pub room : ℕ

-- f 0, f 1 and so on, so many
abbrev pub first : {X : Type 0} → ℕ → (ℕ → X) → List X
first zero f = []
first (suc n) f = first n f ++ f n ∷ []

module _ {T : Type 0} where
  -- the text that belongs to that row
  abbrev pub text_at : List (RowText T) → ℕ → Option T
  text_at [] row = None
  text_at (t ∷ ts) row = if t.row == row then Some t.text else text_at ts row

  -- the rows whose words are in these blocks, with their texts
  abbrev pub rows_of : BlockList → List (RowText T) → List (Row T)
  rows_of blocks texts = first blocks.len (λ row. record { words = words_at blocks.width blocks.items row; text = text_at texts row })

  -- the rows of these texts rise, from low on, and stay below high
  abbrev pub AreRising : ℕ → ℕ → List (RowText T) → Type 0
  AreRising low high [] = low ≤ high
  AreRising low high (t ∷ ts) = (low ≤ t.row) × AreRising (t.row + 1) high ts

  -- the words are those of so many rows, and the room for rows is room for texts
  pub record AreRowsWithTexts (blocks : BlockList) (texts : Vec (RowText T) Global) : Type 0 where
    pub narrow : blocks.width ≤ 2 ^ 12
    pub whole : length blocks.items ≡ blocks.width * blocks.len
    pub few : blocks.len + blocks.room ≤ 2 ^ 58
    pub rising : AreRising 0 blocks.len texts.items
    pub room : vec_len texts + blocks.room ≤ vec_capacity texts

-- Blocks of rows of words.
use Rattle.std.specs.Prelude.{◌≡◌, ℕ, ◌*◌, List, take, drop, Vec}
use Rattle.std.specs.Global.{Global}
use Rattle.std.specs.List.{flat_map}
use Rattle.std.specs.Vec.{vec_len, vec_capacity}

abbrev pub Block : Type 0
Block = Vec ℕ Global

-- a block with so many words, and memory for as many as any block of its list
pub record IsBlock (size count : ℕ) (block : Block) : Type 0 where
  pub words : vec_len block ≡ count
  pub memory : vec_capacity block ≡ size

-- the words of these blocks in order
abbrev pub words_in : List Block → List ℕ
words_in blocks = flat_map (λ block. block.items) blocks

-- rows of so many words: their number, the words of all of them in order, and how many more go in without memory
pub record BlockList : Type 0 where
  pub width : ℕ
  pub len : ℕ
  pub items : List ℕ
  pub room : ℕ

-- the words of the row at that index, where those of all rows are in order
abbrev pub words_at : ℕ → List ℕ → ℕ → List ℕ
words_at width items index = take width (drop (width * index) items)

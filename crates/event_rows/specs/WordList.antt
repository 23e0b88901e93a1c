-- Lists of words that are kept in blocks.
use Rattle.std.specs.Prelude.{ℕ, ◌+◌, ◌-◌, ◌/◌, List}
use Rattle.event_rows.specs.declared.TheConstants.{BLOCK_WORDS}

-- the words, and how many more go in without memory
pub record WordList : Type 0 where
  pub items : List ℕ
  pub room : ℕ

-- how many blocks hold so many words
abbrev pub blocks_for : ℕ → ℕ
blocks_for count = (count + BLOCK_WORDS - 1) / BLOCK_WORDS

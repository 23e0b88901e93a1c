-- How rows lie in blocks.
use Rattle.std.specs.Prelude.{◌≡◌, ℕ, ◌+◌, ◌-◌, ◌*◌, ◌^◌, ◌<◌, ◌≤◌, ◌++◌, Vec}
use Rattle.std.specs.Global.{Global}
use Rattle.std.specs.List.{All}
use Rattle.std.specs.Vec.{vec_len, vec_capacity}
use Rattle.event_rows.specs.Blocks.{Block, BlockList, IsBlock, words_in}
use Rattle.event_rows.specs.declared.TheConstants.{BLOCK_WORDS}
use Rattle.event_rows.specs.declared.blocks.Blocks.TheInside.{Inside}

-- what contracts see
abbrev pub block_list : Inside → BlockList
block_list b = record {
  width = b.width;
  len = b.len;
  items = words_in b.full.items ++ b.tail.items;
  room = b.capacity - b.len;
}

-- so many rows in the full blocks and the one that is being filled; with the empty ones there is room for `capacity` rows in all
pub record AreBlocks (width len : ℕ) (full : Vec Block Global) (tail : Block) (spare : Vec Block Global) (capacity : ℕ) : Type 0 where
  pub some : 0 < width
  pub narrow : width ≤ 2 ^ 12
  pub full_words : All (IsBlock (width * BLOCK_WORDS) (width * BLOCK_WORDS)) full.items
  pub spare_words : All (IsBlock (width * BLOCK_WORDS) 0) spare.items
  pub tail_words : vec_len tail ≡ width * (len - BLOCK_WORDS * vec_len full)
  pub tail_memory : 0 < capacity → vec_capacity tail ≡ width * BLOCK_WORDS
  pub before : BLOCK_WORDS * vec_len full ≤ len
  pub within : len ≤ BLOCK_WORDS * (vec_len full + 1)
  pub inside : len ≤ capacity
  pub enough : capacity ≤ BLOCK_WORDS * (vec_len full + vec_len spare + 1)
  pub few : capacity ≤ 2 ^ 58
  -- a block moves from list to list without memory
  pub full_room : vec_len full + vec_len spare ≤ vec_capacity full
  pub spare_room : vec_len full + vec_len spare ≤ vec_capacity spare

-- the last row is in the tail, and there is no block more than the room needs
pub record AreLaid (width len : ℕ) (full : Vec Block Global) (tail : Block) (spare : Vec Block Global) (capacity : ℕ) : Type 0 where
  pub blocks : AreBlocks width len full tail spare capacity
  pub last : len ≡ BLOCK_WORDS * vec_len full → vec_len full ≡ 0
  pub none : capacity ≡ 0 → vec_capacity tail ≡ 0
  pub needed : BLOCK_WORDS * (vec_len full + vec_len spare) ≤ capacity - 1

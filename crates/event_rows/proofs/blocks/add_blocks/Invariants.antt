use Rattle.std.proofs.Common.{◌≡◌, ◌+◌, vec_len, vec_capacity}
use Rattle.std.specs.List.{All}
use Rattle.event_rows.specs.Blocks.{IsBlock}
use Rattle.event_rows.proofs.blocks.add_blocks.Given as goal

abbrev pub invariant-loop : goal.invariant-loop
invariant-loop l = record {
  empty : All (IsBlock l.size 0) l.blocks.items;
  len : vec_len l.blocks ≡ l.before + l.counter;
  room : vec_capacity l.blocks ≡ vec_capacity l.initial.blocks;
  before : vec_len l.initial.blocks ≡ l.before;
}

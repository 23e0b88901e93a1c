use Rattle.std.proofs.Common.{◌≡◌, ◌+◌, ◌++◌, take, vec_len, vec_capacity}
use Rattle.event_rows.proofs.blocks.push_all.Given as goal

abbrev pub invariant-loop-at : goal.invariant-loop-at
invariant-loop-at l = record {
  items : l.block.items ≡ l.initial.block.items ++ take l.at l.words;
  len : vec_len l.block ≡ vec_len l.initial.block + l.at;
  room : vec_capacity l.block ≡ vec_capacity l.initial.block;
}

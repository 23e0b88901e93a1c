-- Where the rows of a list lie.
use Rattle.std.proofs.Common.{◌≡◌, ℕ, suc, ◌+◌, ◌-◌, ◌*◌, ◌/◌, ◌%◌, ◌<◌, ◌≤◌, List, [], ◌∷◌, ◌++◌, Vec, length, get_or, take, drop, vec_len, vec_capacity, ⊎_elim, sym, ap, ◌∙◌, arith, length-append, length-drop, append_assoc, mul-suc, mul-add, mul_assoc, mul-le-mul_left}
use Rattle.std.specs.Global.{Global}
use Rattle.std.specs.List.{All}
use Rattle.std.proofs.lemmas.Bool.{cases_lt}
use Rattle.std.proofs.lemmas.List.{get_or-append-add, drop-append-le, take-append-le}
use Rattle.std.proofs.lemmas.List.Elements.{All-head, All-tail}
use Rattle.std.proofs.Math.Seq.{drop-append-add}
use Rattle.event_rows.specs.Blocks.{Block, IsBlock, words_in, words_at}
use Rattle.event_rows.specs.Laid.{AreBlocks, AreLaid}

-- a row that begins below the end of so many rows lies below it
pub row_below : (width row end : ℕ) → row < end → width * row + width ≤ width * end
row_below width row end low = let there = mul-le-mul_left width low in let next = mul-suc width row in omega arith

-- a cut of a row's length
pub cut : (n width row : ℕ) (z : List ℕ) → n ≡ width → take (n * row + n - n * row) (drop (n * row) z) ≡ take width (drop (width * row) z)
cut n width row z e =
    let all : width * row + width - width * row ≡ width = omega arith in
    ap (λ (m : ℕ). take (m * row + m - m * row) (drop (m * row) z)) e ∙ ap (λ (k : ℕ). take k (drop (width * row) z)) all

-- one row more
row_more : (width len full : ℕ) → 1024 * full ≤ len → width * (len + 1 - 1024 * full) ≡ width * (len - 1024 * full) + width
row_more width len full before = let e : len + 1 - 1024 * full ≡ suc (len - 1024 * full) = omega arith in ap (λ (n : ℕ). width * n) e ∙ mul-suc width (len - 1024 * full)

-- the words of full blocks and those of so many rows more
pub words_upto : (width full more index : ℕ) → 1024 * full + more ≡ index → width * 1024 * full + width * more ≡ width * index
words_upto width full more index e = let whole = mul_assoc width 1024 full in let both = mul-add width (1024 * full) more in let at = ap (λ (n : ℕ). width * n) e in omega arith

pub length_words : (size : ℕ) (blocks : List Block) → All (IsBlock size size) blocks → length (words_in blocks) ≡ size * length blocks
length_words size [] h = omega arith
length_words size (b ∷ bs) h =
    let here = (All-head (IsBlock size size) b bs h).words in
    let there = length_words size bs (All-tail (IsBlock size size) b bs h) in
    let joined = length-append b.items (words_in bs) in
    let here_is = b.ok.0 in
    let next = mul-suc size (length bs) in
    omega arith

at_full : (size : ℕ) (blocks : List Block) (ws : List ℕ) (k r n : ℕ) (e : Block) → All (IsBlock size size) blocks → k < length blocks → r + n ≤ size → take n (drop (size * k + r) (words_in blocks ++ ws)) ≡ take n (drop r (get_or blocks k e).items)
at_full size [] ws k r n e h inside low = absurd (omega arith)
at_full size (b ∷ bs) ws Prim.Native.Nat.zero r n e h inside low =
    let here = (All-head (IsBlock size size) b bs h).words in
    let here_is = b.ok.0 in
    let left = length-drop r b.items in
    let at : size * 0 + r ≡ r = omega arith in
    ap (λ (i : ℕ). take n (drop i (words_in (b ∷ bs) ++ ws))) at
    ∙ ap (λ (z : List ℕ). take n (drop r z)) (append_assoc b.items (words_in bs) ws)
    ∙ ap (λ (z : List ℕ). take n z) (drop-append-le r b.items (words_in bs ++ ws) (omega arith))
    ∙ take-append-le n (drop r b.items) (words_in bs ++ ws) (omega arith)
at_full size (b ∷ bs) ws (suc k) r n e h inside low =
    let here = (All-head (IsBlock size size) b bs h).words in
    let here_is = b.ok.0 in
    let next = mul-suc size k in
    let at : size * suc k + r ≡ length b.items + (size * k + r) = omega arith in
    ap (λ (i : ℕ). take n (drop i (words_in (b ∷ bs) ++ ws))) at
    ∙ ap (λ (z : List ℕ). take n (drop (length b.items + (size * k + r)) z)) (append_assoc b.items (words_in bs) ws)
    ∙ ap (λ (z : List ℕ). take n z) (drop-append-add b.items (words_in bs ++ ws) (size * k + r))
    ∙ at_full size bs ws k r n e (All-tail (IsBlock size size) b bs h) (omega arith) low

-- the row at an index that lies in a full block
pub in_full : (width : ℕ) (full : Vec Block Global) (ws : List ℕ) (index : ℕ) (e : Block) → All (IsBlock (width * 1024) (width * 1024)) full.items → index / 1024 < vec_len full → words_at width (words_in full.items ++ ws) index ≡ take width (drop (width * (index % 1024)) (get_or full.items (index / 1024) e).items)
in_full width full ws index e h inside =
    let full_is = full.ok.0 in
    let at = words_upto width (index / 1024) (index % 1024) index (omega arith) in
    ap (λ (i : ℕ). take width (drop i (words_in full.items ++ ws))) (sym at)
    ∙ at_full (width * 1024) full.items ws (index / 1024) (width * (index % 1024)) width e h (omega arith) (row_below width (index % 1024) 1024 (omega arith))

-- that the row at an index lies in the tail
pub in_tail : (width : ℕ) (full : Vec Block Global) (ws : List ℕ) (index : ℕ) → All (IsBlock (width * 1024) (width * 1024)) full.items → index / 1024 ≡ vec_len full → words_at width (words_in full.items ++ ws) index ≡ take width (drop (width * (index % 1024)) ws)
in_tail width full ws index h there =
    let full_is = full.ok.0 in
    let long = length_words (width * 1024) full.items h in
    let counted : width * 1024 * length full.items ≡ width * 1024 * (index / 1024) = ap (λ (n : ℕ). width * 1024 * n) (omega arith) in
    let at = words_upto width (index / 1024) (index % 1024) index (omega arith) in
    let begins : width * index ≡ length (words_in full.items) + width * (index % 1024) = omega arith in
    ap (λ (i : ℕ). take width (drop i (words_in full.items ++ ws))) begins
    ∙ ap (λ (z : List ℕ). take width z) (drop-append-add (words_in full.items) ws (width * (index % 1024)))

-- a word of the last row is in the tail
pub in_last : (width len column : ℕ) (full : Vec Block Global) (tail : Block) → All (IsBlock (width * 1024) (width * 1024)) full.items → 1024 * vec_len full < len → vec_len tail ≡ width * (len - 1024 * vec_len full) → get_or (words_in full.items ++ tail.items) (width * (len - 1) + column) 0 ≡ get_or tail.items (vec_len tail - width + column) 0
in_last width len column full tail h some rest =
    let full_is = full.ok.0 in
    let long = length_words (width * 1024) full.items h in
    let counted = ap (λ (n : ℕ). width * 1024 * n) full_is in
    let last = len - 1 - 1024 * vec_len full in
    let at = words_upto width (vec_len full) last (len - 1) (omega arith) in
    let next = mul-suc width last in
    let same : width * (len - 1024 * vec_len full) ≡ width * suc last = ap (λ (n : ℕ). width * n) (omega arith) in
    let there : width * (len - 1) + column ≡ length (words_in full.items) + (vec_len tail - width + column) = omega arith in
    ap (λ (i : ℕ). get_or (words_in full.items ++ tail.items) i 0) there
    ∙ get_or-append-add (words_in full.items) tail.items (vec_len tail - width + column) 0

-- where there is a row, the tail has one
pub has_row : (width len : ℕ) (full : Vec Block Global) (tail : Block) (spare : Vec Block Global) (capacity : ℕ) → AreLaid width len full tail spare capacity → 0 < len → (1024 * vec_len full < len) × (width ≤ vec_len tail)
has_row width len full tail spare capacity h some =
    let before = h.blocks.before in
    let low : 1024 * vec_len full < len = ⊎_elim (λ left. left) (λ right. let none = h.last (omega arith) in absurd (omega arith)) (cases_lt (1024 * vec_len full) len) in
    let begins = row_below width 0 (len - 1024 * vec_len full) (omega arith) in
    let words = h.blocks.tail_words in
    (low, omega arith)

-- the tail has a row less
pub lose_row : (width len : ℕ) (full : Vec Block Global) (tail tail' : Block) (spare : Vec Block Global) (capacity : ℕ) → AreLaid width len full tail spare capacity → 0 < len → vec_len tail' + width ≡ vec_len tail → vec_capacity tail' ≡ vec_capacity tail → AreBlocks width (len - 1) full tail' spare (capacity - 1)
lose_row width len full tail tail' spare capacity h some words memory =
    let b = h.blocks in
    let low = (has_row width len full tail spare capacity h some).0 in
    let was = b.tail_words in
    let before = b.before in
    let within = b.within in
    let inside = b.inside in
    let enough = b.enough in
    let few = b.few in
    let next = row_more width (len - 1) (vec_len full) (omega arith) in
    let same : width * (len - 1024 * vec_len full) ≡ width * (len - 1 + 1 - 1024 * vec_len full) = ap (λ (n : ℕ). width * n) (omega arith) in
    let has = b.tail_memory (omega arith) in
    record {
      some = b.some;
      narrow = b.narrow;
      full_words = b.full_words;
      spare_words = b.spare_words;
      tail_words = omega arith;
      tail_memory = λ more. omega arith;
      before = omega arith;
      within = omega arith;
      inside = omega arith;
      enough = omega arith;
      few = omega arith;
      full_room = b.full_room;
      spare_room = b.spare_room;
    }

-- the tail, which has room for a row, has a row more
pub gain_row : (width len : ℕ) (full : Vec Block Global) (tail tail' : Block) (spare : Vec Block Global) (capacity : ℕ) → AreBlocks width len full tail spare capacity → len < 1024 * (vec_len full + 1) → len < capacity → vec_len tail' ≡ vec_len tail + width → vec_capacity tail' ≡ vec_capacity tail → AreBlocks width (len + 1) full tail' spare capacity
gain_row width len full tail tail' spare capacity b low free words memory =
    let was = b.tail_words in
    let before = b.before in
    let next = row_more width len (vec_len full) before in
    let has = b.tail_memory (omega arith) in
    record {
      some = b.some;
      narrow = b.narrow;
      full_words = b.full_words;
      spare_words = b.spare_words;
      tail_words = omega arith;
      tail_memory = λ more. omega arith;
      before = omega arith;
      within = omega arith;
      inside = omega arith;
      enough = b.enough;
      few = b.few;
      full_room = b.full_room;
      spare_room = b.spare_room;
    }

-- a row goes into the tail without memory
pub tail_fits : (width len : ℕ) (full : Vec Block Global) (tail : Block) (spare : Vec Block Global) (capacity : ℕ) → AreBlocks width len full tail spare capacity → len < 1024 * (vec_len full + 1) → len < capacity → vec_len tail + width ≤ vec_capacity tail
tail_fits width len full tail spare capacity b low free =
    let words = b.tail_words in
    let before = b.before in
    let has = b.tail_memory (omega arith) in
    let fits = row_below width (len - 1024 * vec_len full) 1024 (omega arith) in
    omega arith

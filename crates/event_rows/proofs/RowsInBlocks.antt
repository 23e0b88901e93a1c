-- Rows whose words lie in blocks.
use Rattle.std.proofs.Common.{◌≡◌, ℕ, suc, ◌+◌, ◌-◌, ◌*◌, ◌<◌, List, [], ◌∷◌, ◌++◌, length, get_or, take, drop, Option, Some, None, sym, ap, ◌∙◌, arith, length-append, length-drop, mul-suc}
use Rattle.std.specs.Option.{option_map, IfSome, IfNone}
use Rattle.std.specs.List.{slice_get, slice_index}
use Rattle.std.proofs.lemmas.List.{drop-append-le, take-append-le, drop_at, take_all, get_or-take, get_or-drop}
use Rattle.event_rows.specs.Blocks.{BlockList, words_at}
use Rattle.event_rows.specs.Rows.{Row, first, text_at, rows_of}
use Rattle.event_rows.specs.declared.rows.RowText.{RowText}
use Rattle.event_rows.proofs.Laying.{row_below}
use Rattle.event_rows.proofs.Lists.{first_same, length_first, got_first}

-- the words of the rows that were there
words_before : (width len : ℕ) (items words : List ℕ) (row : ℕ) → length items ≡ width * len → row < len → words_at width (items ++ words) row ≡ words_at width items row
words_before width len items words row long low =
    let below = row_below width row len low in
    let left = length-drop (width * row) items in
    ap (λ (z : List ℕ). take width z) (drop-append-le (width * row) items words (omega arith))
    ∙ take-append-le width (drop (width * row) items) words (omega arith)

-- the words of the new row
words_there : (width len : ℕ) (items words : List ℕ) → length items ≡ width * len → length words ≡ width → words_at width (items ++ words) len ≡ words
words_there width len items words long wide = ap (λ (z : List ℕ). take width z) (drop_at items words (width * len) long) ∙ take_all width words (omega arith)

-- how many words there are with a row more
pub longer : (before after : BlockList) (words : List ℕ) → length before.items ≡ before.width * before.len → length words ≡ before.width → after.width ≡ before.width → after.items ≡ before.items ++ words → after.len ≡ before.len + 1 → length after.items ≡ after.width * after.len
longer before after words long wide same_width more len =
    let joined = length-append before.items words in
    let all = ap (λ (z : List ℕ). length z) more in
    let next = mul-suc before.width before.len in
    let by_width = ap (λ (w : ℕ). w * after.len) same_width in
    let by_len : before.width * after.len ≡ before.width * suc before.len = ap (λ (n : ℕ). before.width * n) (omega arith) in
    omega arith

-- how many there are without the last row
pub shorter : (before after : BlockList) (words : List ℕ) → length before.items ≡ before.width * before.len → length words ≡ before.width → after.width ≡ before.width → before.items ≡ after.items ++ words → after.len + 1 ≡ before.len → length after.items ≡ after.width * after.len
shorter before after words long wide same_width less len =
    let joined = length-append after.items words in
    let all = ap (λ (z : List ℕ). length z) less in
    let next = mul-suc before.width after.len in
    let by_width = ap (λ (w : ℕ). w * after.len) same_width in
    let by_len : before.width * before.len ≡ before.width * suc after.len = ap (λ (n : ℕ). before.width * n) (omega arith) in
    omega arith

-- the word of a row that has one word
pub word_at : (b : BlockList) (words : List ℕ) (index : ℕ) → b.width ≡ 1 → words ≡ words_at b.width b.items index → get_or words 0 0 ≡ get_or b.items index 0
word_at b words index one is =
    let at : 1 * index + 0 ≡ index = omega arith in
    ap (λ (z : List ℕ). get_or z 0 0) is
    ∙ ap (λ (w : ℕ). get_or (words_at w b.items index) 0 0) one
    ∙ get_or-take 1 (drop (1 * index) b.items) 0 0 (omega arith)
    ∙ get_or-drop (1 * index) b.items 0 0
    ∙ ap (λ (i : ℕ). get_or b.items i 0) at

module _ {T : Type 0} where
  abbrev row_in : ℕ → List ℕ → List (RowText T) → ℕ → Row T
  row_in width items texts row = record { words = words_at width items row; text = text_at texts row }

  pub length_rows : (blocks : BlockList) (texts : List (RowText T)) → length (rows_of blocks texts) ≡ blocks.len
  length_rows blocks texts = length_first blocks.len (row_in blocks.width blocks.items texts)

  pub row_got : (blocks : BlockList) (texts : List (RowText T)) (index : ℕ) → index < blocks.len → slice_get (rows_of blocks texts) index ≡ Some (row_in blocks.width blocks.items texts index)
  row_got blocks texts index low = got_first blocks.len (row_in blocks.width blocks.items texts) index low

  -- one more row
  pub one_more : (before after : BlockList) (words : List ℕ) (texts texts' : List (RowText T)) (text : Option T) → length before.items ≡ before.width * before.len → length words ≡ before.width → after.width ≡ before.width → after.items ≡ before.items ++ words → after.len ≡ before.len + 1 → ((other : ℕ) → other < before.len → text_at texts' other ≡ text_at texts other) → text_at texts' before.len ≡ text → rows_of after texts' ≡ rows_of before texts ++ record { words = words; text = text } ∷ []
  one_more before after words texts texts' text long wide same_width more len others there =
      let f = row_in before.width (before.items ++ words) texts' in
      let next : after.len ≡ suc before.len = omega arith in
      let old = first_same before.len f (row_in before.width before.items texts)
      (λ row low. let words_same = words_before before.width before.len before.items words row long low in let text_same = others row low in cc) in
      let new = words_there before.width before.len before.items words long wide in
      ap (λ (w : ℕ). first after.len (row_in w after.items texts')) same_width
      ∙ ap (λ (z : List ℕ). first after.len (row_in before.width z texts')) more
      ∙ ap (λ (n : ℕ). first n f) next
      ∙ cc

  -- the last row, seen by its words
  pub last_word : (r : Option ℕ) (blocks : BlockList) (texts : List (RowText T)) (column : ℕ) → column < blocks.width → IfSome r (λ word. (0 < blocks.len) × (word ≡ slice_index blocks.items (blocks.width * (blocks.len - 1) + column))) → IfNone r (blocks.len ≡ 0) → r ≡ option_map (λ (row : Row T). slice_index row.words column) (slice_get (rows_of blocks texts) (length (rows_of blocks texts) - 1))
  last_word None blocks texts column low some none = ap (λ (n : ℕ). option_map (λ (row : Row T). slice_index row.words column) (slice_get (first n (row_in blocks.width blocks.items texts)) (length (first n (row_in blocks.width blocks.items texts)) - 1))) (sym none)
  last_word (Some word) blocks texts column low some none =
      let len = length_rows blocks texts in
      let at : length (rows_of blocks texts) - 1 ≡ blocks.len - 1 = omega arith in
      let here = some.0 in
      let got = row_got blocks texts (blocks.len - 1) (omega arith) in
      let read = get_or-take blocks.width (drop (blocks.width * (blocks.len - 1)) blocks.items) column 0 low ∙ get_or-drop (blocks.width * (blocks.len - 1)) blocks.items column 0 in
      ap Some (some.1 ∙ sym read)
      ∙ sym (ap (λ (i : ℕ). option_map (λ (row : Row T). slice_index row.words column) (slice_get (rows_of blocks texts) i)) at ∙ ap (λ (o : Option (Row T)). option_map (λ (row : Row T). slice_index row.words column) o) got)

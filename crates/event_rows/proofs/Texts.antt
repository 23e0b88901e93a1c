-- The texts of rows.
use Rattle.std.proofs.Common.{◌≡◌, ◌≢◌, ℕ, suc, ◌+◌, ◌-◌, ◌<◌, ◌≤◌, Bool, true, false, cond, eqb, ltb, ⊎_elim, List, [], ◌∷◌, ◌++◌, Option, Some, None, length, get_or, refl, sym, ap, ◌∙◌, subst, arith, eq-eqb, length-append}
use Rattle.std.specs.List.{AllWithin}
use Rattle.std.specs.List.Sorted.{IsPartitionedBy}
use Rattle.std.proofs.lemmas.Bool.{eqb-true, cases_lt, lt-ltb, ltb-true, ltb-false}
use Rattle.std.proofs.lemmas.List.{get_or_at}
use Rattle.event_rows.specs.Rows.{text_at, AreRising}
use Rattle.event_rows.specs.declared.rows.RowText.{RowText}

eqb_apart : (m n : ℕ) → m ≢ n → eqb m n ≡ false
eqb_apart m n h = go (eqb m n) refl
  where
    go : (b : Bool) → eqb m n ≡ b → eqb m n ≡ false
    go true e = absurd (h (eqb-true m n e))
    go false e = e

module _ {T : Type 0} where
  -- another row's text
  other_text : (t : RowText T) (ts : List (RowText T)) (row : ℕ) → t.row ≢ row → text_at (t ∷ ts) row ≡ text_at ts row
  other_text t ts row h = ap (λ (b : Bool). cond b (Some t.text) (text_at ts row)) (eqb_apart t.row row h)

  -- its own text
  own_text : (t : RowText T) (ts : List (RowText T)) (row : ℕ) → t.row ≡ row → text_at (t ∷ ts) row ≡ Some t.text
  own_text t ts row h = ap (λ (b : Bool). cond b (Some t.text) (text_at ts row)) (eq-eqb t.row row h)

  pub rising_bound : (low high : ℕ) (ts : List (RowText T)) → AreRising low high ts → low ≤ high
  rising_bound low high [] h = h
  rising_bound low high (t ∷ ts) h = let there = rising_bound (t.row + 1) high ts h.1 in let here = h.0 in omega arith

  pub rising_more : (low high more : ℕ) (ts : List (RowText T)) → AreRising low high ts → high ≤ more → AreRising low more ts
  rising_more low high more [] h le = omega arith
  rising_more low high more (t ∷ ts) h le = (h.0, rising_more (t.row + 1) high more ts h.1 le)

  pub rising_push : (low : ℕ) (ts : List (RowText T)) (t : RowText T) → AreRising low t.row ts → AreRising low (t.row + 1) (ts ++ t ∷ [])
  rising_push low [] t h = (h, omega arith)
  rising_push low (s ∷ ts) t h = (h.0, rising_push (s.row + 1) ts t h.1)

  pub rising_pop : (low high : ℕ) (ts : List (RowText T)) (t : RowText T) → AreRising low high (ts ++ t ∷ []) → (t.row + 1 ≤ high) × AreRising low t.row ts
  rising_pop low high [] t h = (h.1, h.0)
  rising_pop low high (s ∷ ts) t h = let there = rising_pop (s.row + 1) high ts t h.1 in (there.0, (h.0, there.1))

  -- no text from the bound on
  pub no_text : (low high row : ℕ) (ts : List (RowText T)) → AreRising low high ts → high ≤ row → text_at ts row ≡ None
  no_text low high row [] h le = refl
  no_text low high row (t ∷ ts) h le =
      let there = rising_bound (t.row + 1) high ts h.1 in
      other_text t ts row (λ e. omega arith) ∙ no_text (t.row + 1) high row ts h.1 le

  -- a text at the end changes nothing for other rows
  pub text_before : (ts : List (RowText T)) (t : RowText T) (row : ℕ) → t.row ≢ row → text_at (ts ++ t ∷ []) row ≡ text_at ts row
  text_before [] t row h = other_text t [] row h
  text_before (s ∷ ts) t row h = ap (λ (o : Option T). cond (eqb s.row row) (Some s.text) o) (text_before ts t row h)

  pub text_there : (low : ℕ) (ts : List (RowText T)) (t : RowText T) → AreRising low t.row ts → text_at (ts ++ t ∷ []) t.row ≡ Some t.text
  text_there low [] t h = own_text t [] t.row refl
  text_there low (s ∷ ts) t h =
      let below = rising_bound (s.row + 1) t.row ts h.1 in
      other_text s (ts ++ t ∷ []) t.row (λ e. omega arith) ∙ text_there (s.row + 1) ts t h.1

  -- the last text is of the last row that has one
  last_row : (low high : ℕ) (ts : List (RowText T)) (d : RowText T) → AreRising low high ts → 0 < length ts → AreRising low ((get_or ts (length ts - 1) d).row + 1) ts × ((get_or ts (length ts - 1) d).row + 1 ≤ high)
  last_row low high [] d h some = absurd (omega arith)
  last_row low high (t ∷ []) d h some = ((h.0, omega arith), h.1)
  last_row low high (t ∷ s ∷ ss) d h some =
      let there = last_row (t.row + 1) high (s ∷ ss) d h.1 (omega arith) in
      let at : length (t ∷ s ∷ ss) - 1 ≡ suc (length (s ∷ ss) - 1) = omega arith in
      let same = ap (λ (i : ℕ). get_or (t ∷ s ∷ ss) i d) at in
      rw same ((h.0, there.0), there.1)

  -- the last text is of a row before
  pub last_before : (row : ℕ) (ts : List (RowText T)) (t : RowText T) → AreRising 0 (row + 1) ts → 0 < length ts → t ≡ get_or ts (length ts - 1) t → t.row ≢ row → AreRising 0 row ts
  last_before row ts t h some at apart =
      let there = last_row 0 (row + 1) ts t h some in
      let same = ap (λ (z : RowText T). z.row) at in
      let bound = there.1 in
      rising_more 0 ((get_or ts (length ts - 1) t).row + 1) row ts there.0 (omega arith)

  -- the last text is of that row
  pub last_there : (row : ℕ) (ts ts' : List (RowText T)) (t last : RowText T) → AreRising 0 (row + 1) ts → ts ≡ ts' ++ t ∷ [] → last ≡ get_or ts (length ts - 1) last → last.row ≡ row → (text_at ts row ≡ Some t.text) × ((other : ℕ) → other < row → text_at ts' other ≡ text_at ts other) × AreRising 0 row ts'
  last_there row ts ts' t last h parts at here =
      let joined = length-append ts' (t ∷ []) in
      let rises = rising_pop 0 (row + 1) ts' t (subst (λ (z : List (RowText T)). AreRising 0 (row + 1) z) parts h) in
      let same = at ∙ ap (λ (z : List (RowText T)). get_or z (length z - 1) last) parts ∙ get_or_at ts' t [] last (length (ts' ++ t ∷ []) - 1) (omega arith) in
      let row_is : t.row ≡ row = sym (ap (λ (z : RowText T). z.row) same) ∙ here in
      let low = subst (λ (n : ℕ). AreRising 0 n ts') row_is rises.1 in (
        ap (λ (z : List (RowText T)). text_at z row) parts ∙ ap (λ (n : ℕ). text_at (ts' ++ t ∷ []) n) (sym row_is) ∙ text_there 0 ts' t rises.1,
        (λ other before. sym (ap (λ (z : List (RowText T)). text_at z other) parts ∙ text_before ts' t other (λ e. omega arith))),
        low,
      )

  rising_low : (low high : ℕ) (ts : List (RowText T)) (k : ℕ) (d : RowText T) → AreRising low high ts → k < length ts → low ≤ (get_or ts k d).row
  rising_low low high [] k d h inside = absurd (omega arith)
  rising_low low high (t ∷ ts) Prim.Native.Nat.zero d h inside = h.0
  rising_low low high (t ∷ ts) (suc k) d h inside =
      let there = rising_low (t.row + 1) high ts k d h.1 (omega arith) in
      let here = h.0 in
      omega arith

  rising_apart : (low high : ℕ) (ts : List (RowText T)) (j k : ℕ) (d : RowText T) → AreRising low high ts → j < k → k < length ts → (get_or ts j d).row < (get_or ts k d).row
  rising_apart low high [] j k d h before inside = absurd (omega arith)
  rising_apart low high (t ∷ ts) j Prim.Native.Nat.zero d h before inside = absurd (omega arith)
  rising_apart low high (t ∷ ts) Prim.Native.Nat.zero (suc k) d h before inside = let there = rising_low (t.row + 1) high ts k d h.1 (omega arith) in omega arith
  rising_apart low high (t ∷ ts) (suc j) (suc k) d h before inside = rising_apart (t.row + 1) high ts j k d h.1 (omega arith) (omega arith)

  -- the rows before some row come first
  pub partitioned : (low high row : ℕ) (ts : List (RowText T)) → AreRising low high ts → IsPartitionedBy (λ t. ltb t.row row) ts
  partitioned low high row ts h = λ i j d order inside before.
      let low_j = ltb-true (get_or ts j d).row row before in
      ⊎_elim
      (λ apart. let there = rising_apart low high ts i j d h apart inside in lt-ltb (get_or ts i d).row row (omega arith))
      (λ same. let e : i ≡ j = omega arith in rw e before)
      (cases_lt i j)

  absent : (ts : List (RowText T)) (row : ℕ) → ((k : ℕ) (d : RowText T) → k < length ts → (get_or ts k d).row ≢ row) → text_at ts row ≡ None
  absent [] row h = refl
  absent (t ∷ ts) row h = other_text t ts row (h 0 t (omega arith)) ∙ absent ts row (λ k d inside. h (suc k) d (omega arith))

  -- the search found the row
  pub found : (low high row : ℕ) (ts : List (RowText T)) (at : ℕ) (t : RowText T) → AreRising low high ts → at < length ts → t ≡ get_or ts at t → t.row ≡ row → text_at ts row ≡ Some t.text
  found low high row [] at t h inside read here = absurd (omega arith)
  found low high row (s ∷ ts) Prim.Native.Nat.zero t h inside read here = own_text s ts row (sym (ap (λ (z : RowText T). z.row) read) ∙ here) ∙ ap (λ (z : RowText T). Some z.text) (sym read)
  found low high row (s ∷ ts) (suc at) t h inside read here =
      let there = rising_low (s.row + 1) high ts at t h.1 (omega arith) in
      let same = ap (λ (z : RowText T). z.row) read in
      other_text s ts row (λ e. omega arith) ∙ found (s.row + 1) high row ts at t h.1 (omega arith) read here

  -- no row is found where the search ends
  pub not_found : (low high row : ℕ) (ts : List (RowText T)) (at : ℕ) → AreRising low high ts → AllWithin (λ t. ltb t.row row ≡ true) ts 0 at → AllWithin (λ t. ltb t.row row ≡ false) ts at (length ts) → ((d : RowText T) → at < length ts → (get_or ts at d).row ≢ row) → text_at ts row ≡ None
  not_found low high row ts at h before after here =
      absent ts row (λ k d inside e. ⊎_elim
      (λ left. let there = ltb-true (get_or ts k d).row row (before k d (omega arith) left) in omega arith)
      (λ right. ⊎_elim
      (λ beyond.
      let there = rising_apart low high ts at k d h beyond inside in
      let bound = ltb-false (get_or ts at d).row row (after at d (omega arith) (omega arith)) in
      omega arith)
      (λ same. let there : k ≡ at = omega arith in here d (omega arith) (subst (λ (n : ℕ). (get_or ts n d).row ≡ row) there e))
      (cases_lt at k))
      (cases_lt k at))

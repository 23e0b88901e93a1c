-- The rows of a journal, and the events that they stand for.
use Rattle.std.proofs.Common.{◌≡◌, ℕ, suc, ◌+◌, ◌-◌, ◌^◌, ◌<◌, List, [], ◌∷◌, Option as Opt, Some, None, length, map, slice_get, slice_index, refl, sym, ap, ◌∙◌, arith}
use Rattle.std.specs.Option.{option_map}
use Rattle.event_rows.specs.Rows.{Row}
use Rattle.init_lock.specs.Merging.{end_of}
use Rattle.init_lock.specs.Packing.{event_in, IsLow}
use Rattle.init_lock.specs.Known.{out_of}
use Rattle.init_lock.specs.Steps.{IsOutAt}
use Rattle.init_lock.specs.declared.views.PlaceView.{PlaceView}
use Rattle.init_lock.proofs.Lists.{none_some}

abbrev pub after : Opt ℕ → ℕ
after None = 0
after (Some stamp) = stamp + 1

pub map_nil : {A B : Type 0} (f : A → B) (l : List A) → map f l ≡ [] → l ≡ []
map_nil f [] e = refl
map_nil f (x ∷ xs) e = let n = ap length e in absurd (omega arith)

module _ {R E : Type 0} where
  out_low : (n : ℕ) (places : List (PlaceView R E)) (r : R) → out_of n places ≡ Some r → n < length places
  out_low n [] r e = absurd (none_some e)
  out_low Prim.Native.Nat.zero (t ∷ ts) r e = omega arith
  out_low (suc n) (t ∷ ts) r e = let h = out_low n ts r e in omega arith

  -- a place whose record is out has a word
  pub out_is_low : (place : Opt ℕ) (places : List (PlaceView R E)) → IsOutAt place places → length places < 2 ^ 58 → IsLow place
  out_is_low None places out few = tt
  out_is_low (Some n) places out few = let h = out_low n places out.0 out.1 in omega arith

module _ {T E : Type 0} where
  -- the end of a journal as its last row says it
  pub end_of_rows : (unpacked : ℕ → Opt T → E) (rows : List (Row T)) (n : ℕ) → n + 1 ≡ length rows → end_of (map (event_in unpacked) rows) ≡ after (option_map (λ row. slice_index row.words 0) (slice_get rows n))
  end_of_rows unpacked [] n e = absurd (omega arith)
  end_of_rows unpacked (r ∷ []) Prim.Native.Nat.zero e = refl
  end_of_rows unpacked (r ∷ []) (suc n) e = absurd (omega arith)
  end_of_rows unpacked (r ∷ s ∷ rs) Prim.Native.Nat.zero e = absurd (omega arith)
  end_of_rows unpacked (r ∷ s ∷ rs) (suc n) e = end_of_rows unpacked (s ∷ rs) n (omega arith)

  pub end_by_rows : (unpacked : ℕ → Opt T → E) (rows : List (Row T)) (last : Opt ℕ) → last ≡ option_map (λ row. slice_index row.words 0) (slice_get rows (length rows - 1)) → end_of (map (event_in unpacked) rows) ≡ after last
  end_by_rows unpacked [] last e = ap after (sym e)
  end_by_rows unpacked (r ∷ rs) last e = end_of_rows unpacked (r ∷ rs) (length rs) (omega arith) ∙ ap after (ap (λ n. option_map (λ row. slice_index row.words 0) (slice_get (r ∷ rs) n)) (omega arith) ∙ sym e)

-- Cases that are put in their places, one after the other.
use Rattle.std.proofs.Common.{◌≡◌, ℕ, suc, inl, inr, Bool, true, not, false, ◌&&◌, ◌||◌, cond, List, [], ◌∷◌, length, Option, Some, None, is_some, Ok, Less, Equal, Greater, refl, ap, ◌∙◌}
use Rattle.std.proofs.lemmas.Bool.{and_parts, cases_Bool}
use Rattle.std.specs.Prelude.{ℤ, int_lt}
use Rattle.std.specs.List.{list_all}
use Rattle.std.specs.Ordering.{is_eq}
use Rattle.jasmin_text.specs.Grammar.{Cases, with_case, lacks_key, Each, none, more, IsPlacedCase}
use Rattle.jasmin_text.specs.Spellable.{rises, rises_from}
use Rattle.jasmin_reader.proofs.GoodRows.{keys_rise_from, keys_rise}
use Rattle.jasmin_words.specs.declared.fault.FaultKind.TheVariants as fault
use Rattle.jasmin_reader.specs.Places.{wanted_or}
use Rattle.jasmin_reader.specs.Listing.{case_of, with_key}

-- ---- new keys

-- a new key is found nowhere, and is put where the grammar puts it
pub new_key_is : (acc : Cases) (key : ℤ) (label : List ℕ) → lacks_key key acc ≡ true → (case_of acc key ≡ None) × (with_key acc key label ≡ with_case (key, label) acc)
new_key_is [] key label h = (refl, refl)
new_key_is (e ∷ es) key label h =
    let p = and_parts (int_lt key e.0 || int_lt e.0 key) (lacks_key key es) h in
    let ih = new_key_is es key label p.1 in
    elim (cases_Bool (int_lt key e.0)) [ inl y ↦ rw y (ih.0, refl) | inr y ↦ rw (y, rw y at p.0) (ih.0, ap (λ (l : Cases). e ∷ l) ih.1) ]

pub new_key_lacks : (acc : Cases) (key : ℤ) → case_of acc key ≡ None → lacks_key key acc ≡ true
new_key_lacks [] key h = refl
new_key_lacks (e ∷ es) key h = by (int_lt key e.0) (int_lt e.0 key) h (λ k. new_key_lacks es key k)
  where
    by : (s t : Bool) → cond (is_eq (cond s Less (cond t Greater Equal))) (Some e.1) (case_of es key) ≡ None → (case_of es key ≡ None → lacks_key key es ≡ true) → ((s || t) && lacks_key key es) ≡ true
    by false false k rest = absurd cc
    by s t k rest = rest k

pub new_key_ok : (o : Option (List ℕ)) (u : Unit {0}) → wanted_or (not (is_some o)) fault.BadOperand ≡ Ok u → o ≡ None
new_key_ok None u e = refl
new_key_ok (Some label) u e = absurd cc

-- ---- one case more

pub with_case_length : (c : ℤ × List ℕ) (cs : Cases) → length (with_case c cs) ≡ suc (length cs)
with_case_length c [] = refl
with_case_length c (d ∷ ds) = elim (cases_Bool (int_lt c.0 d.0)) [ inl y ↦ rw y refl | inr y ↦ rw y (ap suc (with_case_length c ds)) ]

pub with_case_all : (p : ℤ × List ℕ → Bool) (c : ℤ × List ℕ) (cs : Cases) → p c ≡ true → list_all p cs ≡ true → list_all p (with_case c cs) ≡ true
with_case_all p c [] h k = rw h refl
with_case_all p c (d ∷ ds) h k =
    let q = and_parts (p d) (list_all p ds) k in
    elim (cases_Bool (int_lt c.0 d.0)) [ inl y ↦ rw (y, h, q.0, q.1) refl | inr y ↦ rw (y, q.0) (with_case_all p c ds h q.1) ]

rises_after : (from : ℤ) (c : ℤ × List ℕ) (cs : Cases) → int_lt from c.0 ≡ true → lacks_key c.0 cs ≡ true → keys_rise_from from cs ≡ true → keys_rise_from from (with_case c cs) ≡ true
rises_after from c [] below h k = rw below refl
rises_after from c (d ∷ ds) below h k =
    let p = and_parts (int_lt c.0 d.0 || int_lt d.0 c.0) (lacks_key c.0 ds) h in
    let q = and_parts (int_lt from d.0) (keys_rise_from d.0 ds) k in
    elim (cases_Bool (int_lt c.0 d.0)) [ inl y ↦ rw (y, below, y, q.1) refl | inr y ↦ rw (y, q.0) (rises_after d.0 c ds (rw y at p.0) p.1 q.1) ]

pub with_case_rises : (c : ℤ × List ℕ) (cs : Cases) → lacks_key c.0 cs ≡ true → keys_rise cs ≡ true → keys_rise (with_case c cs) ≡ true
with_case_rises c [] h k = refl
with_case_rises c (d ∷ ds) h k =
    let p = and_parts (int_lt c.0 d.0 || int_lt d.0 c.0) (lacks_key c.0 ds) h in
    elim (cases_Bool (int_lt c.0 d.0)) [ inl y ↦ rw (y, y, k) refl | inr y ↦ rw y (rises_after d.0 c ds (rw y at p.0) p.1 k) ]

-- ---- keys with places

pub same_rise : (labels : List (List ℕ × ℕ)) (cs : Cases) (ds : List (ℤ × ℕ)) → Each (IsPlacedCase labels) cs ds → rises ds ≡ keys_rise cs
same_rise labels cs ds none = refl
same_rise labels cs ds (more {x = c} {y = d} {xs = others} {ys = placed} e is) = ap (λ (k : ℤ). rises_from k placed) e.0 ∙ from c.0 others placed is
  where
    from : (key : ℤ) (cs : Cases) (ds : List (ℤ × ℕ)) → Each (IsPlacedCase labels) cs ds → rises_from key ds ≡ keys_rise_from key cs
    from key cs ds none = refl
    from key cs ds (more {x = c} {y = d} {xs = others} {ys = placed} e is) = ap (λ (k : ℤ). int_lt key k && rises_from k placed) e.0 ∙ ap (λ (b : Bool). int_lt key c.0 && b) (from c.0 others placed is)

-- The parts of the passes, spread over the views: how many there are of each, and what a step of one leaves of the others.
use Rattle.std.proofs.Common.{◌≡◌, ◌≢◌, ℕ, suc, ◌+◌, ◌≤◌, ⊎_elim, List, [], ◌∷◌, ◌++◌, Bool, eqb, cond, set, refl, sym, ap, ◌∙◌, subst, arith, eq-eqb}
use mathlib.Core.Option.{some, some-injective, some-ne-none}
use lib.ListN.{get_elem?}
use Rattle.atomic_table.proofs.Lists.{at_set, set_else}
use Rattle.init_lock.specs.declared.views.PassView.{PassView}
use Rattle.init_lock.specs.Rule.{Each, count_of, total}

abbrev pub V : Type 0 → Type 0 → Type 0
V R E = List (PassView R E)

pub one_of : (x by : ℕ) → x ≡ by → cond {A = ℕ} (eqb x by) 1 0 ≡ 1
one_of x by e = ap (λ (b : Bool). cond {A = ℕ} b 1 0) (eq-eqb x by e)

module _ {R E : Type 0} where
  pub total_set : (f : V R E → ℕ) (vs : List (V R E)) (i : ℕ) (v w : V R E) → get_elem? vs i ≡ some v → total f (set vs i w) + f v ≡ total f vs + f w
  total_set f [] i v w e = absurd (some-ne-none v (sym e))
  total_set f (x ∷ xs) Prim.Native.Nat.zero v w e = let a : f x ≡ f v = ap f (some-injective x v e) in omega arith
  total_set f (x ∷ xs) (suc i) v w e = let a = total_set f xs i v w e in omega arith

  pub at_total : (f : V R E → ℕ) (vs : List (V R E)) (i : ℕ) (v : V R E) → get_elem? vs i ≡ some v → f v ≤ total f vs
  at_total f [] i v e = absurd (some-ne-none v (sym e))
  at_total f (x ∷ xs) Prim.Native.Nat.zero v e = let a : f x ≡ f v = ap f (some-injective x v e) in omega arith
  at_total f (x ∷ xs) (suc i) v e = let a = at_total f xs i v e in omega arith

  pub total-append : (f : V R E → ℕ) (vs ws : List (V R E)) → total f (vs ++ ws) ≡ total f vs + total f ws
  total-append f [] ws = omega arith
  total-append f (x ∷ xs) ws = let a = total-append f xs ws in omega arith

  pub two_total : (f : V R E → ℕ) (vs : List (V R E)) (i j : ℕ) (v w : V R E) → f [] ≡ 0 → j ≢ i → get_elem? vs i ≡ some v → get_elem? vs j ≡ some w → f v + f w ≤ total f vs
  two_total f vs i j v w empty ne at there = let a = total_set f vs i v [] at in let b = at_total f (set vs i []) j w (set_else vs i j [] ne ∙ there) in omega arith

  pub each-append : (P : PassView R E → Type 0) (v w : V R E) → Each P v → Each P w → Each P (v ++ w)
  each-append P [] w p q = q
  each-append P (x ∷ xs) w p q = (p.0, each-append P xs w p.1 q)

  pub parts-append : (by : ℕ) (v w : V R E) → count_of by (v ++ w) ≡ count_of by v + count_of by w
  parts-append by [] w = omega arith
  parts-append by (x ∷ xs) w = let a = parts-append by xs w in omega arith

  pub each_apart : (k : ℕ) (P P' : PassView R E → Type 0) → ((q : PassView R E) → q.pass ≢ k → P q → P' q) → (v : V R E) → count_of k v ≡ 0 → Each P v → Each P' v
  each_apart k P P' keep [] empty e = tt
  each_apart k P P' keep (q ∷ qs) empty e = (keep q (λ same. let a = one_of q.pass k same in omega arith) e.0, each_apart k P P' keep qs (omega arith) e.1)

  -- where one pass steps, and what the others know stays so, each pass_view knows what it has to
  pub others_keep : (P P' : PassView R E → Type 0) (vs : List (V R E)) (id : ℕ) (p w : PassView R E) → get_elem? vs id ≡ some (p ∷ []) → ((by : ℕ) → total (count_of by) vs ≤ 1)
      → ((q : PassView R E) → q.pass ≢ p.pass → P q → P' q) → P' w → ((j : ℕ) (v : V R E) → get_elem? vs j ≡ some v → Each P v)
      → (j : ℕ) (v : V R E) → get_elem? (set vs id (w ∷ [])) j ≡ some v → Each P' v
  others_keep P P' vs id p w at alone keep mine each j v e = ⊎_elim
      (λ (t : (j ≡ id) × (w ∷ [] ≡ v)). subst (Each P') t.1 (mine, tt))
      (λ (t : (j ≢ id) × (get_elem? vs j ≡ some v)).
      let a = two_total (count_of p.pass) vs id j (p ∷ []) v refl t.0 at t.1 in
      let b = alone p.pass in
      let c = one_of p.pass p.pass refl in
      each_apart p.pass P P' keep v (omega arith) (each j v t.1))
      (at_set vs id j (w ∷ []) v e)

  pub still_alone : (vs : List (V R E)) (id : ℕ) (p w : PassView R E) → get_elem? vs id ≡ some (p ∷ []) → w.pass ≡ p.pass → ((by : ℕ) → total (count_of by) vs ≤ 1) → (by : ℕ) → total (count_of by) (set vs id (w ∷ [])) ≤ 1
  still_alone vs id p w at same alone by =
      let a = total_set (count_of by) vs id (p ∷ []) (w ∷ []) at in
      let b = alone by in
      let c : cond {A = ℕ} (eqb w.pass by) 1 0 ≡ cond {A = ℕ} (eqb p.pass by) 1 0 = ap (λ (z : ℕ). cond {A = ℕ} (eqb z by) 1 0) same in
      omega arith

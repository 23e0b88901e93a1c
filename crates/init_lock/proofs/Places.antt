-- What a pass knows of its places, and after one of them has changed.
use Rattle.std.proofs.Common.{◌≡◌, ◌≢◌, ℕ, suc, ⊎_elim, List, [], ◌∷◌, ◌++◌, Bool, true, false, cond, Option as Opt, Some, None, length, refl, sym, ap, ◌∙◌, subst, arith, eq-eqb, ne_eqb}
use Rattle.std.specs.Option.{option_or}
use mathlib.Core.Logic.{dite}
use mathlib.Core.Option.{some}
use native.Mathlib.Decide.{ℕ_discrete}
use lib.ListN.{get_elem?}
use Rattle.init_lock.specs.declared.views.PlaceView.{PlaceView}
use Rattle.init_lock.specs.declared.views.Custody.{Custody}
use Rattle.init_lock.specs.declared.views.Custody.TheVariants.{Away, Carried, Held}
use Rattle.init_lock.specs.Known.{seen_at, out_by, out_of, last_at, IsSameAt, IsSameBut, IsAway, IsAwayBut}
use Rattle.init_lock.specs.Log.{is_at, IsPlace}
use Rattle.init_lock.specs.Rule.{place_view}
use Rattle.init_lock.specs.Steps.{modify, extend, learn, leave, without, custody_beside, IsCarried}
use Rattle.init_lock.proofs.Lists.{none_some, not_true, said_is, at_modify, modify_here, some_at}
use Rattle.init_lock.proofs.Entries.{seen_is, last_is, out_is}

is_out : {R : Type 0} (st : Custody) (s r : R) → out_by st s ≡ Some r → (st ≢ Away) × (s ≡ r)
is_out Away s r e = absurd (none_some e)
is_out Carried s r e = ((λ h. cc), said_is s r e)
is_out Held s r e = ((λ h. cc), said_is s r e)

without_here : (n : ℕ) (carried : Opt ℕ) → is_at n (without n carried) ≡ false
without_here n None = refl
without_here n (Some k) = dite (ℕ_discrete k n) (λ same. ap (λ (b : Bool). is_at n (cond b None (Some k))) (eq-eqb k n same)) (λ other. ap (λ (b : Bool). is_at n (cond b None (Some k))) (ne_eqb k n other) ∙ ne_eqb k n other)

without_other : (n m : ℕ) (carried : Opt ℕ) → m ≢ n → is_at m (without n carried) ≡ is_at m carried
without_other n m None ne = refl
without_other n m (Some k) ne = dite (ℕ_discrete k n)
    (λ same. ap (λ (b : Bool). is_at m (cond b None (Some k))) (eq-eqb k n same) ∙ sym (ne_eqb k m (λ e. ne (sym e ∙ same))))
    (λ other. ap (λ (b : Bool). is_at m (cond b None (Some k))) (ne_eqb k n other))

module _ {R E : Type 0} where
  -- the pass has the record of the place
  abbrev pub IsHolding : ℕ → List (PlaceView R E) → Type 0
  IsHolding n places = (t : PlaceView R E) × (get_elem? places n ≡ some t) × (t.custody ≢ Away)

  -- the pass has the record of the event's place, if it has one
  abbrev pub IsHoldingAt : Opt ℕ → List (PlaceView R E) → Type 0
  IsHoldingAt None places = Unit {0}
  IsHoldingAt (Some n) places = IsHolding n places

  -- which slot is carried after one place has changed
  carried_after : (carried carried1 : Opt ℕ) (ts : List (PlaceView R E)) (n : ℕ) (f : PlaceView R E → PlaceView R E) → IsCarried carried ts → ((m : ℕ) → m ≢ n → is_at m carried1 ≡ is_at m carried)
      → ((t : PlaceView R E) → get_elem? ts n ≡ some t → ((f t).custody ≡ Carried → is_at n carried1 ≡ true) × (is_at n carried1 ≡ true → (f t).custody ≡ Carried)) → IsCarried carried1 (modify n f ts)
  carried_after carried carried1 ts n f h same here m t e = ⊎_elim
      (λ k. subst (λ (z : ℕ × PlaceView R E). (z.1.custody ≡ Carried → is_at z.0 carried1 ≡ true) × (is_at z.0 carried1 ≡ true → z.1.custody ≡ Carried)) (λ i. (sym k.0 i, k.3 i)) (here k.1 k.2))
      (λ k. subst (λ (b : Bool). (t.custody ≡ Carried → b ≡ true) × (b ≡ true → t.custody ≡ Carried)) (sym (same m k.0)) (h m t k.1))
      (at_modify ts n m f t e)

  pub carried_on : (carried : Opt ℕ) (ts : List (PlaceView R E)) (n : ℕ) (x : E) → IsCarried carried ts → IsCarried carried (modify n (extend x) ts)
  carried_on carried ts n x h = carried_after carried carried ts n (extend x) h (λ m ne. refl) (λ t e. h n t e)

  pub carried_learned : (carried : Opt ℕ) (ts : List (PlaceView R E)) (n : ℕ) (seen : List E) → IsCarried carried ts → IsCarried carried (modify n (learn seen) ts)
  carried_learned carried ts n seen h = carried_after carried carried ts n (learn seen) h (λ m ne. refl) (λ t e. h n t e)

  pub carried_left : (carried : Opt ℕ) (ts : List (PlaceView R E)) (n : ℕ) (r : R) → IsCarried carried ts → IsCarried (without n carried) (modify n (leave r) ts)
  carried_left carried ts n r h = carried_after carried (without n carried) ts n (leave r) h (λ m ne. without_other n m carried ne) (λ t e. ((λ c. cc), λ here. absurd (not_true (is_at n (without n carried)) (without_here n carried) here)))

  pub carried_took : (carried : Opt ℕ) (ts : List (PlaceView R E)) (n : ℕ) (seen : List E) (r : R) → IsCarried carried ts → out_of n ts ≡ None → IsCarried (option_or carried (Some n)) (modify n (λ t. place_view seen r (custody_beside carried)) ts)
  carried_took None ts n seen r h free = carried_after None (Some n) ts n (λ t. place_view seen r Carried) h (λ m ne. ne_eqb n m (λ e. ne (sym e))) (λ t e. ((λ _. eq-eqb n n refl), λ _. refl))
  carried_took (Some k) ts n seen r h free = carried_after (Some k) (Some k) ts n (λ t. place_view seen r Held) h (λ m ne. refl)
      (λ t e. ((λ c. cc), λ here. let at_hand = (h n t e).1 here in absurd (none_some (sym free ∙ (out_is ts n t e ∙ ap (λ (z : Custody). out_by z t.last) at_hand)))))

  -- a pass that has no record out carries no slot
  pub none_carried : (carried : Opt ℕ) (ts : List (PlaceView R E)) (slots : ℕ) → IsCarried carried ts → IsPlace slots carried → length ts ≡ slots → IsAway ts → carried ≡ None
  none_carried None ts slots h inside wide away = refl
  none_carried (Some n) ts slots h inside wide away =
      let t = some_at ts n (omega arith) in
      let at_hand = (h n t.0 t.1).1 (eq-eqb n n refl) in
      absurd (none_some (sym (away.none_out n) ∙ (out_is ts n t.0 t.1 ∙ ap (λ (z : Custody). out_by z t.0.last) at_hand)))

  same_but : (ts : List (PlaceView R E)) (n : ℕ) (f : PlaceView R E → PlaceView R E) (m : ℕ) → m ≢ n → IsSameAt m ts (modify n f ts)
  same_but [] n f m ne = record { seen = refl; out = refl; last = refl }
  same_but (t ∷ ts) Prim.Native.Nat.zero f Prim.Native.Nat.zero ne = absurd (ne refl)
  same_but (t ∷ ts) Prim.Native.Nat.zero f (suc m) ne = record { seen = refl; out = refl; last = refl }
  same_but (t ∷ ts) (suc n) f Prim.Native.Nat.zero ne = record { seen = refl; out = refl; last = refl }
  same_but (t ∷ ts) (suc n) f (suc m) ne = let h = same_but ts n f m (λ e. ne (ap suc e)) in record { seen = h.seen; out = h.out; last = h.last }

  pub others_same : (ts us : List (PlaceView R E)) (n : ℕ) (f : PlaceView R E → PlaceView R E) → us ≡ modify n f ts → IsSameBut n ts us
  others_same ts us n f e m ne = subst (λ (z : List (PlaceView R E)). IsSameAt m ts z) (sym e) (same_but ts n f m ne)

  pub all_same : (ts us : List (PlaceView R E)) (n : ℕ) → us ≡ ts → IsSameAt n ts us
  all_same ts us n e = record { seen = ap (seen_at n) e; out = ap (out_of n) e; last = ap (last_at n) e }

  -- the place that was changed
  pub now_at : (ts us : List (PlaceView R E)) (n : ℕ) (f : PlaceView R E → PlaceView R E) (t : PlaceView R E) → us ≡ modify n f ts → get_elem? ts n ≡ some t
      → (seen_at n us ≡ (f t).seen) × (last_at n us ≡ Some (f t).last) × (out_of n us ≡ out_by (f t).custody (f t).last)
  now_at ts us n f t e there = let h = ap (λ (z : List (PlaceView R E)). get_elem? z n) e ∙ modify_here ts n f t there in (seen_is us n (f t) h, last_is us n (f t) h, out_is us n (f t) h)

  -- what is known of a place whose record the pass has
  pub held_there : (ts : List (PlaceView R E)) (n : ℕ) (r : R) → out_of n ts ≡ Some r → (t : PlaceView R E) × (get_elem? ts n ≡ some t) × (t.custody ≢ Away) × (t.last ≡ r) × (seen_at n ts ≡ t.seen)
  held_there [] n r e = absurd (none_some e)
  held_there (t ∷ ts) Prim.Native.Nat.zero r e = let h = is_out t.custody t.last r e in (t, refl, h.0, h.1, refl)
  held_there (t ∷ ts) (suc n) r e = held_there ts n r e

  extends : (ts : List (PlaceView R E)) (n : ℕ) (x : E) (r : R) → out_of n ts ≡ Some r → (seen_at n (modify n (extend x) ts) ≡ seen_at n ts ++ x ∷ []) × (out_of n (modify n (extend x) ts) ≡ Some r) × (last_at n (modify n (extend x) ts) ≡ last_at n ts)
  extends [] n x r e = absurd (none_some e)
  extends (t ∷ ts) Prim.Native.Nat.zero x r e = (refl, e, refl)
  extends (t ∷ ts) (suc n) x r e = extends ts n x r e

  pub took_away : (ts us : List (PlaceView R E)) (n : ℕ) (f : PlaceView R E → PlaceView R E) → us ≡ modify n f ts → IsAway ts → IsAwayBut n us
  took_away ts us n f e a = record { no_other_out = λ m ne. (others_same ts us n f e m ne).out ∙ a.none_out m }

  pub still_away : (ts us : List (PlaceView R E)) (n : ℕ) (f : PlaceView R E → PlaceView R E) → us ≡ modify n f ts → IsAwayBut n ts → IsAwayBut n us
  still_away ts us n f e a = record { no_other_out = λ m ne. (others_same ts us n f e m ne).out ∙ a.no_other_out m ne }

  pub gave_back : (ts us : List (PlaceView R E)) (n : ℕ) (f : PlaceView R E → PlaceView R E) → us ≡ modify n f ts → out_of n us ≡ None → IsAwayBut n ts → IsAway us
  gave_back ts us n f e out a = record { none_out = λ m. dite (ℕ_discrete m n) (λ same. ap (λ (z : ℕ). out_of z us) same ∙ out) (λ other. (others_same ts us n f e m other).out ∙ a.no_other_out m other) }

  -- what is known of a place where the pass draws, with its record out
  pub extended : (ts us : List (PlaceView R E)) (n : ℕ) (x : E) (r : R) → out_of n ts ≡ Some r → us ≡ modify n (extend x) ts → (seen_at n us ≡ seen_at n ts ++ x ∷ []) × (out_of n us ≡ Some r) × (last_at n us ≡ last_at n ts)
  extended ts us n x r out e = let d = extends ts n x r out in (ap (seen_at n) e ∙ d.0, ap (out_of n) e ∙ d.1, ap (last_at n) e ∙ d.2)

  pub still_away_at : (ts us : List (PlaceView R E)) (m n : ℕ) (f : PlaceView R E → PlaceView R E) → m ≡ n → us ≡ modify m f ts → IsAwayBut n ts → IsAwayBut n us
  still_away_at ts us m n f same e a = still_away ts us n f (e ∙ ap (λ (z : ℕ). modify z f ts) same) a

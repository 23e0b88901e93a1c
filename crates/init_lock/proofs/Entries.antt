-- What one more event leaves of the log, and how what a pass knows of a place is looked up.
use Rattle.std.proofs.Common.{◌≡◌, ◌≢◌, ℕ, suc, ◌⊎◌, inl, inr, ⊎_elim, List, [], ◌∷◌, ◌++◌, Bool, true, false, cond, Option as Opt, Some, None, length, refl, sym, ap, ◌∙◌, subst, arith, eq-eqb, ne_eqb, append_assoc, append-nil}
use mathlib.Core.Option.{some, some-injective, some-ne-none}
use lib.ListN.{get_elem?}
use Rattle.init_lock.specs.declared.views.Look.{Look}
use Rattle.init_lock.specs.declared.views.PlaceView.{PlaceView}
use Rattle.init_lock.specs.Log.{Entry, is_at, events_at, journal_of, stamped}
use Rattle.init_lock.specs.Rule.{AllSeen}
use Rattle.init_lock.specs.Known.{seen_at, out_by, out_of, last_at}
use Rattle.init_lock.specs.Steps.{extend, drawn_places}
use Rattle.init_lock.proofs.Lists.{at_modify, length-modify}
use Rattle.init_lock.proofs.Logs.{events-append, journal-append}

module _ {E : Type 0} where
  pub events_off : (n : ℕ) (e : Entry E) (l : List (Entry E)) → is_at n e.place ≡ false → events_at n (l ++ e ∷ []) ≡ events_at n l
  events_off n e l off = events-append n l (e ∷ []) ∙ ap (λ (b : Bool). events_at n l ++ cond b (e.event ∷ []) []) off ∙ append-nil (events_at n l)

  pub events_on : (n : ℕ) (e : Entry E) (l : List (Entry E)) → is_at n e.place ≡ true → events_at n (l ++ e ∷ []) ≡ events_at n l ++ e.event ∷ []
  events_on n e l there_is = events-append n l (e ∷ []) ∙ ap (λ (b : Bool). events_at n l ++ cond b (e.event ∷ []) []) there_is

  pub journal_off : (by : ℕ) (e : Entry E) (l : List (Entry E)) → e.by ≢ by → journal_of by 0 (l ++ e ∷ []) ≡ journal_of by 0 l
  journal_off by e l other = journal-append by 0 (length l) l (e ∷ []) (omega arith) ∙ ap (λ (b : Bool). journal_of by 0 l ++ cond b (stamped (length l) e.place e.event ∷ []) []) (ne_eqb e.by by other) ∙ append-nil (journal_of by 0 l)

  pub journal_on : (by : ℕ) (e : Entry E) (l : List (Entry E)) → e.by ≡ by → journal_of by 0 (l ++ e ∷ []) ≡ journal_of by 0 l ++ stamped (length l) e.place e.event ∷ []
  journal_on by e l same = journal-append by 0 (length l) l (e ∷ []) (omega arith) ∙ ap (λ (b : Bool). journal_of by 0 l ++ cond b (stamped (length l) e.place e.event ∷ []) []) (eq-eqb e.by by same)

  -- one more entry leaves what was seen before it
  pub seen_on : (by : ℕ) (e : Entry E) (log : List (Entry E)) (ls : List (Look E)) → AllSeen log by ls → AllSeen (log ++ e ∷ []) by ls
  seen_on by e log [] h = tt
  seen_on by e log (l ∷ ls) h = let m = h.0 in (record { before = m.before; after = m.after ++ e ∷ []; parts = ap (λ (z : List (Entry E)). z ++ e ∷ []) m.parts ∙ append_assoc m.before m.after (e ∷ []); all = m.all; mine = m.mine }, seen_on by e log ls h.1)

module _ {R E : Type 0} where
  pub seen_is : (ts : List (PlaceView R E)) (n : ℕ) (t : PlaceView R E) → get_elem? ts n ≡ some t → seen_at n ts ≡ t.seen
  seen_is [] n t e = absurd (some-ne-none t (sym e))
  seen_is (x ∷ xs) Prim.Native.Nat.zero t e = ap (λ (z : PlaceView R E). z.seen) (some-injective x t e)
  seen_is (x ∷ xs) (suc n) t e = seen_is xs n t e

  pub last_is : (ts : List (PlaceView R E)) (n : ℕ) (t : PlaceView R E) → get_elem? ts n ≡ some t → last_at n ts ≡ Some t.last
  last_is [] n t e = absurd (some-ne-none t (sym e))
  last_is (x ∷ xs) Prim.Native.Nat.zero t e = ap (λ (z : PlaceView R E). Some z.last) (some-injective x t e)
  last_is (x ∷ xs) (suc n) t e = last_is xs n t e

  pub out_is : (ts : List (PlaceView R E)) (n : ℕ) (t : PlaceView R E) → get_elem? ts n ≡ some t → out_of n ts ≡ out_by t.custody t.last
  out_is [] n t e = absurd (some-ne-none t (sym e))
  out_is (x ∷ xs) Prim.Native.Nat.zero t e = ap (λ (z : PlaceView R E). out_by z.custody z.last) (some-injective x t e)
  out_is (x ∷ xs) (suc n) t e = out_is xs n t e

  pub drawn_at : (place : Opt ℕ) (event : E) (ts : List (PlaceView R E)) (n : ℕ) (t : PlaceView R E) → get_elem? (drawn_places place event ts) n ≡ some t
      → ((is_at n place ≡ false) × (get_elem? ts n ≡ some t)) ⊎ ((is_at n place ≡ true) × (a : PlaceView R E) × (get_elem? ts n ≡ some a) × (extend event a ≡ t))
  drawn_at None event ts n t e = inl (refl, e)
  drawn_at (Some m) event ts n t e = ⊎_elim
      (λ h. inr (eq-eqb m n (sym h.0), h.1, subst (λ (z : ℕ). get_elem? ts z ≡ some h.1) (sym h.0) h.2, h.3))
      (λ h. let ne = h.0 in inl (ne_eqb m n (λ same. ne (sym same)), h.1))
      (at_modify ts m n (extend event) t e)

  pub length-drawn : (place : Opt ℕ) (event : E) (ts : List (PlaceView R E)) → length (drawn_places place event ts) ≡ length ts
  length-drawn None event ts = refl
  length-drawn (Some m) event ts = length-modify ts m (extend event)

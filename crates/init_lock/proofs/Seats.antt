-- The steps of a seat that has one pass, as the calls of the table make them.
use Rattle.std.proofs.Common.{◌≡◌, ◌≢◌, ℕ, suc, ◌+◌, ◌^◌, ◌%◌, ◌<◌, List, [], ◌∷◌, ◌++◌, Bool, true, false, eqb, eq-eqb, ne_eqb, MatchBool, map, cond, Option as Opt, Some, None, length, refl, sym, ap, ◌∙◌, subst, ◌-◌, ◌*◌, ◌/◌, arith}
use Rattle.std.specs.Option.{is_some, option_or}
use Rattle.std.proofs.lemmas.Nat.{div-mul-add}
use mathlib.Core.Logic.{dite}
use native.Mathlib.Decide.{ℕ_discrete}
use mathlib.Core.Option.{none, some, some-injective}
use lib.ListN.{get_elem?}
use prog.Atomic.{either}
use Rattle.atomic_table.specs.Table.{State, Step, step, Allows, rest}
use Rattle.init_lock.specs.declared.views.Setup.{Setup}
use Rattle.init_lock.specs.declared.views.PassView.{PassView}
use Rattle.init_lock.specs.declared.views.PlaceView.{PlaceView}
use Rattle.init_lock.specs.declared.views.Custody.{Custody}
use Rattle.init_lock.specs.declared.views.Custody.TheVariants.{Away, Carried, Held}
use Rattle.init_lock.specs.Log.{is_at, settled}
use Rattle.init_lock.specs.Rule.{lock_word, place_of_word, place_view, pass_view, RuleHolds}
use Rattle.init_lock.specs.Known.{look, seen_at}
use Rattle.init_lock.specs.Steps.{SeatView, modify, restage, in_custody, took, missed, leave, released, Found, TakesLock, TakesLockAt, SeesLock, ParksSlot, ParksSlotAt, FetchesSlot, FetchesSlotAt, FreesLock, FreesLockAt, DrawsStamp, DrawsWhatIsSaid, MayStand, slots_of, without, custody_beside, JustTook, HasOut, MayReturn}
use Rattle.init_lock.proofs.Lists.{not_true, modify_here, modify_twice, some_at}
use Rattle.init_lock.proofs.Logs.{is_at_some}
use Rattle.init_lock.proofs.Places.{IsHolding, IsHoldingAt}
use Rattle.init_lock.proofs.Steps.{takes_lock, sees_lock, parks, fetches, frees, draws}

-- the lock word of a place tells the place
place_back : (word place : ℕ) → word ≡ lock_word place → place_of_word word ≡ place
place_back word place up = ap place_of_word up ∙ (ap (λ (z : ℕ). z / 8) (let e : place * 8 + 8 - 8 ≡ place * 8 + 0 = omega arith in e) ∙ div-mul-add place 8 0 (omega arith))

seen_restaged : {R E : Type 0} (ts : List (PlaceView R E)) (n : ℕ) (st : Custody) → seen_at n (modify n (restage st) ts) ≡ seen_at n ts
seen_restaged [] n st = refl
seen_restaged (x ∷ xs) Prim.Native.Nat.zero st = refl
seen_restaged (x ∷ xs) (suc n) st = seen_restaged xs n st

-- a place whose custody was this already
restaged_same : {R E : Type 0} (ts : List (PlaceView R E)) (n : ℕ) (t : PlaceView R E) → get_elem? ts n ≡ some t → modify n (restage t.custody) ts ≡ ts
restaged_same [] n t e = refl
restaged_same {R} {E} (x ∷ xs) Prim.Native.Nat.zero t e = ap (λ (z : PlaceView R E). restage z.custody x ∷ xs) (sym (some-injective x t e))
restaged_same {R} {E} (x ∷ xs) (suc n) t e = ap (λ (z : List (PlaceView R E)). x ∷ z) (restaged_same xs n t e)

module _ {R E : Type 0} (kept : R → List E) (may : ℕ → Opt ℕ → E → Type 0) (follows : R → R → Type 0) (settles : E → Bool) (lawful : List E → Type 0) (leans : E → Opt ℕ) (on : (x y z : R) → follows x y → follows y z → follows x z) (itself : (x : R) → follows x x) (setup : Setup R) where
  abbrev P : Type 0
  P = PassView R E

  abbrev Rule : State (Opt R) (List P) → Type 0
  Rule = RuleHolds kept may follows settles lawful leans setup

  abbrev Cs : Type 0
  Cs = List (ℕ × Opt R)

  pub take_allowed : (slots id : ℕ) (p : P) (cs : Cs) (me : SeatView R E) (place word mark : ℕ) → me ≡ (p ∷ [], cs) → word ≡ lock_word place → mark ≡ suc p.pass → place < slots
      → Allows Rule slots id me word (λ z. either (eqb z 0) mark z) (TakesLock kept may follows (step slots word 0 mark none) me)
  take_allowed slots id p cs me place word mark is up its low =
      subst (λ (z : SeatView R E × ℕ × ℕ × ℕ). Allows Rule slots id z.0 z.1 (λ y. either (eqb y 0) z.2 y) (TakesLockAt kept may follows z.3 z.0)) (λ i. (sym is i, sym up i, sym its i, sym (place_back word place up) i))
      (takes_lock kept may follows settles lawful leans on itself setup slots id p cs place low)

  -- the lock was free: the pass has it, and carries the slot with the record
  pub took_one : (slots : ℕ) (p : P) (cs : Cs) (me : SeatView R E) (place word mark found : ℕ) (me1 : SeatView R E) → me ≡ (p ∷ [], cs) → word ≡ lock_word place → found ≡ 0 → TakesLock kept may follows (step slots word 0 mark none) me found me1
      → (r : R) × (me1 ≡ (took kept place r Carried p ∷ [], (place, Some r) ∷ cs)) × Found kept may follows place r p
  took_one slots p cs me place word mark found me1 is up zero told =
      let h = subst (λ (z : SeatView R E × ℕ). TakesLockAt kept may follows z.1 z.0 found me1) (λ i. (is i, place_back word place up i)) told in
      let a = h.0 zero in (a.0, a.1, a.2.0)

  pub see_allowed : (slots id : ℕ) (p : P) (cs : Cs) (me : SeatView R E) (place word : ℕ) → me ≡ (p ∷ [], cs) → word ≡ lock_word place → Allows Rule slots id me word (λ z. z) (SeesLock (step slots word 0 0 none) me)
  see_allowed slots id p cs me place word is up =
      subst (λ (z : SeatView R E × ℕ). Allows Rule slots id z.0 z.1 (λ y. y) (SeesLock (step slots z.1 0 0 none) z.0)) (λ i. (sym is i, sym up i))
      (sees_lock kept may follows settles lawful leans on itself setup slots id p cs place)

  -- what a load of the lock word saw
  pub saw_it : (slots word found : ℕ) (me me1 : SeatView R E) → SeesLock (step slots word 0 0 none) me found me1 → MatchBool (eqb found 0) (me1 ≡ me) (me1 ≡ (map missed me.0, me.1))
  saw_it slots word found me me1 told = dite (ℕ_discrete found 0)
      (λ hit. subst (λ (b : Bool). MatchBool b (me1 ≡ me) (me1 ≡ (map missed me.0, me.1))) (sym (eq-eqb found 0 hit)) (told.0 hit))
      (λ miss. subst (λ (b : Bool). MatchBool b (me1 ≡ me) (me1 ≡ (map missed me.0, me.1))) (sym (ne_eqb found 0 miss)) (told.1 miss))

  abbrev front : Cs → Opt R
  front [] = None
  front (x ∷ xs) = x.1

  -- what came out of a slot is what the seat carried, and something else is in it
  pub swapped : (v : List P) (cs : Cs) (place : ℕ) (old new found : Opt R) (me1 me2 : SeatView R E) → me1 ≡ (v, (place, old) ∷ cs) → me1.1 ≡ (place, found) ∷ rest me1.1 → me2 ≡ (me1.0, (place, new) ∷ rest me1.1)
      → (found ≡ old) × (me2 ≡ (v, (place, new) ∷ cs))
  swapped v cs place old new found me1 me2 a out b = (ap front (sym out) ∙ ap (λ (z : SeatView R E). front z.1) a, b ∙ ap (λ (z : SeatView R E). (z.0, (place, new) ∷ rest z.1)) a)

  park_allowed_at : (slots id : ℕ) (p : P) (cs : Cs) (me : SeatView R E) (place word : ℕ) (r : R) → me ≡ (took kept place r Carried p ∷ [], (place, None) ∷ cs) → word ≡ lock_word place → place < slots → place < length p.places
      → Allows Rule slots id me word (λ z. z) (ParksSlot (step slots word 0 0 none) me)
  park_allowed_at slots id p cs me place word r is up low inside =
      let here = some_at p.places place inside in
      subst (λ (z : SeatView R E × ℕ × ℕ). Allows Rule slots id z.0 z.1 (λ y. y) (ParksSlotAt z.2 z.0)) (λ i. (sym is i, sym up i, sym (place_back word place up) i))
      (parks kept may follows settles lawful leans on itself setup slots id (took kept place r Carried p) cs place low (place_view (kept r) r Carried, modify_here p.places place (λ t. place_view (kept r) r Carried) here.0 here.1, refl))

  pub park_allowed : (slots id : ℕ) (carried : Opt ℕ) (me : SeatView R E) (place word : ℕ) (r : R) → JustTook kept carried place r me → word ≡ lock_word place → place < slots
      → Allows Rule slots id me word (λ z. z) (ParksSlot (step slots word 0 0 none) me)
  park_allowed slots id carried me place word r just up low = park_allowed_at slots id just.pass (slots_of carried) me place word r just.is up low just.inside

  -- the slot of a record that was taken has gone home, where the seat carries another
  pub parked : (slots : ℕ) (carried : Opt ℕ) (me : SeatView R E) (place word found : ℕ) (r : R) (me1 : SeatView R E) → JustTook kept carried place r me → word ≡ lock_word place → is_some carried ≡ true
      → ParksSlot (step slots word 0 0 none) me found me1 → me1 ≡ (map (in_custody place (custody_beside carried)) me.0, slots_of (option_or carried (Some place)))
  parked slots None me place word found r me1 just up beside told = cc
  parked slots (Some m) me place word found r me1 just up beside told =
      subst (λ (z : SeatView R E × ℕ). ParksSlotAt z.1 z.0 found me1) (λ i. (just.is i, place_back word place up i)) told
      ∙ ap (λ (z : SeatView R E). (map (in_custody place Held) z.0, slots_of (Some m))) (sym just.is)

  -- the seat carries no other slot, and goes on with this one
  pub kept_at_hand : (carried : Opt ℕ) (me : SeatView R E) (place : ℕ) (r : R) → JustTook kept carried place r me → is_some carried ≡ false → me ≡ (map (in_custody place (custody_beside carried)) me.0, slots_of (option_or carried (Some place)))
  kept_at_hand None me place r just not = just.is
      ∙ ap (λ (z : List (PlaceView R E)). (pass_view just.pass.pass just.pass.misses just.pass.journal (look place (length just.pass.journal) (kept r) ∷ just.pass.looks) just.pass.opening z ∷ [], (place, None) ∷ [])) (sym (modify_twice just.pass.places place (λ t. place_view (kept r) r Carried) (restage Carried)))
      ∙ ap (λ (z : SeatView R E). (map (in_custody place Carried) z.0, slots_of (Some place))) (sym just.is)
  kept_at_hand (Some m) me place r just not = cc

  -- the seat after the record was taken, and its slot has gone where it goes
  pub took_out : (carried : Opt ℕ) (p : P) (cs : Cs) (me me1 : SeatView R E) (place : ℕ) (r : R) → me ≡ (took kept place r Carried p ∷ [], cs) → me1 ≡ (map (in_custody place (custody_beside carried)) me.0, slots_of (option_or carried (Some place)))
      → me1 ≡ (took kept place r (custody_beside carried) p ∷ [], slots_of (option_or carried (Some place)))
  took_out carried p cs me me1 place r is e = e ∙ ap (λ (z : SeatView R E). (map (in_custody place (custody_beside carried)) z.0, slots_of (option_or carried (Some place)))) is
      ∙ ap (λ (z : List (PlaceView R E)). (pass_view p.pass p.misses p.journal (look place (length p.journal) (kept r) ∷ p.looks) p.opening z ∷ [], slots_of (option_or carried (Some place)))) (modify_twice p.places place (λ t. place_view (kept r) r Carried) (restage (custody_beside carried)))

  hold_at : (place : Opt ℕ) (places : List (PlaceView R E)) → IsHoldingAt place places → (n : ℕ) → is_at n place ≡ true → IsHolding n places
  hold_at place places h n there = subst (λ (z : Opt ℕ). IsHoldingAt z places) (is_at_some n place there) h

  lawful_by : (place : Opt ℕ) (event : E) (places : List (PlaceView R E)) → MayStand lawful leans settles place event places → (n : ℕ) → is_at n place ≡ true → lawful (seen_at n places ++ event ∷ [])
  lawful_by place event places h n there = subst (λ (z : Opt ℕ). MayStand lawful leans settles z event places) (is_at_some n place there) h

  leans_by : (place : Opt ℕ) (event : E) (places : List (PlaceView R E)) → MayStand lawful leans settles place event places → place ≡ None → (n : ℕ) → leans event ≡ Some n → settled settles (seen_at n places) ≡ true
  leans_by place event places h absent = subst (λ (z : Opt ℕ). MayStand lawful leans settles z event places) absent h

  pub draw_allowed : (slots id : ℕ) (p : P) (cs : Cs) (me : SeatView R E) (place : Opt ℕ) (event : E) (drawn : Opt (Opt ℕ × E)) → me ≡ (p ∷ [], cs) → drawn ≡ Some (place, event)
      → may p.pass place event → length p.journal < 2 ^ 58 → IsHoldingAt place p.places → MayStand lawful leans settles place event p.places
      → Allows Rule slots id me 0 (λ z. (z + 1) % 2 ^ 64) (DrawsWhatIsSaid drawn (step slots 0 1 0 none) me)
  draw_allowed slots id p cs me place event drawn is said may_draw room has stands =
      subst (λ (z : SeatView R E × Opt (Opt ℕ × E)). Allows Rule slots id z.0 0 (λ y. (y + 1) % 2 ^ 64) (DrawsWhatIsSaid z.1 (step slots 0 1 0 none) z.0)) (λ i. (sym is i, sym said i))
      (draws kept may follows settles lawful leans on itself setup slots id p cs place event may_draw room (hold_at place p.places has) (lawful_by place event p.places stands) (leans_by place event p.places stands))

  -- what a step on the stamp word tells is what the caller said
  pub drew_said : (place : Opt ℕ) (event : E) (drawn : Opt (Opt ℕ × E)) (st : Step (Opt R)) (me : SeatView R E) (found : ℕ) (me1 : SeatView R E) → drawn ≡ Some (place, event) → DrawsWhatIsSaid drawn st me found me1 → DrawsStamp place event st me found me1
  drew_said place event drawn st me found me1 said told = subst (λ (z : Opt (Opt ℕ × E)). DrawsWhatIsSaid z st me found me1) said told

  at_home : (st : Custody) → st ≢ Away → st ≢ Carried → st ≡ Held
  at_home Away a c = absurd (a refl)
  at_home Carried a c = absurd (c refl)
  at_home Held a c = refl

  pub fetch_allowed : (slots id : ℕ) (carried : Opt ℕ) (me : SeatView R E) (place word : ℕ) → HasOut carried place me → is_at place carried ≡ false → word ≡ lock_word place → place < slots
      → Allows Rule slots id me word (λ z. z) (FetchesSlot (step slots word 0 0 none) me)
  fetch_allowed slots id carried me place word has not up low =
      let apart_from = (has.is_carried place has.place has.there).0 in
      let held = at_home has.place.custody has.out (λ c. not_true (is_at place carried) not (apart_from c)) in
      subst (λ (z : SeatView R E × ℕ × ℕ). Allows Rule slots id z.0 z.1 (λ y. y) (FetchesSlotAt z.2 z.0)) (λ i. (sym has.is i, sym up i, sym (place_back word place up) i))
      (fetches kept may follows settles lawful leans on itself setup slots id has.pass (slots_of carried) place low (has.place, has.there, held))

  -- the empty slot of the place has come to the seat
  pub fetched : (slots : ℕ) (carried : Opt ℕ) (me : SeatView R E) (place word found : ℕ) (me1 : SeatView R E) → HasOut carried place me → is_at place carried ≡ false → word ≡ lock_word place → FetchesSlot (step slots word 0 0 none) me found me1
      → me1 ≡ (map (in_custody place Carried) me.0, (place, None) ∷ slots_of (without place carried))
  fetched slots carried me place word found me1 has not up told = subst (λ (z : SeatView R E × ℕ). FetchesSlotAt z.1 z.0 found me1) (λ i. (has.is i, place_back word place up i)) told
      ∙ (λ i. (map (in_custody place Carried) (sym has.is i).0, (place, None) ∷ slots_of (cond (sym not i) None carried)))

  -- the seat carries that slot already
  pub there_already : (carried : Opt ℕ) (me : SeatView R E) (place : ℕ) → HasOut carried place me → is_at place carried ≡ true → me ≡ (map (in_custody place Carried) me.0, (place, None) ∷ slots_of (without place carried))
  there_already carried me place has here =
      let p : P = has.pass in
      let at_hand = (has.is_carried place has.place has.there).1 here in
      let same : modify place (restage Carried) p.places ≡ p.places = ap (λ (z : Custody). modify place (restage z) p.places) (sym at_hand) ∙ restaged_same p.places place has.place has.there in
      has.is ∙ (λ i. (pass_view p.pass p.misses p.journal p.looks p.opening (sym same i) ∷ [], slots_of (is_at_some place carried here i)))
      ∙ (λ i. (map (in_custody place Carried) (sym has.is i).0, (place, None) ∷ slots_of (cond (sym here i) None carried)))

  pub free_allowed : (slots id : ℕ) (carried : Opt ℕ) (cs : Cs) (me me1 : SeatView R E) (place word : ℕ) (r : R) (has : MayReturn kept may follows carried place r me) → me1 ≡ (map (in_custody place Carried) me.0, (place, Some r) ∷ cs) → word ≡ lock_word place → place < slots
      → Allows Rule slots id me1 word (λ _. 0) (λ _. FreesLock (step slots word 0 0 none) me1 0)
  free_allowed slots id carried cs me me1 place word r may_return is up low =
      let has = may_return.has in
      let p : P = has.pass in
      let whole : me1 ≡ (in_custody place Carried p ∷ [], (place, Some r) ∷ cs) = is ∙ ap (λ (z : SeatView R E). (map (in_custody place Carried) z.0, (place, Some r) ∷ cs)) has.is in
      subst (λ (z : SeatView R E × ℕ × ℕ). Allows Rule slots id z.0 z.1 (λ _. 0) (λ _. FreesLockAt z.2 z.0 0)) (λ i. (sym whole i, sym up i, sym (place_back word place up) i))
      (frees kept may follows settles lawful leans on itself setup slots id (in_custody place Carried p) cs place r low (restage Carried has.place) (modify_here p.places place (restage Carried) has.place has.there) refl may_return.keeps may_return.follows_last)

  pub freed : (slots : ℕ) (carried : Opt ℕ) (cs : Cs) (me me1 : SeatView R E) (place word : ℕ) (r : R) (me2 : SeatView R E) → HasOut carried place me → me1 ≡ (map (in_custody place Carried) me.0, (place, Some r) ∷ cs) → word ≡ lock_word place
      → FreesLock (step slots word 0 0 none) me1 0 me2 → me2 ≡ (map (released place r) me.0, cs)
  freed slots carried cs me me1 place word r me2 has is up told =
      let p : P = has.pass in
      let whole : me1 ≡ (in_custody place Carried p ∷ [], (place, Some r) ∷ cs) = is ∙ ap (λ (z : SeatView R E). (map (in_custody place Carried) z.0, (place, Some r) ∷ cs)) has.is in
      let a = subst (λ (z : SeatView R E × ℕ). FreesLockAt z.1 z.0 0 me2) (λ i. (whole i, place_back word place up i)) told in
      a r cs refl ∙ (λ i. (pass_view p.pass p.misses p.journal (look place (length p.journal) (seen_restaged p.places place Carried i) ∷ p.looks) p.opening (modify_twice p.places place (restage Carried) (leave r) i) ∷ [], cs))
      ∙ ap (λ (z : SeatView R E). (map (released place r) z.0, cs)) (sym has.is)

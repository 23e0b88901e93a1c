-- Views that are cut and joined, and what the table is at its start and at its end.
use Rattle.std.proofs.Common.{◌≡◌, ◌≢◌, ℕ, suc, ◌+◌, ◌-◌, ◌<◌, ◌≤◌, ◌⊎◌, ⊎_elim, List, [], ◌∷◌, ◌++◌, Bool, eqb, cond, Option as Opt, Some, None, length, map, set, get_or, refl, sym, ap, ◌∙◌, subst, arith, eq-eqb, ne_eqb, ◌*◌}
use Rattle.std.specs.List.{AllByRecursion}
use mathlib.Core.Logic.{dite}
use mathlib.Core.Option.{Option, some, some-injective, some-ne-none}
use native.Mathlib.Decide.{ℕ_discrete}
use lib.ListN.{get_elem?}
use Rattle.atomic_table.specs.Table.{State, Enters, Splits, Joins, opening as opening_state}
use Rattle.atomic_table.proofs.Lists.{at_set, at_snoc, at_map}
use Rattle.init_lock.specs.declared.views.Setup.{Setup}
use Rattle.init_lock.specs.declared.views.PassView.{PassView}
use Rattle.init_lock.specs.declared.views.PlaceView.{PlaceView}
use Rattle.init_lock.specs.declared.views.Custody.{Custody}
use Rattle.init_lock.specs.declared.views.Custody.TheVariants.{Away, Carried, Held}
use Rattle.init_lock.specs.Rule.{lock_word, done_word, element_at, place_view, pass_view, unseen, newcomers, opened, Each, count_of, total, FollowedBy, Knows, Fits, AtHome, RuleHolds}
use Rattle.init_lock.specs.Known.{IsAway, seen_at, last_at, out_of, out_by}
use Rattle.init_lock.specs.Steps.{but_first, just_first}
use Rattle.init_lock.specs.Closing.{numbers}
use Rattle.init_lock.proofs.Lists.{none_some, some_at, low_index, there_element, from_map, length_map}
use Rattle.init_lock.proofs.Entries.{out_is}
use Rattle.init_lock.proofs.Spread.{total_set, total-append, each-append, parts-append}

module _ {A : Type 0} where
  pub all_at : (F : A → Type 0) (l : List A) (n : ℕ) (a : A) → AllByRecursion F l → get_elem? l n ≡ some a → F a
  all_at F [] n a h e = absurd (some-ne-none a (sym e))
  all_at F (x ∷ xs) Prim.Native.Nat.zero a h e = subst F (some-injective x a e) h.0
  all_at F (x ∷ xs) (suc n) a h e = all_at F xs n a h.1 e

  pub all_snoc : (F : A → Type 0) (l : List A) (x : A) → AllByRecursion F l → F x → AllByRecursion F (l ++ x ∷ [])
  all_snoc F [] x h f = (f, tt)
  all_snoc F (y ∷ ys) x h f = (h.0, all_snoc F ys x h.1 f)

  pub all_middle : (F : A → Type 0) (l m : List A) (x : A) → AllByRecursion F (l ++ x ∷ m) → F x
  all_middle F [] m x h = h.0
  all_middle F (y ∷ ys) m x h = all_middle F ys m x h.1

module _ {R E : Type 0} where
  -- the pass is one of the seat's
  abbrev pub In : PassView R E → List (PassView R E) → Type 0
  In p [] = ⊥
  In p (q ∷ qs) = (q ≡ p) ⊎ In p qs

away_custody : {R : Type 0} (st : Custody) (r : R) → out_by st r ≡ None → st ≡ Away
away_custody Away r e = refl
away_custody Carried r e = absurd (none_some (sym e))
away_custody Held r e = absurd (none_some (sym e))

away_at : {R E : Type 0} (ts : List (PlaceView R E)) (n : ℕ) (t : PlaceView R E) → IsAway ts → get_elem? ts n ≡ some t → t.custody ≡ Away
away_at ts n t h e = away_custody t.custody t.last (sym (out_is ts n t e) ∙ h.none_out n)

unseen_out : {R : Type 0} (E : Type 0) (rs : List R) (n : ℕ) → out_of {E = E} n (unseen rs) ≡ None
unseen_out E [] n = refl
unseen_out E (r ∷ rs) Prim.Native.Nat.zero = refl
unseen_out E (r ∷ rs) (suc n) = unseen_out E rs n

pub unseen_away : {R : Type 0} (E : Type 0) (rs : List R) → IsAway {R = R} {E = E} (unseen rs)
unseen_away E rs = record { none_out = unseen_out E rs }

pub unseen_seen : {R : Type 0} (E : Type 0) (rs : List R) (n : ℕ) → seen_at {E = E} n (unseen rs) ≡ []
unseen_seen E [] n = refl
unseen_seen E (r ∷ rs) Prim.Native.Nat.zero = refl
unseen_seen E (r ∷ rs) (suc n) = unseen_seen E rs n

pub unseen_last : {R : Type 0} (E : Type 0) (rs : List R) (n : ℕ) → last_at {E = E} n (unseen rs) ≡ element_at n rs
unseen_last E [] n = refl
unseen_last E (r ∷ rs) Prim.Native.Nat.zero = refl
unseen_last E (r ∷ rs) (suc n) = unseen_last E rs n

pub unseen_none_carried : {R : Type 0} (E : Type 0) (rs : List R) → AllByRecursion (λ t. t.custody ≢ Carried) (unseen {E = E} rs)
unseen_none_carried E [] = tt
unseen_none_carried E (r ∷ rs) = ((λ e. cc), unseen_none_carried E rs)

numbers_last : (i n : ℕ) → numbers i (suc n) ≡ numbers i n ++ (i + n) ∷ []
numbers_last i Prim.Native.Nat.zero = let a : i ≡ i + 0 = omega arith in ap (λ (z : ℕ). z ∷ []) a
numbers_last i (suc n) = let a : suc i + n ≡ i + suc n = omega arith in ap (λ (z : List ℕ). i ∷ z) (numbers_last (suc i) n ∙ ap (λ (z : ℕ). numbers (suc i) n ++ z ∷ []) a)

pub numbers_snoc : (n : ℕ) → numbers 0 (n + 1) ≡ numbers 0 n ++ n ∷ []
numbers_snoc n = let a : n + 1 ≡ suc n = omega arith in let b : 0 + n ≡ n = omega arith in ap (λ (z : ℕ). numbers 0 z) a ∙ (numbers_last 0 n ∙ ap (λ (z : ℕ). numbers 0 n ++ z ∷ []) b)

module _ {R E : Type 0} where
  -- the first of the passes that are left is dealt
  pub deal_one : (v : List (PassView R E)) (i n : ℕ) (rs : List R) → v ≡ newcomers i (n - i) rs → i < n → (just_first v ≡ pass_view i 0 [] [] rs (unseen rs) ∷ []) × (but_first v ≡ newcomers (i + 1) (n - (i + 1)) rs)
  deal_one v i n rs e l = let a : n - i ≡ suc (n - (i + 1)) = omega arith in
      let b : v ≡ pass_view i 0 [] [] rs (unseen rs) ∷ newcomers (suc i) (n - (i + 1)) rs = e ∙ ap (λ (z : ℕ). newcomers i z rs) a in
      let d : suc i ≡ i + 1 = omega arith in (ap just_first b, ap but_first b ∙ ap (λ (z : ℕ). newcomers z (n - (i + 1)) rs) d)

module _ {R E : Type 0} (kept : R → List E) (may : ℕ → Opt ℕ → E → Type 0) (follows : R → R → Type 0) (settles : E → Bool) (lawful : List E → Type 0) (leans : E → Opt ℕ) (setup : Setup R) where
  abbrev P : Type 0
  P = PassView R E

  abbrev St : Type 0
  St = State (Opt R) (List P)

  abbrev Rule : St → Type 0
  Rule = RuleHolds kept may follows settles lawful leans setup

  abbrev F : (s : St) → Rule s → P → Type 0
  F s r = Fits kept may follows setup.threads s.words s.homes r.log r.now

  -- other views of the same words and homes
  pub with_views : (s : St) (r : Rule s) (views : List (List P)) → ((by : ℕ) → total (count_of by) views ≤ 1) → ((i : ℕ) (v : List P) → get_elem? views i ≡ some v → Each (F s r) v)
      → Rule record { words = s.words; homes = s.homes; views = views }
  with_views s r views alone each = record { log = r.log; now = r.now; wide = r.wide; few = r.few; counted = r.counted; allowed = r.allowed; lawful_at = r.lawful_at; backed = r.backed; bounded = r.bounded; alone = alone; each = each; taken = r.taken; free = r.free; done = r.done }

  -- a new seat knows nothing
  pub enters : (slots i : ℕ) → Enters Rule slots i (λ n w. w ≡ [])
  enters slots i s r wide small = (
    [],
    with_views s r (s.views ++ [] ∷ []) (λ by. let a = total-append (count_of by) s.views ([] ∷ []) in let b = r.alone by in omega arith)
        (λ j v e. ⊎_elim (λ h. r.each j v h) (λ h. subst (Each (F s r)) h tt) (at_snoc s.views [] v j e)),
    refl,
  )

  front_each : (G : P → Type 0) (v : List P) → Each G v → Each G (just_first v)
  front_each G [] e = tt
  front_each G (p ∷ ps) e = (e.0, tt)

  back_each : (G : P → Type 0) (v : List P) → Each G v → Each G (but_first v)
  back_each G [] e = tt
  back_each G (p ∷ ps) e = e.1

  cut : (by : ℕ) (v : List P) → count_of by v ≡ count_of by (but_first v) + count_of by (just_first v)
  cut by [] = refl
  cut by (p ∷ ps) = omega arith

  -- the first pass of a seat gets a seat of its own
  pub splits : (id : ℕ) (v : List P) → Splits Rule id v (but_first v) (just_first v)
  splits id v s r at_id = with_views s r (set s.views id (but_first v) ++ just_first v ∷ [])
      (λ by. let a = total-append (count_of by) (set s.views id (but_first v)) (just_first v ∷ []) in let b = total_set (count_of by) s.views id v (but_first v) at_id in let c = cut by v in let d = r.alone by in omega arith)
      (λ j w e. ⊎_elim
      (λ h. ⊎_elim (λ k. subst (Each (F s r)) k.1 (back_each (F s r) v (r.each id v at_id))) (λ k. r.each j w k.1) (at_set s.views id j (but_first v) w h))
      (λ h. subst (Each (F s r)) h (front_each (F s r) v (r.each id v at_id)))
      (at_snoc (set s.views id (but_first v)) (just_first v) w j e))

  -- a seat takes in the passes of another
  pub joins : (id : ℕ) (v : List P) (other : ℕ) (w : List P) → Joins Rule id v other w (v ++ w) []
  joins id v other w s r at_id apart there =
      let was = ⊎_elim (λ h. absurd (apart h.0)) (λ h. h.1) (at_set s.views id other (v ++ w) w there) in
      with_views s r (set (set s.views id (v ++ w)) other [])
      (λ by. let a = total_set (count_of by) s.views id v (v ++ w) at_id in let b = total_set (count_of by) (set s.views id (v ++ w)) other w [] there in let c = parts-append by v w in let d = r.alone by in omega arith)
      (λ j x e. ⊎_elim
      (λ k. subst (Each (F s r)) k.1 tt)
      (λ k. ⊎_elim (λ l. subst (Each (F s r)) l.1 (each-append (F s r) v w (r.each id v at_id) (r.each other w was))) (λ l. r.each j x l.1) (at_set s.views id j (v ++ w) x k.1))
      (at_set (set s.views id (v ++ w)) other j [] x e))

  in_each : (G : P → Type 0) (p : P) (v : List P) → Each G v → In p v → G p
  in_each G p [] e h = absurd h
  in_each G p (q ∷ qs) e h = ⊎_elim (λ same. subst G same e.0) (λ later. in_each G p qs e.1 later) h

  pub fits_in : (s : St) (r : Rule s) (id : ℕ) (v : List P) (p : P) → get_elem? s.views id ≡ some v → In p v → F s r p
  fits_in s r id v p at_id h = in_each (F s r) p v (r.each id v at_id) h

  -- a pass that is away knows of each place
  pub away_knows : (s : St) (r : Rule s) (p : P) (n : ℕ) (t : PlaceView R E) → F s r p → IsAway p.places → get_elem? p.places n ≡ some t
      → Knows kept may follows Away (get_or s.words (lock_word n) 0) (get_elem? s.homes n) r.log (r.now n) p.pass n t
  away_knows s r p n t f away e = subst (λ (z : Custody). Knows kept may follows z (get_or s.words (lock_word n) 0) (get_elem? s.homes n) r.log (r.now n) p.pass n t) (away_at p.places n t away e) (f.places n t e)

  -- with every pass in one view, and none holding, each record is at home
  pub all_home : (s : St) (r : Rule s) (id : ℕ) (v : List P) → get_elem? s.views id ≡ some v → ((k : ℕ) → k < setup.threads → (p : P) × In p v × (p.pass ≡ k) × IsAway p.places)
      → (n : ℕ) → n < length s.homes → AtHome kept may follows s.homes r.log (r.now n) n
  all_home s r id v at_id every n inside = r.free n inside (dite (ℕ_discrete (get_or s.words (lock_word n) 0) 0) (λ zero. zero) (λ busy.
      let w : ℕ = get_or s.words (lock_word n) 0 in
      let b : w ≤ setup.threads = r.taken n inside in
      let h = every (w - 1) (omega arith) in
      let p : P = h.0 in
      let f = fits_in s r id v p at_id h.1 in
      let t = some_at p.places n (low_index p.places s.homes n f.wide inside) in
      let no = (away_knows s r p n t.0 f h.3 t.1).0 in
      let is : p.pass ≡ w - 1 = h.2 in
      absurd (no (omega arith))))

  module _ (itself : (x : R) → follows x x) where
    few_newcomers : (by i n : ℕ) (rs : List R) → (by < i → count_of by (newcomers {E = E} i n rs) ≡ 0) × (count_of by (newcomers {E = E} i n rs) ≤ 1)
    few_newcomers by i Prim.Native.Nat.zero rs = ((λ _. refl), omega arith)
    few_newcomers by i (suc n) rs = let h = few_newcomers by (suc i) n rs in dite (ℕ_discrete i by)
        (λ same. let a : cond {A = ℕ} (eqb i by) 1 0 ≡ 1 = ap (λ (b : Bool). cond {A = ℕ} b 1 0) (eq-eqb i by same) in let z = h.0 (omega arith) in ((λ l. absurd (omega arith)), omega arith))
        (λ other. let a : cond {A = ℕ} (eqb i by) 1 0 ≡ 0 = ap (λ (b : Bool). cond {A = ℕ} b 1 0) (ne_eqb i by other) in let z = h.1 in ((λ l. let y = h.0 (omega arith) in omega arith), omega arith))

    newcomers_fit : (G : P → Type 0) (i n : ℕ) (rs : List R) → ((k : ℕ) → k < i + n → G (pass_view k 0 [] [] rs (unseen rs))) → Each G (newcomers i n rs)
    newcomers_fit G i Prim.Native.Nat.zero rs h = tt
    newcomers_fit G i (suc n) rs h = (h i (omega arith), newcomers_fit G (suc i) n rs (λ k l. h k (omega arith)))

    followed_start : (x : R) (rs : List R) (n : ℕ) → element_at n rs ≡ Some x → FollowedBy kept may follows x (element_at n rs)
    followed_start x rs n e = subst (λ (z : Opt R). FollowedBy kept may follows x z) (sym e) (itself x)

    pub opens : (words : List ℕ) (slots : List (Opt R)) → length words ≡ length slots * 9 + 8 → ((i : ℕ) → get_or words i 0 ≡ 0) → slots ≡ map Some setup.records.value.items
        → AllByRecursion (λ r. kept r ≡ []) setup.records.value.items → setup.threads ≤ 16 → lawful [] → Rule (opening_state words slots (opened setup))
    opens words slots wide zeros same empty few first =
        let records : List R = setup.records.value.items in
        let homes : List (Option (Opt R)) = map some slots in
        let now : ℕ → Opt R = λ n. element_at n records in
        let long : length homes ≡ length slots = length_map some slots in
        let long' : length slots ≡ length records = ap length same ∙ length_map Some records in
        let G : P → Type 0 = Fits kept may follows setup.threads words homes [] now in record {
          log = [];
          now = now;
          wide = wide ∙ ap (λ (z : ℕ). z * 9 + 8) (sym long);
          few = few;
          counted = zeros 0;
          allowed = tt;
          lawful_at = λ n. first;
          backed = tt;
          bounded = λ by. omega arith;
          alone = λ by. let a = (few_newcomers by 0 setup.threads records).1 in omega arith;
          each = λ i v e. all_at (Each G) (opened setup ∷ []) i v (
            newcomers_fit G 0 setup.threads records (λ k l. record {
              below = omega arith;
              drawn = refl;
              places = λ n t h. let a = from_map (λ r. place_view [] r Away) records n t h in let z = zeros (lock_word n) in
                  subst (λ (u : PlaceView R E). Knows kept may follows u.custody (get_or words (lock_word n) 0) (get_elem? homes n) [] (now n) k n u) a.2
                  ((λ e. absurd (omega arith)), record { before = []; after = []; parts = refl; all = refl; none_since = tt }, followed_start a.0 records n (there_element records n a.0 a.1));
              wide = length_map (λ r. place_view [] r Away) records ∙ sym long' ∙ sym long;
              began = λ n x h. followed_start x records n h;
              looks = tt;
            }),
            tt,
          ) e;
          done = λ n l busy. absurd (busy (zeros (done_word (length homes) n)));
          taken = λ n l. let z = zeros (lock_word n) in omega arith;
          free = λ n l _. let a = some_at records n (omega arith) in record {
            record_now = a.0;
            is_now = there_element records n a.0 a.1;
            home = at_map some slots n (Some a.0) (subst (λ (z : List (Opt R)). get_elem? z n ≡ some (Some a.0)) (sym same) (at_map Some records n a.0 a.1));
            keeps = all_at (λ r. kept r ≡ []) records n a.0 empty a.1;
          };
        }

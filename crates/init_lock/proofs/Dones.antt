-- The steps on the done word of a place keep the rule.
use Rattle.std.proofs.Common.{◌≡◌, ◌≢◌, ℕ, ◌<◌, ⊎_elim, List, [], ◌∷◌, ◌++◌, Bool, true, Option as Opt, length, set, get_or, refl, sym, ap, ◌∙◌, subst, arith, append-nil, length-set, get_or-set_other}
use mathlib.Core.Logic.{dite}
use mathlib.Core.Option.{Option, none, some}
use native.Mathlib.Decide.{ℕ_discrete}
use lib.ListN.{get_elem?}
use lib.Seq.{set-get_or}
use Rattle.atomic_table.specs.Table.{State, step, keeps, Allows}
use Rattle.atomic_table.proofs.Lists.{set_again}
use Rattle.init_lock.specs.declared.views.Setup.{Setup}
use Rattle.init_lock.specs.declared.views.PassView.{PassView}
use Rattle.init_lock.specs.declared.views.PlaceView.{PlaceView}
use Rattle.init_lock.specs.declared.views.Custody.{Custody}
use Rattle.init_lock.specs.declared.views.Custody.TheVariants.{Away, Carried, Held}
use Rattle.init_lock.specs.Log.{Entry, events_at, AllAllowed, Grew, settled}
use Rattle.init_lock.specs.Rule.{lock_word, done_word, place_of_done, Each, Knows, Fits, RuleHolds}
use Rattle.init_lock.specs.Steps.{SeatView, learn, saw, SeesDone, SeesDoneAt, SetsDone, HasSettled}
use Rattle.init_lock.proofs.Lists.{at_low, low_index, some_at, at_modify, length-modify}
use Rattle.init_lock.proofs.Logs.{events-append, allowed_after, by_others}
use Rattle.init_lock.proofs.Entries.{seen_is}
use Rattle.init_lock.proofs.Spread.{others_keep, still_alone}
use Rattle.init_lock.proofs.Ends.{with_views}
use Rattle.init_lock.proofs.Steps.{known_all}

-- the done word of a place tells the place
done_back : (slots word place : ℕ) → word ≡ done_word slots place → place_of_done slots word ≡ place
done_back slots word place up = omega arith

module _ {R E : Type 0} (kept : R → List E) (may : ℕ → Opt ℕ → E → Type 0) (follows : R → R → Type 0) (settles : E → Bool) (lawful : List E → Type 0) (leans : E → Opt ℕ) (on : (x y z : R) → follows x y → follows y z → follows x z) (itself : (x : R) → follows x x) (setup : Setup R) where
  abbrev P : Type 0
  P = PassView R E

  abbrev St : Type 0
  St = State (Opt R) (List P)

  abbrev Rule : St → Type 0
  Rule = RuleHolds kept may follows settles lawful leans setup

  abbrev K : Custody → ℕ → Option (Option (Opt R)) → List (Entry E) → Opt R → ℕ → ℕ → PlaceView R E → Type 0
  K = Knows kept may follows

  abbrev F : List ℕ → List (Option (Opt R)) → List (Entry E) → (ℕ → Opt R) → P → Type 0
  F words homes log now = Fits kept may follows setup.threads words homes log now

  abbrev Cs : Type 0
  Cs = List (ℕ × Opt R)

  -- all that is at a place, to a pass that knows this much of it
  learned_at : (s : St) (r : Rule s) (st : Custody) (word : ℕ) (home : Option (Option (Opt R))) (now : Opt R) (q n : ℕ) (t : PlaceView R E) → K st word home r.log now q n t → Grew may q n t.seen (events_at n r.log)
  learned_at s r Away word home now q n t h = let saw = h.1 in record {
    more = events_at n saw.after;
    begins = ap (events_at n) saw.parts ∙ (events-append n saw.before saw.after ∙ ap (λ (z : List E). z ++ events_at n saw.after) (sym saw.all));
    by_others = by_others setup.threads (length s.homes) may q n saw.after (allowed_after setup.threads (length s.homes) may saw.before saw.after (subst (AllAllowed setup.threads (length s.homes) may) saw.parts r.allowed)) saw.none_since;
  }
  learned_at s r Carried word home now q n t h = record { more = []; begins = sym h.1 ∙ sym (append-nil t.seen); by_others = tt }
  learned_at s r Held word home now q n t h = record { more = []; begins = sym h.1 ∙ sym (append-nil t.seen); by_others = tt }

  -- it knows all of it from then on
  knows_all : (st : Custody) (word : ℕ) (home : Option (Option (Opt R))) (log : List (Entry E)) (now : Opt R) (q n : ℕ) (t : PlaceView R E) → K st word home log now q n t → K st word home log now q n (learn (events_at n log) t)
  knows_all Away word home log now q n t h = (h.0, record { before = log; after = []; parts = sym (append-nil log); all = refl; none_since = tt }, h.2)
  knows_all Carried word home log now q n t h = (h.0, refl, h.2)
  knows_all Held word home log now q n t h = (h.0, refl, h.2, h.3)

  -- the rule after a pass has seen all that is at a place
  saw_rule : (s : St) (r : Rule s) (id : ℕ) (p : P) (n : ℕ) → get_elem? s.views id ≡ some (p ∷ []) → Rule record { words = s.words; homes = s.homes; views = set s.views id (saw n (events_at n r.log) p ∷ []) }
  saw_rule s r id p n at_id =
      let xs : List E = events_at n r.log in
      let w : P = saw n xs p in
      let Old : P → Type 0 = F s.words s.homes r.log r.now in
      let my = (r.each id (p ∷ []) at_id).0 in
      with_views kept may follows settles lawful leans setup s r (set s.views id (w ∷ [])) (still_alone s.views id p w at_id refl r.alone)
      (others_keep Old Old s.views id p w at_id r.alone (λ q apart o. o) (record {
        below = my.below;
        drawn = my.drawn;
        places = λ m t e. ⊎_elim
            (λ h. subst (λ (u : PlaceView R E). K u.custody (get_or s.words (lock_word m) 0) (get_elem? s.homes m) r.log (r.now m) p.pass m u) (ap (λ (z : ℕ). learn (events_at z r.log) h.1) h.0 ∙ h.3)
            (knows_all h.1.custody (get_or s.words (lock_word m) 0) (get_elem? s.homes m) r.log (r.now m) p.pass m h.1 (my.places m h.1 (subst (λ (z : ℕ). get_elem? p.places z ≡ some h.1) (sym h.0) h.2))))
            (λ h. my.places m t h.1)
            (at_modify p.places n m (learn xs) t e);
        wide = length-modify p.places n (learn xs) ∙ my.wide;
        began = my.began;
        looks = (record { before = r.log; after = []; parts = sym (append-nil r.log); all = refl; mine = ap length my.drawn }, my.looks);
      }) r.each)

  -- the done word is read
  pub sees_done : (slots id : ℕ) (p : P) (cs : Cs) (n : ℕ) → n < slots → Allows Rule slots id (p ∷ [], cs) (done_word slots n) (λ z. z) (SeesDoneAt may settles lawful n (p ∷ [], cs))
  sees_done slots id p cs n low s r wide at_id _ =
      let xs : List E = events_at n r.log in
      let my = (r.each id (p ∷ []) at_id).0 in
      dite (ℕ_discrete (get_or s.words (done_word slots n) 0) 0)
      (λ zero. (
        p ∷ [],
        keeps,
        tt,
        subst (λ (z : List ℕ × List (List P)). Rule record { words = z.0; homes = s.homes; views = z.1 }) (λ i. (sym (set-get_or s.words (done_word slots n) 0) i, sym (set_again s.views id (p ∷ []) at_id) i)) r,
        ((λ _. refl), λ busy. absurd (busy zero)),
      ))
      (λ busy.
      let inside : n < length p.places = low_index p.places s.homes n my.wide (omega arith) in
      let here = some_at p.places n inside in
      let t : PlaceView R E = here.0 in (
        saw n xs p ∷ [],
        keeps,
        tt,
        subst (λ (z : List ℕ). Rule record { words = z; homes = s.homes; views = set s.views id (saw n xs p ∷ []) }) (sym (set-get_or s.words (done_word slots n) 0)) (saw_rule s r id p n at_id),
        (
          (λ zero. absurd (busy zero)),
          λ _. (
            xs,
            refl,
            (
              record {
                inside = inside;
                grew = subst (λ (z : List E). Grew may p.pass n z xs) (sym (seen_is p.places n t here.1)) (learned_at s r t.custody (get_or s.words (lock_word n) 0) (get_elem? s.homes n) (r.now n) p.pass n t (my.places n t here.1));
                settled_now = r.done n (omega arith) (λ zero. busy (ap (λ (z : ℕ). get_or s.words (done_word z n) 0) (sym wide) ∙ zero));
                lawful_now = r.lawful_at n;
              },
              tt,
            ),
          ),
        ),
      ))

  each_map : (A B : P → Type 0) → ((q : P) → A q → B q) → (v : List P) → Each A v → Each B v
  each_map A B f [] h = tt
  each_map A B f (q ∷ qs) h = (f q h.0, each_map A B f qs h.1)

  -- the done word is set, by the pass that has the record of a settled place
  pub sets_done : (slots id : ℕ) (p : P) (cs : Cs) (n : ℕ) (t : PlaceView R E) → n < slots → get_elem? p.places n ≡ some t → t.custody ≢ Away → settled settles t.seen ≡ true
      → Allows Rule slots id (p ∷ [], cs) (done_word slots n) (λ _. 1) (λ _. SetsDone (step slots (done_word slots n) 1 0 none) (p ∷ [], cs) 1)
  sets_done slots id p cs n t low there out done s r wide at_id _ =
      let wider = r.wide in
      let other : (m : ℕ) → m < length s.homes → get_or (set s.words (done_word slots n) 1) (lock_word m) 0 ≡ get_or s.words (lock_word m) 0 = λ m l. get_or-set_other s.words (done_word slots n) (lock_word m) 1 0 (λ e. omega arith) in
      let all = known_all kept may follows settles lawful leans on itself setup t.custody (get_or s.words (lock_word n) 0) (get_elem? s.homes n) r.log (r.now n) p.pass n t out ((r.each id (p ∷ []) at_id).0.places n t there) in (
        p ∷ [],
        keeps,
        tt,
        subst (λ (z : List (List P)). Rule record { words = set s.words (done_word slots n) 1; homes = s.homes; views = z }) (sym (set_again s.views id (p ∷ []) at_id)) (record {
          log = r.log;
          now = r.now;
          wide = length-set s.words (done_word slots n) 1 ∙ wider;
          few = r.few;
          counted = get_or-set_other s.words (done_word slots n) 0 1 0 (λ e. omega arith) ∙ r.counted;
          allowed = r.allowed;
          lawful_at = r.lawful_at;
          backed = r.backed;
          bounded = r.bounded;
          alone = r.alone;
          each = λ i v e. each_map (F s.words s.homes r.log r.now) (F (set s.words (done_word slots n) 1) s.homes r.log r.now) (λ q o. record {
            below = o.below;
            drawn = o.drawn;
            places = λ m u at_m. let l = at_low q.places m u at_m in let k = o.wide in subst (λ (z : ℕ). K u.custody z (get_elem? s.homes m) r.log (r.now m) q.pass m u) (sym (other m (omega arith))) (o.places m u at_m);
            wide = o.wide;
            began = o.began;
            looks = o.looks;
          }) v (r.each i v e);
          taken = λ m l. let e = other m l in let b = r.taken m l in omega arith;
          free = λ m l zero. r.free m l (sym (other m l) ∙ zero);
          done = λ m l busy. dite (ℕ_discrete m n)
              (λ same. ap (λ (z : ℕ). settled settles (events_at z r.log)) same ∙ (ap (settled settles) (sym all) ∙ done))
              (λ not_n. r.done m l (λ zero. busy (get_or-set_other s.words (done_word slots n) (done_word (length s.homes) m) 1 0 (λ e. not_n (omega arith)) ∙ zero)));
        }),
        refl,
      )

  pub see_done_allowed : (slots id : ℕ) (p : P) (cs : Cs) (me : SeatView R E) (place word : ℕ) → me ≡ (p ∷ [], cs) → word ≡ done_word slots place → place < slots → Allows Rule slots id me word (λ z. z) (SeesDone may settles lawful (step slots word 0 0 none) me)
  see_done_allowed slots id p cs me place word is up low =
      subst (λ (z : SeatView R E × ℕ × ℕ). Allows Rule slots id z.0 z.1 (λ y. y) (SeesDoneAt may settles lawful z.2 z.0)) (λ i. (sym is i, sym up i, sym (done_back slots word place up) i))
      (sees_done slots id p cs place low)

  pub set_done_allowed : (slots id : ℕ) (carried : Opt ℕ) (me : SeatView R E) (place word : ℕ) → HasSettled settles carried place me → word ≡ done_word slots place → place < slots → Allows Rule slots id me word (λ _. 1) (λ _. SetsDone (step slots word 1 0 none) me 1)
  set_done_allowed slots id carried me place word h up low =
      let has = h.has in
      subst (λ (z : SeatView R E × ℕ). Allows Rule slots id z.0 z.1 (λ _. 1) (λ _. SetsDone (step slots z.1 1 0 none) z.0 1)) (λ i. (sym has.is i, sym up i))
      (sets_done slots id has.pass _ place has.place low has.there has.out h.settled_now)

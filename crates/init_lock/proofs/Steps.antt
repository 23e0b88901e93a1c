-- Each atomic step keeps the rule. One lemma, `moved`, serves every step on a lock word, and `drawn_rule` the step on the stamp word.
use Rattle.std.proofs.Common.{◌≡◌, ◌≢◌, ℕ, suc, ◌+◌, ◌^◌, ◌%◌, ◌<◌, ◌≤◌, ◌⊎◌, inl, inr, ⊎_elim, List, [], ◌∷◌, ◌++◌, Bool, true, false, eqb, cond, Option as Opt, Some, None, length, set, get_or, refl, sym, ap, ◌∙◌, subst, arith, eq-eqb, ne_eqb, append_assoc, append-nil, length-set, get_or-set_other, get_or-set_same, ◌*◌}
use Rattle.std.proofs.Math.Nat.{mod-eq_of_lt}
use mathlib.Core.Logic.{dite}
use mathlib.Core.Option.{Option, none, some, some-injective}
use native.Mathlib.Decide.{ℕ_discrete}
use lib.ListN.{get_elem?}
use lib.Seq.{set-get_or}
use prog.Atomic.{either}
use Rattle.atomic_table.specs.Table.{State, step, keeps, takes, gives, rest, stepped, Allows}
use Rattle.atomic_table.proofs.Lists.{set_else, set_here, set_again}
use Rattle.init_lock.specs.declared.views.Setup.{Setup}
use Rattle.init_lock.specs.declared.views.PassView.{PassView}
use Rattle.init_lock.specs.declared.views.PlaceView.{PlaceView}
use Rattle.init_lock.specs.declared.views.Custody.{Custody}
use Rattle.init_lock.specs.declared.views.Custody.TheVariants.{Away, Carried, Held}
use Rattle.init_lock.specs.declared.journal.Stamped.{Stamped}
use Rattle.init_lock.specs.Log.{Entry, is_at, IsPlace, events_at, journal_of, own_events, AreBelow, AllAllowed, Grew, IsWithin, AllBacked, stamped, settled}
use Rattle.init_lock.specs.Rule.{lock_word, done_word, element_at, place_view, FollowedBy, Knows, Fits, RuleHolds, AllSeen}
use Rattle.init_lock.specs.Known.{look, seen_at, out_by}
use Rattle.init_lock.specs.Steps.{restage, in_custody, took, missed, leave, released, extend, drew, Found, TakesLockAt, SeesLock, ParksSlotAt, FetchesSlotAt, FreesLockAt, DrawsStamp}
use Rattle.init_lock.proofs.Lists.{length_snoc, low_index, said_is, length-modify, modified, unmodified, some_at, at_low}
use Rattle.init_lock.proofs.Logs.{bool_cases, events-append, settled-append, none-append, allowed-append, allowed_after, backed-append, is_backed, by_others, own_within, below, short}
use Rattle.init_lock.proofs.Entries.{events_off, events_on, journal_off, journal_on, seen_on, seen_is, last_is, out_is, drawn_at, length-drawn}
use Rattle.init_lock.proofs.Places.{IsHolding}
use Rattle.init_lock.proofs.Spread.{others_keep, still_alone}

abbrev pub update : {R : Type 0} → (ℕ → Opt R) → ℕ → R → ℕ → Opt R
update f n y m = cond (eqb m n) (Some y) (f m)

-- an entry of the log
abbrev entry : {E : Type 0} → ℕ → Opt ℕ → E → Entry E
entry by place event = record { by = by; place = place; event = event }

bool_apart : (b : Bool) → b ≡ true → b ≡ false → ⊥
bool_apart true p q = cc
bool_apart false p q = cc

module _ {R E : Type 0} (kept : R → List E) (may : ℕ → Opt ℕ → E → Type 0) (follows : R → R → Type 0) (settles : E → Bool) (lawful : List E → Type 0) (leans : E → Opt ℕ) (on : (x y z : R) → follows x y → follows y z → follows x z) (itself : (x : R) → follows x x) (setup : Setup R) where
  abbrev P : Type 0
  P = PassView R E

  abbrev St : Type 0
  St = State (Opt R) (List P)

  abbrev Rule : St → Type 0
  Rule = RuleHolds kept may follows settles lawful leans setup

  abbrev K : Custody → ℕ → Option (Option (Opt R)) → List (Entry E) → Opt R → ℕ → ℕ → PlaceView R E → Type 0
  K = Knows kept may follows

  abbrev word : St → ℕ → ℕ
  word s n = get_or s.words (lock_word n) 0

  -- the record of a place is there, and this one follows it
  abbrev pub Follows : Opt R → R → Type 0
  Follows (Some x) y = follows x y
  Follows None y = ⊥

  followed : (x : R) (now : Opt R) (y : R) → FollowedBy kept may follows x now → Follows now y → FollowedBy kept may follows x (Some y)
  followed x (Some z) y h f = on x z y h f
  followed x None y h f = absurd h

  -- what a pass knows of a place that another has or had, where the word changes from one of the other's to one of the other's
  foreign : (st : Custody) (wd x : ℕ) (home home' : Option (Option (Opt R))) (log : List (Entry E)) (now : Opt R) (y : R) (k q n : ℕ) (t : PlaceView R E)
      → q ≢ k → (wd ≡ 0) ⊎ (wd ≡ suc k) → (x ≡ 0) ⊎ (x ≡ suc k) → Follows now y → K st wd home log now q n t → K st x home' log (Some y) q n t
  foreign Away wd x home home' log now y k q n t apart was is f h = ((λ e. ⊎_elim (λ z. absurd (omega arith)) (λ z. apart (omega arith)) is), h.1, followed t.last now y h.2 f)
  foreign Carried wd x home home' log now y k q n t apart was is f h = let a = h.0 in absurd (⊎_elim (λ z. absurd (omega arith)) (λ z. apart (omega arith)) was)
  foreign Held wd x home home' log now y k q n t apart was is f h = let a = h.0 in absurd (⊎_elim (λ z. absurd (omega arith)) (λ z. apart (omega arith)) was)

  same_knows : (st : Custody) (wd wd' : ℕ) (home home' : Option (Option (Opt R))) (log : List (Entry E)) (now now' : Opt R) (q n : ℕ) (t : PlaceView R E)
      → wd' ≡ wd → home' ≡ home → now' ≡ now → K st wd home log now q n t → K st wd' home' log now' q n t
  same_knows st wd wd' home home' log now now' q n t a b c h =
      subst (λ (z : ℕ × Option (Option (Opt R)) × Opt R). K st z.0 z.1 log z.2 q n t) (λ i. (sym a i, sym b i, sym c i)) h

  -- the record of the place n is y from now on
  began_on : (now : ℕ → Opt R) (n : ℕ) (y : R) (m : ℕ) (x : R) → Follows (now n) y → FollowedBy kept may follows x (now m) → FollowedBy kept may follows x (update now n y m)
  began_on now n y m x f h = dite (ℕ_discrete m n)
      (λ is_n. subst (λ (b : Bool). FollowedBy kept may follows x (cond b (Some y) (now m))) (sym (eq-eqb m n is_n)) (followed x (now m) y h (subst (λ (z : ℕ). Follows (now z) y) (sym is_n) f)))
      (λ not_n. subst (λ (b : Bool). FollowedBy kept may follows x (cond b (Some y) (now m))) (sym (ne_eqb m n not_n)) h)

  -- a step on the lock word of a place, by the pass that has it before or after
  pub moved : (s : St) (r : Rule s) (id : ℕ) (p w : P) (n x : ℕ) (homes : List (Option (Opt R))) (y : R) → get_elem? s.views id ≡ some (p ∷ [])
      → w.pass ≡ p.pass → w.journal ≡ p.journal → w.opening ≡ p.opening → length w.places ≡ length p.places → AllSeen r.log p.pass w.looks
      → n < length s.homes → length homes ≡ length s.homes → ((m : ℕ) → m ≢ n → get_elem? homes m ≡ get_elem? s.homes m)
      → (word s n ≡ 0) ⊎ (word s n ≡ suc p.pass) → (x ≡ 0) ⊎ (x ≡ suc p.pass) → Follows (r.now n) y
      → ((m : ℕ) (t : PlaceView R E) → m ≢ n → get_elem? w.places m ≡ some t → get_elem? p.places m ≡ some t)
      → ((t : PlaceView R E) → get_elem? w.places n ≡ some t → K t.custody x (get_elem? homes n) r.log (Some y) p.pass n t)
      → (x ≡ 0 → (get_elem? homes n ≡ some (some (Some y))) × (kept y ≡ events_at n r.log))
      → Rule record { words = set s.words (lock_word n) x; homes = homes; views = set s.views id (w ∷ []) }
  moved s r id p w n x homes y at_id same_pass same_journal same_opening same_wide looked inside same_homes elsewhere was is f others_stay mine home =
      let wide = r.wide in
      let now : ℕ → Opt R = update r.now n y in
      let here : get_or (set s.words (lock_word n) x) (lock_word n) 0 ≡ x = get_or-set_same s.words (lock_word n) x 0 (omega arith) in
      let there : (m : ℕ) → m ≢ n → get_or (set s.words (lock_word n) x) (lock_word m) 0 ≡ word s m = λ m ne. get_or-set_other s.words (lock_word n) (lock_word m) x 0 (λ e. ne (omega arith)) in
      let now_here : (m : ℕ) → m ≡ n → now m ≡ Some y = λ m e. ap (λ (b : Bool). cond b (Some y) (r.now m)) (eq-eqb m n e) in
      let now_there : (m : ℕ) → m ≢ n → now m ≡ r.now m = λ m e. ap (λ (b : Bool). cond b (Some y) (r.now m)) (ne_eqb m n e) in
      let Old : P → Type 0 = Fits kept may follows setup.threads s.words s.homes r.log r.now in
      let New : P → Type 0 = Fits kept may follows setup.threads (set s.words (lock_word n) x) homes r.log now in
      let at_place : (m q : ℕ) (t : PlaceView R E) → m ≡ n → K t.custody x (get_elem? homes n) r.log (Some y) q n t → K t.custody (get_or (set s.words (lock_word n) x) (lock_word m) 0) (get_elem? homes m) r.log (now m) q m t
      = λ m q t e h. subst (λ (z : ℕ). K t.custody (get_or (set s.words (lock_word n) x) (lock_word z) 0) (get_elem? homes z) r.log (now z) q z t) (sym e)
      (same_knows t.custody x (get_or (set s.words (lock_word n) x) (lock_word n) 0) (get_elem? homes n) (get_elem? homes n) r.log (Some y) (now n) q n t here refl (now_here n refl) h) in
      let off_place : (m q : ℕ) (t : PlaceView R E) → m ≢ n → K t.custody (word s m) (get_elem? s.homes m) r.log (r.now m) q m t → K t.custody (get_or (set s.words (lock_word n) x) (lock_word m) 0) (get_elem? homes m) r.log (now m) q m t
      = λ m q t e h. same_knows t.custody (word s m) (get_or (set s.words (lock_word n) x) (lock_word m) 0) (get_elem? s.homes m) (get_elem? homes m) r.log (r.now m) (now m) q m t (there m e) (elsewhere m e) (now_there m e) h in
      let my : Old p = (r.each id (p ∷ []) at_id).0 in
      let keep : (q : P) → q.pass ≢ p.pass → Old q → New q = λ q apart o. record {
        below = o.below;
        drawn = o.drawn;
        places = λ m t e. dite (ℕ_discrete m n)
            (λ is_n. at_place m q.pass t is_n (foreign t.custody (word s n) x (get_elem? s.homes n) (get_elem? homes n) r.log (r.now n) y p.pass q.pass n t apart was is f
            (o.places n t (subst (λ (z : ℕ). get_elem? q.places z ≡ some t) is_n e))))
            (λ not_n. off_place m q.pass t not_n (o.places m t e));
        wide = o.wide ∙ sym same_homes;
        began = λ m z e. began_on r.now n y m z f (o.began m z e);
        looks = o.looks;
      } in
      let w_fits : New w = record {
        below = subst (λ (z : ℕ). z < setup.threads) (sym same_pass) my.below;
        drawn = same_journal ∙ my.drawn ∙ ap (λ (z : ℕ). journal_of z 0 r.log) (sym same_pass);
        places = λ m t e. subst (λ (z : ℕ). K t.custody (get_or (set s.words (lock_word n) x) (lock_word m) 0) (get_elem? homes m) r.log (now m) z m t) (sym same_pass) (dite (ℕ_discrete m n)
            (λ is_n. at_place m p.pass t is_n (mine t (subst (λ (z : ℕ). get_elem? w.places z ≡ some t) is_n e)))
            (λ not_n. off_place m p.pass t not_n (my.places m t (others_stay m t not_n e))));
        wide = same_wide ∙ my.wide ∙ sym same_homes;
        began = λ m z e. began_on r.now n y m z f (my.began m z (ap (element_at m) (sym same_opening) ∙ e));
        looks = subst (λ (z : ℕ). AllSeen r.log z w.looks) (sym same_pass) looked;
      } in record {
        log = r.log;
        now = now;
        wide = length-set s.words (lock_word n) x ∙ wide ∙ ap (λ (z : ℕ). z * 9 + 8) (sym same_homes);
        few = r.few;
        counted = get_or-set_other s.words (lock_word n) 0 x 0 (λ e. omega arith) ∙ r.counted;
        allowed = subst (λ (z : ℕ). AllAllowed setup.threads z may r.log) (sym same_homes) r.allowed;
        lawful_at = r.lawful_at;
        backed = r.backed;
        bounded = r.bounded;
        alone = still_alone s.views id p w at_id same_pass r.alone;
        each = others_keep Old New s.views id p w at_id r.alone keep w_fits r.each;
        taken = λ m l. dite (ℕ_discrete m n)
            (λ is_n. let low = my.below in let e : get_or (set s.words (lock_word n) x) (lock_word m) 0 ≡ x = ap (λ (z : ℕ). get_or (set s.words (lock_word n) x) (lock_word z) 0) is_n ∙ here in ⊎_elim (λ z. omega arith) (λ z. omega arith) is)
            (λ not_n. let e = there m not_n in let b = r.taken m (omega arith) in omega arith);
        done = λ m l busy. r.done m (omega arith) (λ zero. busy (get_or-set_other s.words (lock_word n) (done_word (length homes) m) x 0 (λ e. omega arith) ∙ (ap (λ (z : ℕ). get_or s.words (done_word z m) 0) same_homes ∙ zero)));
        free = λ m l zero. dite (ℕ_discrete m n)
            (λ is_n. let e : get_or (set s.words (lock_word n) x) (lock_word m) 0 ≡ x = ap (λ (z : ℕ). get_or (set s.words (lock_word n) x) (lock_word z) 0) is_n ∙ here in
            let h = home (sym e ∙ zero) in
            record { record_now = y; is_now = now_here m is_n; home = ap (get_elem? homes) is_n ∙ h.0; keeps = h.1 ∙ ap (λ (z : ℕ). events_at z r.log) (sym is_n) })
            (λ not_n. let b = r.free m (omega arith) (sym (there m not_n) ∙ zero) in
            record { record_now = b.record_now; is_now = now_there m not_n ∙ b.is_now; home = elsewhere m not_n ∙ b.home; keeps = b.keeps });
      }

  abbrev Cs : Type 0
  Cs = List (ℕ × Opt R)

  inside_of : (s : St) (r : Rule s) (slots n : ℕ) → n < slots → length s.homes ≡ slots → n < length s.homes
  inside_of s r slots n low wide = omega arith

  -- what the rule says of the free record of a place to a pass that knows this much of it
  shown : (s : St) (r : Rule s) (k n : ℕ) (home : Option (Option (Opt R))) (t : PlaceView R E) (y : R) → word s n ≡ 0 → r.now n ≡ Some y → kept y ≡ events_at n r.log
      → (st : Custody) → K st (word s n) home r.log (r.now n) k n t → (out_by st t.last ≡ None) × Grew may k n t.seen (kept y) × follows t.last y
  shown s r k n home t y hit is all Away h = let saw = h.1 in (
    refl,
    record {
      more = events_at n saw.after;
      begins = all ∙ (ap (events_at n) saw.parts ∙ (events-append n saw.before saw.after ∙ ap (λ (z : List E). z ++ events_at n saw.after) (sym saw.all)));
      by_others = by_others setup.threads (length s.homes) may k n saw.after (allowed_after setup.threads (length s.homes) may saw.before saw.after (subst (AllAllowed setup.threads (length s.homes) may) saw.parts r.allowed)) saw.none_since;
    },
    subst (FollowedBy kept may follows t.last) is h.2,
  )
  shown s r k n home t y hit is all Carried h = let a = h.0 in absurd (omega arith)
  shown s r k n home t y hit is all Held h = let a = h.0 in absurd (omega arith)

  shows : (s : St) (r : Rule s) (id : ℕ) (p : P) (n : ℕ) (y : R) → word s n ≡ 0 → r.now n ≡ Some y → kept y ≡ events_at n r.log → n < length s.homes → get_elem? s.views id ≡ some (p ∷ []) → Found kept may follows n y p
  shows s r id p n y hit is all inside at_id =
      let my = (r.each id (p ∷ []) at_id).0 in
      let low = low_index p.places s.homes n my.wide inside in
      let here = some_at p.places n low in
      let t : PlaceView R E = here.0 in
      let h = shown s r p.pass n (get_elem? s.homes n) t y hit is all t.custody (my.places n t here.1) in record {
        inside = low;
        free = out_is p.places n t here.1 ∙ h.0;
        grew = subst (λ (z : List E). Grew may p.pass n z (kept y)) (sym (seen_is p.places n t here.1)) h.1;
        own = subst (λ (z : List (Stamped E) × List E). IsWithin (own_events n z.0) z.1) (λ i. (sym my.drawn i, sym all i)) (own_within p.pass 0 n r.log);
        last = λ x e. subst (λ (z : R). follows z y) (said_is t.last x (sym (last_is p.places n t here.1) ∙ e)) h.2;
        opening = λ x e. subst (FollowedBy kept may follows x) is (my.began n x e);
      }

  same_words : (s : St) (n y : ℕ) → word s n ≢ 0 → set s.words (lock_word n) (either (eqb (word s n) 0) y (word s n)) ≡ s.words
  same_words s n y miss = ap (λ (b : Bool). set s.words (lock_word n) (either b y (word s n))) (ne_eqb (word s n) 0 miss) ∙ set-get_or s.words (lock_word n) 0

  abbrev first_of : R → Cs → Opt R
  first_of y [] = Some y
  first_of y (x ∷ xs) = x.1

  -- what the pass sees at this very moment
  sees_all : (s : St) (r : Rule s) (id : ℕ) (p : P) (n : ℕ) (seen : List E) → get_elem? s.views id ≡ some (p ∷ []) → seen ≡ events_at n r.log → AllSeen r.log p.pass (look n (length p.journal) seen ∷ p.looks)
  sees_all s r id p n seen at_id all = let my = (r.each id (p ∷ []) at_id).0 in
      (record { before = r.log; after = []; parts = sym (append-nil r.log); all = all; mine = ap length my.drawn }, my.looks)

  -- a lock was found taken
  missed_rule : (s : St) (r : Rule s) (id : ℕ) (p : P) → get_elem? s.views id ≡ some (p ∷ []) → Rule record { words = s.words; homes = s.homes; views = set s.views id (missed p ∷ []) }
  missed_rule s r id p at_id =
      let Old : P → Type 0 = Fits kept may follows setup.threads s.words s.homes r.log r.now in
      let my = (r.each id (p ∷ []) at_id).0 in record {
        log = r.log;
        now = r.now;
        wide = r.wide;
        few = r.few;
        counted = r.counted;
        allowed = r.allowed;
        lawful_at = r.lawful_at;
        backed = r.backed;
        bounded = r.bounded;
        alone = still_alone s.views id p (missed p) at_id refl r.alone;
        each = others_keep Old Old s.views id p (missed p) at_id r.alone (λ q apart o. o) (record { below = my.below; drawn = my.drawn; places = my.places; wide = my.wide; began = my.began; looks = my.looks }) r.each;
        taken = r.taken;
        free = r.free;
        done = r.done;
      }

  -- the lock is seen
  pub sees_lock : (slots id : ℕ) (p : P) (cs : Cs) (n : ℕ) → Allows Rule slots id (p ∷ [], cs) (lock_word n) (λ z. z) (SeesLock (step slots (lock_word n) 0 0 none) (p ∷ [], cs))
  sees_lock slots id p cs n s r wide at_id _ = dite (ℕ_discrete (word s n) 0)
      (λ hit. (
        p ∷ [],
        keeps,
        tt,
        subst (λ (z : List ℕ × List (List P)). Rule record { words = z.0; homes = s.homes; views = z.1 }) (λ i. (sym (set-get_or s.words (lock_word n) 0) i, sym (set_again s.views id (p ∷ []) at_id) i)) r,
        ((λ _. refl), λ miss. absurd (miss hit)),
      ))
      (λ miss. (
        missed p ∷ [],
        keeps,
        tt,
        subst (λ (z : List ℕ). Rule record { words = z; homes = s.homes; views = set s.views id (missed p ∷ []) }) (sym (set-get_or s.words (lock_word n) 0)) (missed_rule s r id p at_id),
        ((λ hit. absurd (miss hit)), λ _. refl),
      ))

  -- the lock is tried
  pub takes_lock : (slots id : ℕ) (p : P) (cs : Cs) (n : ℕ) → n < slots → Allows Rule slots id (p ∷ [], cs) (lock_word n) (λ z. either (eqb z 0) (suc p.pass) z) (TakesLockAt kept may follows n (p ∷ [], cs))
  takes_lock slots id p cs n low s r wide at_id _ = let inside = inside_of s r slots n low wide in dite (ℕ_discrete (word s n) 0)
      (λ hit. let home = r.free n inside hit in let y : R = home.record_now in let w : P = took kept n y Carried p in (
        w ∷ [],
        takes n (Some y),
        home.home,
        subst (λ (b : Bool). Rule (stepped s (lock_word n) (either b (suc p.pass) (word s n)) id cs (w ∷ []) (takes n (Some y)))) (sym (eq-eqb (word s n) 0 hit))
            (moved s r id p w n (suc p.pass) (set s.homes n none) y at_id refl refl refl (length-modify p.places n (λ t. place_view (kept y) y Carried)) (sees_all s r id p n (kept y) at_id home.keeps) inside (length-set s.homes n none) (λ m ne. set_else s.homes n m none ne)
            (inl hit) (inr refl) (subst (λ (z : Opt R). Follows z y) (sym home.is_now) (itself y))
            (λ m t ne e. unmodified p.places n m (λ t. place_view (kept y) y Carried) t ne e)
            (λ t e. let a = modified p.places n (λ t. place_view (kept y) y Carried) t e in subst (λ (u : PlaceView R E). K u.custody (suc p.pass) (get_elem? (set s.homes n none) n) r.log (Some y) p.pass n u) a.2 (refl, home.keeps, refl))
            (λ zero. absurd (omega arith))),
        (
          (λ _. (y, refl, (shows s r id p n y hit home.is_now home.keeps inside at_id, tt))),
          λ miss. absurd (miss hit),
        ),
      ))
      (λ miss. (
        missed p ∷ [],
        keeps,
        tt,
        subst (λ (z : List ℕ). Rule record { words = z; homes = s.homes; views = set s.views id (missed p ∷ []) }) (sym (same_words s n (suc p.pass) miss)) (missed_rule s r id p at_id),
        ((λ hit. absurd (miss hit)), λ _. refl),
      ))

  abbrev pub Has : Custody → P → ℕ → Type 0
  Has st p n = (t : PlaceView R E) × (get_elem? p.places n ≡ some t) × (t.custody ≡ st)

  -- what the rule says of a place of which the pass knows this much
  pub known : (s : St) (r : Rule s) (id : ℕ) (p : P) (n : ℕ) (t u : PlaceView R E) (st : Custody) → get_elem? s.views id ≡ some (p ∷ []) → get_elem? p.places n ≡ some t → t.custody ≡ st → get_elem? p.places n ≡ some u
      → K st (word s n) (get_elem? s.homes n) r.log (r.now n) p.pass n u
  known s r id p n t u st at_id e is e' = let my = (r.each id (p ∷ []) at_id).0 in let same : t ≡ u = some-injective t u (sym e ∙ e') in
      subst (λ (z : Custody). K z (word s n) (get_elem? s.homes n) r.log (r.now n) p.pass n u) (ap (λ (z : PlaceView R E). z.custody) (sym same) ∙ is) (my.places n u e')

  -- the pass that has a record goes on with the record that it took
  stays : (s : St) (r : Rule s) (n : ℕ) (y : R) → r.now n ≡ Some y → Follows (r.now n) y
  stays s r n y is = subst (λ (z : Opt R). Follows z y) (sym is) (itself y)

  -- the slot goes home empty
  pub parks : (slots id : ℕ) (p : P) (cs : Cs) (n : ℕ) → n < slots → Has Carried p n → Allows Rule slots id (p ∷ [], (n, None) ∷ cs) (lock_word n) (λ z. z) (ParksSlotAt n (p ∷ [], (n, None) ∷ cs))
  parks slots id p cs n low has s r wide at_id _ = let inside = inside_of s r slots n low wide in let w : P = in_custody n Held p in
      let h = known s r id p n has.0 has.0 Carried at_id has.1 has.2 has.1 in let y : R = has.0.last in (
        w ∷ [],
        gives,
        tt,
        moved s r id p w n (word s n) (set s.homes n (some None)) y at_id refl refl refl (length-modify p.places n (restage Held)) (r.each id (p ∷ []) at_id).0.looks inside (length-set s.homes n (some None)) (λ m ne. set_else s.homes n m (some None) ne)
            (inr h.0) (inr h.0) (stays s r n y h.2)
            (λ m t ne e. unmodified p.places n m (restage Held) t ne e)
            (λ t e. let a = modified p.places n (restage Held) t e in let b = known s r id p n has.0 a.0 Carried at_id has.1 has.2 a.1 in
            subst (λ (u : PlaceView R E). K u.custody (word s n) (get_elem? (set s.homes n (some None)) n) r.log (Some y) p.pass n u) a.2 (b.0, b.1, sym h.2 ∙ b.2, set_here s.homes n (some None) inside))
            (λ zero. let e = h.0 in absurd (omega arith)),
        refl,
      )

  -- the empty slot comes out again
  pub fetches : (slots id : ℕ) (p : P) (cs : Cs) (n : ℕ) → n < slots → Has Held p n → Allows Rule slots id (p ∷ [], cs) (lock_word n) (λ z. z) (FetchesSlotAt n (p ∷ [], cs))
  fetches slots id p cs n low has s r wide at_id _ = let inside = inside_of s r slots n low wide in let w : P = in_custody n Carried p in
      let h = known s r id p n has.0 has.0 Held at_id has.1 has.2 has.1 in let y : R = has.0.last in (
        w ∷ [],
        takes n None,
        h.3,
        moved s r id p w n (word s n) (set s.homes n none) y at_id refl refl refl (length-modify p.places n (restage Carried)) (r.each id (p ∷ []) at_id).0.looks inside (length-set s.homes n none) (λ m ne. set_else s.homes n m none ne)
            (inr h.0) (inr h.0) (stays s r n y h.2)
            (λ m t ne e. unmodified p.places n m (restage Carried) t ne e)
            (λ t e. let a = modified p.places n (restage Carried) t e in let b = known s r id p n has.0 a.0 Held at_id has.1 has.2 a.1 in
            subst (λ (u : PlaceView R E). K u.custody (word s n) (get_elem? (set s.homes n none) n) r.log (Some y) p.pass n u) a.2 (b.0, b.1, sym h.2 ∙ b.2))
            (λ zero. let e = h.0 in absurd (omega arith)),
        refl,
      )

  -- the record goes home, and the lock is free
  pub frees : (slots id : ℕ) (p : P) (cs : Cs) (n : ℕ) (y : R) → n < slots → (t : PlaceView R E) → get_elem? p.places n ≡ some t → t.custody ≡ Carried → kept y ≡ t.seen → follows t.last y
      → Allows Rule slots id (p ∷ [], (n, Some y) ∷ cs) (lock_word n) (λ _. 0) (λ _. FreesLockAt n (p ∷ [], (n, Some y) ∷ cs) 0)
  frees slots id p cs n y low t there is all f s r wide at_id _ = let inside = inside_of s r slots n low wide in let w : P = released n y p in
      let h = known s r id p n t t Carried at_id there is there in (
        w ∷ [],
        gives,
        tt,
        moved s r id p w n 0 (set s.homes n (some (Some y))) y at_id refl refl refl (length-modify p.places n (leave y)) (sees_all s r id p n (seen_at n p.places) at_id (seen_is p.places n t there ∙ h.1)) inside (length-set s.homes n (some (Some y))) (λ m ne. set_else s.homes n m (some (Some y)) ne)
            (inr h.0) (inl refl) (subst (λ (z : Opt R). Follows z y) (sym h.2) f)
            (λ m u ne e. unmodified p.places n m (leave y) u ne e)
            (λ u e. let a = modified p.places n (leave y) u e in let b = known s r id p n t a.0 Carried at_id there is a.1 in
            subst (λ (v : PlaceView R E). K v.custody 0 (get_elem? (set s.homes n (some (Some y))) n) r.log (Some y) p.pass n v) a.2
            ((λ e. absurd (omega arith)), record { before = r.log; after = []; parts = sym (append-nil r.log); all = b.1; none_since = tt }, itself y))
            (λ _. (set_here s.homes n (some (Some y)) inside, all ∙ h.1)),
        λ y' others same. (λ i. (released n (said_is y y' (ap (first_of y) same) i) p ∷ [], rest (same i))),
      )

  -- one more event leaves what is known of a place, where it isn't the pass's own there, and the pass doesn't have the place if it is there
  drawing : (st : Custody) (wd : ℕ) (home : Option (Option (Opt R))) (log : List (Entry E)) (now : Opt R) (q n : ℕ) (t : PlaceView R E) (e : Entry E)
      → (e.by ≡ q → is_at n e.place ≡ false) → (is_at n e.place ≡ true → wd ≢ suc q) → K st wd home log now q n t → K st wd home (log ++ e ∷ []) now q n t
  drawing Away wd home log now q n t e own_elsewhere away h = let saw = h.1 in
      (h.0, record { before = saw.before; after = saw.after ++ e ∷ []; parts = ap (λ (z : List (Entry E)). z ++ e ∷ []) saw.parts ∙ append_assoc saw.before saw.after (e ∷ []); all = saw.all; none_since = none-append q n saw.after (e ∷ []) saw.none_since (own_elsewhere, tt) }, h.2)
  drawing Carried wd home log now q n t e own_elsewhere away h = (h.0, h.1 ∙ sym (events_off n e log (⊎_elim (λ there_is. absurd (away there_is h.0)) (λ not. not) (bool_cases (is_at n e.place)))), h.2)
  drawing Held wd home log now q n t e own_elsewhere away h = (h.0, h.1 ∙ sym (events_off n e log (⊎_elim (λ there_is. absurd (away there_is h.0)) (λ not. not) (bool_cases (is_at n e.place)))), h.2, h.3)

  -- a pass that has the record of a place has its lock
  has_lock : (st : Custody) (wd : ℕ) (home : Option (Option (Opt R))) (log : List (Entry E)) (now : Opt R) (q n : ℕ) (t : PlaceView R E) → st ≢ Away → K st wd home log now q n t → wd ≡ suc q
  has_lock Away wd home log now q n t out h = absurd (out refl)
  has_lock Carried wd home log now q n t out h = h.0
  has_lock Held wd home log now q n t out h = h.0

  -- one more event at a place whose record the pass has
  drawing_here : (st : Custody) (wd : ℕ) (home : Option (Option (Opt R))) (log : List (Entry E)) (now : Opt R) (q n : ℕ) (t : PlaceView R E) (e : Entry E)
      → st ≢ Away → is_at n e.place ≡ true → K st wd home log now q n t → K st wd home (log ++ e ∷ []) now q n (extend e.event t)
  drawing_here Away wd home log now q n t e out here h = absurd (out refl)
  drawing_here Carried wd home log now q n t e out here h = (h.0, ap (λ (z : List E). z ++ e.event ∷ []) h.1 ∙ sym (events_on n e log here), h.2)
  drawing_here Held wd home log now q n t e out here h = (h.0, ap (λ (z : List E). z ++ e.event ∷ []) h.1 ∙ sym (events_on n e log here), h.2, h.3)

  abbrev pub HasRecord : P → ℕ → Type 0
  HasRecord p n = IsHolding n p.places

  -- the place of an event whose record the pass has is one of the table's
  has_place : (p : P) (places : ℕ) (place : Opt ℕ) → length p.places ≡ places → ((n : ℕ) → is_at n place ≡ true → HasRecord p n) → IsPlace places place
  has_place p places None wide has = tt
  has_place p places (Some n) wide has = let h = has n (eq-eqb n n refl) in let l = at_low p.places n h.0 h.1 in omega arith

  -- the journals stay short where a pass with room draws
  bounded_on : (s : St) (r : Rule s) (p : P) (e : Entry E) → e.by ≡ p.pass → p.journal ≡ journal_of p.pass 0 r.log → length p.journal < 2 ^ 58 → (by : ℕ) → length (journal_of by 0 (r.log ++ e ∷ [])) ≤ 2 ^ 58
  bounded_on s r p e by_p drawn room by = dite (ℕ_discrete p.pass by)
      (λ same. let a = ap length (journal_on by e r.log (by_p ∙ same)) in let b = length_snoc (journal_of by 0 r.log) (stamped (length r.log) e.place e.event) in
      let c : length p.journal ≡ length (journal_of by 0 r.log) = ap length (drawn ∙ ap (λ (z : ℕ). journal_of z 0 r.log) same) in omega arith)
      (λ other. let a = ap length (journal_off by e r.log (λ same. other (sym by_p ∙ same))) in let b = r.bounded by in omega arith)

  -- the rule after an event is drawn
  drawn_rule : (s : St) (r : Rule s) (id : ℕ) (p : P) (place : Opt ℕ) (event : E) (x : ℕ) → get_elem? s.views id ≡ some (p ∷ []) → x ≡ suc (length r.log)
      → AllAllowed setup.threads (length s.homes) may (r.log ++ entry p.pass place event ∷ []) → ((by : ℕ) → length (journal_of by 0 (r.log ++ entry p.pass place event ∷ [])) ≤ 2 ^ 58)
      → ((n : ℕ) → lawful (events_at n (r.log ++ entry p.pass place event ∷ []))) → AllBacked leans settles [] (r.log ++ entry p.pass place event ∷ [])
      → ((n : ℕ) → is_at n place ≡ true → HasRecord p n)
      → Rule record { words = set s.words 0 x; homes = s.homes; views = set s.views id (drew place event (length r.log) p ∷ []) }
  drawn_rule s r id p place event x at_id up allowed bounded lawful_now backed has =
      let wide = r.wide in
      let e : Entry E = entry p.pass place event in
      let w : P = drew place event (length r.log) p in
      let there : (m : ℕ) → get_or (set s.words 0 x) (lock_word m) 0 ≡ word s m = λ m. get_or-set_other s.words 0 (lock_word m) x 0 (λ e. omega arith) in
      let my = (r.each id (p ∷ []) at_id).0 in
      let have : (n : ℕ) → is_at n place ≡ true → word s n ≡ suc p.pass = λ n there_is. let h = has n there_is in has_lock h.0.custody (word s n) (get_elem? s.homes n) r.log (r.now n) p.pass n h.0 h.2 (my.places n h.0 h.1) in
      let Old : P → Type 0 = Fits kept may follows setup.threads s.words s.homes r.log r.now in
      let New : P → Type 0 = Fits kept may follows setup.threads (set s.words 0 x) s.homes (r.log ++ e ∷ []) r.now in
      let keep : (q : P) → q.pass ≢ p.pass → Old q → New q = λ q apart o. record {
        below = o.below;
        drawn = o.drawn ∙ sym (journal_off q.pass e r.log (λ same. apart (sym same)));
        places = λ m t at_m. subst (λ (z : ℕ). K t.custody z (get_elem? s.homes m) (r.log ++ e ∷ []) (r.now m) q.pass m t) (sym (there m))
            (drawing t.custody (word s m) (get_elem? s.homes m) r.log (r.now m) q.pass m t e (λ same. absurd (apart (sym same))) (λ there_is is. let a = have m there_is in apart (omega arith)) (o.places m t at_m));
        wide = o.wide;
        began = o.began;
        looks = seen_on q.pass e r.log q.looks o.looks;
      } in
      let w_fits : New w = record {
        below = my.below;
        drawn = ap (λ (z : List (Stamped E)). z ++ stamped (length r.log) place event ∷ []) my.drawn ∙ sym (journal_on p.pass e r.log refl);
        places = λ m t at_m. subst (λ (z : ℕ). K t.custody z (get_elem? s.homes m) (r.log ++ e ∷ []) (r.now m) p.pass m t) (sym (there m)) (⊎_elim
            (λ h. drawing t.custody (word s m) (get_elem? s.homes m) r.log (r.now m) p.pass m t e (λ _. h.0) (λ there_is. absurd (bool_apart (is_at m place) there_is h.0)) (my.places m t h.1))
            (λ h. let k = has m h.0 in let out = k.2 in let u : PlaceView R E = h.1 in
            subst (λ (v : PlaceView R E). K v.custody (word s m) (get_elem? s.homes m) (r.log ++ e ∷ []) (r.now m) p.pass m v) h.3
            (drawing_here u.custody (word s m) (get_elem? s.homes m) r.log (r.now m) p.pass m u e (λ away. out (ap (λ (z : PlaceView R E). z.custody) (some-injective k.0 h.1 (sym k.1 ∙ h.2)) ∙ away)) h.0 (my.places m u h.2)))
            (drawn_at place event p.places m t at_m));
        wide = length-drawn place event p.places ∙ my.wide;
        began = my.began;
        looks = seen_on p.pass e r.log p.looks my.looks;
      } in record {
        log = r.log ++ e ∷ [];
        now = r.now;
        wide = length-set s.words 0 x ∙ wide;
        few = r.few;
        counted = get_or-set_same s.words 0 x 0 (omega arith) ∙ up ∙ sym (length_snoc r.log e);
        allowed = allowed;
        lawful_at = lawful_now;
        backed = backed;
        bounded = bounded;
        alone = still_alone s.views id p w at_id refl r.alone;
        each = others_keep Old New s.views id p w at_id r.alone keep w_fits r.each;
        taken = λ m l. let a = there m in let b = r.taken m l in omega arith;
        done = λ m l busy. ap (settled settles) (events-append m r.log (e ∷ [])) ∙ settled-append settles (events_at m r.log) (events_at m (e ∷ [])) (r.done m l (λ zero. busy (get_or-set_other s.words 0 (done_word (length s.homes) m) x 0 (λ e. omega arith) ∙ zero)));
        free = λ m l zero. let a = there m in let b = r.free m l (sym a ∙ zero) in
            record { record_now = b.record_now; is_now = b.is_now; home = b.home; keeps = b.keeps ∙ sym (events_off m e r.log (⊎_elim (λ there_is. let c = have m there_is in absurd (omega arith)) (λ not. not) (bool_cases (is_at m place)))) };
      }

  -- what a pass knows of a place is a beginning of what is there
  pub known_front : (st : Custody) (wd : ℕ) (home : Option (Option (Opt R))) (log : List (Entry E)) (now : Opt R) (q n : ℕ) (t : PlaceView R E) → K st wd home log now q n t → (more : List E) × (events_at n log ≡ t.seen ++ more)
  known_front Away wd home log now q n t h = let saw = h.1 in (events_at n saw.after, ap (events_at n) saw.parts ∙ (events-append n saw.before saw.after ∙ ap (λ (z : List E). z ++ events_at n saw.after) (sym saw.all)))
  known_front Carried wd home log now q n t h = ([], sym h.1 ∙ sym (append-nil t.seen))
  known_front Held wd home log now q n t h = ([], sym h.1 ∙ sym (append-nil t.seen))

  -- and all of it, where the pass has the record
  pub known_all : (st : Custody) (wd : ℕ) (home : Option (Option (Opt R))) (log : List (Entry E)) (now : Opt R) (q n : ℕ) (t : PlaceView R E) → st ≢ Away → K st wd home log now q n t → t.seen ≡ events_at n log
  known_all Away wd home log now q n t out h = absurd (out refl)
  known_all Carried wd home log now q n t out h = h.1
  known_all Held wd home log now q n t out h = h.1

  -- a list with an event that settles is of a place that the pass knows
  seen_there : (ts : List (PlaceView R E)) (n : ℕ) → settled settles (seen_at n ts) ≡ true → (t : PlaceView R E) × (get_elem? ts n ≡ some t)
  seen_there [] n e = cc
  seen_there (t ∷ ts) Prim.Native.Nat.zero e = (t, refl)
  seen_there (t ∷ ts) (suc n) e = seen_there ts n e

  -- a place that the pass knows as settled is settled
  still_settled : (s : St) (r : Rule s) (id : ℕ) (p : P) (n : ℕ) → get_elem? s.views id ≡ some (p ∷ []) → settled settles (seen_at n p.places) ≡ true → settled settles (events_at n r.log) ≡ true
  still_settled s r id p n at_id done =
      let my = (r.each id (p ∷ []) at_id).0 in
      let there = seen_there p.places n done in
      let t : PlaceView R E = there.0 in
      let f = known_front t.custody (word s n) (get_elem? s.homes n) r.log (r.now n) p.pass n t (my.places n t there.1) in
      ap (settled settles) f.1 ∙ settled-append settles t.seen f.0 (ap (settled settles) (sym (seen_is p.places n t there.1)) ∙ done)

  -- the list at each place is lawful with the event too
  lawful_on : (s : St) (r : Rule s) (id : ℕ) (p : P) (e : Entry E) → get_elem? s.views id ≡ some (p ∷ []) → ((n : ℕ) → is_at n e.place ≡ true → HasRecord p n) → ((n : ℕ) → is_at n e.place ≡ true → lawful (seen_at n p.places ++ e.event ∷ [])) → (n : ℕ) → lawful (events_at n (r.log ++ e ∷ []))
  lawful_on s r id p e at_id has stays_lawful n = ⊎_elim
      (λ there_is. let h = has n there_is in
      let t : PlaceView R E = h.0 in
      let all = known_all t.custody (word s n) (get_elem? s.homes n) r.log (r.now n) p.pass n t h.2 ((r.each id (p ∷ []) at_id).0.places n t h.1) in
      subst lawful (ap (λ (z : List E). z ++ e.event ∷ []) (seen_is p.places n t h.1 ∙ all) ∙ sym (events_on n e r.log there_is)) (stays_lawful n there_is))
      (λ not. subst lawful (sym (events_off n e r.log not)) (r.lawful_at n))
      (bool_cases (is_at n e.place))

  -- a stamp is drawn
  pub draws : (slots id : ℕ) (p : P) (cs : Cs) (place : Opt ℕ) (event : E) → may p.pass place event → length p.journal < 2 ^ 58 → ((n : ℕ) → is_at n place ≡ true → HasRecord p n)
      → ((n : ℕ) → is_at n place ≡ true → lawful (seen_at n p.places ++ event ∷ [])) → (place ≡ None → (n : ℕ) → leans event ≡ Some n → settled settles (seen_at n p.places) ≡ true)
      → Allows Rule slots id (p ∷ [], cs) 0 (λ z. (z + 1) % 2 ^ 64) (DrawsStamp place event (step slots 0 1 0 none) (p ∷ [], cs))
  draws slots id p cs place event may_draw room has stays_lawful leaning s r wide at_id _ =
      let my = (r.each id (p ∷ []) at_id).0 in
      let e : Entry E = entry p.pass place event in
      let found : ℕ = get_or s.words 0 0 in
      let c : found ≡ length r.log = r.counted in
      let bounded = bounded_on s r p e refl my.drawn room in
      let allowed = allowed-append setup.threads (length s.homes) may r.log (e ∷ []) r.allowed (my.below, has_place p (length s.homes) place my.wide has, may_draw, tt) in
      let most = short setup.threads (length s.homes) may (r.log ++ e ∷ []) r.few allowed bounded in
      let one_more = length_snoc r.log e in
      let at_found : 0 + length r.log ≡ found = omega arith in
      let lawful_now = lawful_on s r id p e at_id has stays_lawful in
      let backed = backed-append leans settles [] r.log e r.backed (is_backed leans settles r.log place event (λ absent n it. still_settled s r id p n at_id (leaning absent n it))) in
      let up : (found + 1) % 2 ^ 64 ≡ suc (length r.log) = mod-eq_of_lt (omega arith) ∙ (omega arith) in (
        drew place event found p ∷ [],
        keeps,
        tt,
        subst (λ (z : ℕ). Rule record { words = set s.words 0 ((found + 1) % 2 ^ 64); homes = s.homes; views = set s.views id (drew place event z p ∷ []) }) (sym c)
            (drawn_rule s r id p place event ((found + 1) % 2 ^ 64) at_id up allowed bounded lawful_now backed has),
        (refl, omega arith, (subst (λ (z : ℕ × List (Stamped E)). AreBelow z.0 z.1) (λ i. (at_found i, sym my.drawn i)) (below p.pass 0 r.log), tt)),
      )

-- A window of stamps takes its events out of the journals of a log, which are then those of the log before the window.
use Rattle.std.proofs.Common.{◌≡◌, ◌≢◌, ℕ, suc, ◌+◌, ◌-◌, ◌<◌, ◌≤◌, List, [], ◌∷◌, ◌++◌, Bool, true, false, eqb, cond, Option as Opt, Some, None, length, map, take, drop, reverse, get_or, slice_index_or, slice_set, refl, sym, ap, ◌∙◌, subst, arith, append-nil, append_assoc, length-append, eq-eqb, ne_eqb}
use Rattle.std.specs.List.{All, AllByRecursion}
use Rattle.std.proofs.lemmas.List.{same_from_push, reverse-append, reverse-reverse, map-append, length-set, get_or-set_same, get_or-set_other, take-append-drop, take-append-le, length-take-le, take-set}
use Rattle.std.proofs.lemmas.Grind.{elements, get_or-set_at}
use Rattle.std.proofs.Math.Seq.{take-suc, take-length}
use mathlib.Core.Logic.{dite}
use mathlib.Core.Option.{some, some-injective, some-ne-none}
use native.Mathlib.Decide.{ℕ_discrete}
use lib.ListN.{get_elem?}
use Rattle.init_lock.specs.declared.journal.Stamped.{Stamped}
use Rattle.init_lock.specs.Known.{Written}
use Rattle.init_lock.specs.Log.{Entry, AreBelow, journal_of, stamped}
use Rattle.init_lock.specs.Merging.{AreJournals, Unloaded, HasEvents, end_of, set_out}
use Rattle.init_lock.proofs.Lists.{length_snoc, length_map, map_snoc, at_low, said_is, none_some}
use Rattle.init_lock.proofs.Logs.{below, journal-append}
use Rattle.init_lock.proofs.Entries.{journal_on}
use Rattle.init_lock.proofs.Ends.{all_at}

-- a list that isn't empty has a last element
pub record Last {A : Type 0} (l : List A) : Type 0 where
  pub front : List A
  pub element : A
  pub parts : l ≡ front ++ element ∷ []

pub last_of : {A : Type 0} (l : List A) → 0 < length l → Last l
last_of [] h = absurd (omega arith)
last_of (x ∷ []) h = record { front = []; element = x; parts = refl }
last_of (x ∷ y ∷ ys) h = let r = last_of (y ∷ ys) (omega arith) in record { front = x ∷ r.front; element = r.element; parts = ap (λ z. x ∷ z) r.parts }

pub written_back : {A : Type 0} (n : ℕ) (l m : List A) → n ≡ length l → take n (l ++ m) ≡ l
written_back n l m e = take-append-le n l m (omega arith) ∙ ap (λ k. take k l) e ∙ take-length l

at_end : {A : Type 0} (l : List A) (x d : A) → get_or (l ++ x ∷ []) (length (l ++ x ∷ []) - 1) d ≡ x
at_end l x d = grind (arith, elements)

pub all_parts : {A : Type 0} (P : A → Type 0) (l m : List A) → AllByRecursion P (l ++ m) → AllByRecursion P l × AllByRecursion P m
all_parts P [] m a = (tt, a)
all_parts P (y ∷ ys) m a = let r = all_parts P ys m a.1 in ((a.0, r.0), r.1)

module _ {E : Type 0} where
  pub end_snoc : (l : List (Stamped E)) (s : Stamped E) → end_of (l ++ s ∷ []) ≡ s.stamp + 1
  end_snoc [] s = refl
  end_snoc (x ∷ []) s = refl
  end_snoc (x ∷ y ∷ ys) s = end_snoc (y ∷ ys) s

  -- the end of a list as its last element says it
  pub end_at : (l : List (Stamped E)) (x : Stamped E) → 0 < length l → x ≡ get_or l (length l - 1) x → end_of l ≡ x.stamp + 1
  end_at l x more at = let r = last_of l more in
      ap end_of r.parts ∙ end_snoc r.front r.element ∙ ap (λ z. z.stamp + 1) (sym (at ∙ ap (λ z. get_or z (length z - 1) x) r.parts ∙ at_end r.front r.element x))

  end_low : (l : List (Stamped E)) (bound : ℕ) → AreBelow bound l → end_of l ≤ bound
  end_low [] bound a = omega arith
  end_low (s ∷ []) bound a = let h = a.0 in omega arith
  end_low (s ∷ t ∷ ss) bound a = end_low (t ∷ ss) bound a.1

  end_high : (s : Stamped E) (l : List (Stamped E)) (start : ℕ) → AllByRecursion (λ s. start ≤ s.stamp) (s ∷ l) → start < end_of (s ∷ l)
  end_high s [] start a = let h = a.0 in omega arith
  end_high s (t ∷ ts) start a = end_high t ts start a.1

  end_tail : (s : Stamped E) (l : List (Stamped E)) (bound : ℕ) → end_of (s ∷ l) ≤ bound → end_of l ≤ bound
  end_tail s [] bound h = omega arith
  end_tail s (t ∷ ts) bound h = h

  -- a list is parted at a stamp in one way
  parted : (start : ℕ) (a b l m : List (Stamped E)) → AreBelow start a → AllByRecursion (λ s. start ≤ s.stamp) b → AllByRecursion (λ s. start ≤ s.stamp) m → end_of l ≤ start
      → l ++ m ≡ a ++ b → (l ≡ a) × (m ≡ b)
  parted start [] b [] m low high late early e = (refl, e)
  parted start [] b (x ∷ l) m low high late early e =
      let h = end_high x l start (all_parts (λ s. start ≤ s.stamp) (x ∷ l) m (subst (AllByRecursion (λ s. start ≤ s.stamp)) (sym e) high)).0 in absurd (omega arith)
  parted start (y ∷ a) b [] m low high late early e = let h = (subst (AllByRecursion (λ s. start ≤ s.stamp)) e late).0 in let k = low.0 in absurd (omega arith)
  parted start (y ∷ a) b (x ∷ l) m low high late early e =
      let same : x ≡ y = ap (λ z. get_or z 0 x) e in
      let r = parted start a b l m low.1 high late (end_tail x l start early) (ap (drop 1) e) in (ap (λ z. z ∷ l) same ∙ ap (λ z. y ∷ z) r.0, r.1)

  late_here : (own : Bool) (start i : ℕ) (place : Opt ℕ) (x : E) (js : List (Stamped E)) → start ≤ i → AllByRecursion (λ s. start ≤ s.stamp) js → AllByRecursion (λ s. start ≤ s.stamp) (cond own (stamped i place x ∷ js) js)
  late_here true start i place x js l h = (l, h)
  late_here false start i place x js l h = h

  late : (by start i : ℕ) (l : List (Entry E)) → start ≤ i → AllByRecursion (λ s. start ≤ s.stamp) (journal_of by i l)
  late by start i [] h = tt
  late by start i (e ∷ es) h = late_here (eqb e.by by) start i e.place e.event (journal_of by (suc i) es) h (late by start (suc i) es (omega arith))

  pub length-set_out : (start : ℕ) (ss : List (Stamped E)) (w : List (Opt E)) → length (set_out start ss w) ≡ length w
  length-set_out start [] w = refl
  length-set_out start (s ∷ ss) w = length-set (set_out start ss w) (s.stamp - start) (Some s.event) ∙ length-set_out start ss w

  -- the first event of a journal goes to its own place alone
  passes : (own : Bool) (start i j : ℕ) (place : Opt ℕ) (x : E) (js : List (Stamped E)) (w : List (Opt E)) → start ≤ i → j + start ≢ i
      → get_or (set_out start (cond own (stamped i place x ∷ js) js) w) j None ≡ get_or (set_out start js w) j None
  passes true start i j place x js w h other = get_or-set_other (set_out start js w) (i - start) j (Some x) None (λ e. other (omega arith))
  passes false start i j place x js w h other = refl

  -- what comes after a place leaves it
  untouched : (start by i j : ℕ) (l : List (Entry E)) (w : List (Opt E)) → start ≤ i → j + start < i → get_or (set_out start (journal_of by i l) w) j None ≡ get_or w j None
  untouched start by i j [] w h before = refl
  untouched start by i j (e ∷ es) w h before = passes (eqb e.by by) start i j e.place e.event (journal_of by (suc i) es) w h (λ q. omega arith) ∙ untouched start by (suc i) j es w (omega arith) (omega arith)

  -- an entry of the pass fills its place
  own_place : (start by i j k : ℕ) (l : List (Entry E)) (w : List (Opt E)) (e : Entry E) → get_elem? l k ≡ some e → e.by ≡ by → start ≤ i → j + start ≡ i + k → j < length w
      → get_or (set_out start (journal_of by i l) w) j None ≡ Some e.event
  own_place start by i j k [] w e at own h is low = absurd (some-ne-none e (sym at))
  own_place start by i j Prim.Native.Nat.zero (x ∷ xs) w e at own h is low =
      let same = some-injective x e at in
      let js = journal_of by (suc i) xs in
      ap (λ b. get_or (set_out start (cond b (stamped i x.place x.event ∷ js) js) w) j None) (eq-eqb x.by by (ap (λ z. z.by) same ∙ own))
      ∙ get_or-set_at (set_out start js w) (i - start) j (Some x.event) None (omega arith) (let n = length-set_out start js w in omega arith) ∙ ap (λ z. Some z.event) same
  own_place start by i j (suc k) (x ∷ xs) w e at own h is low =
      passes (eqb x.by by) start i j x.place x.event (journal_of by (suc i) xs) w h (λ q. omega arith) ∙ own_place start by (suc i) j k xs w e at own (omega arith) (omega arith) low

  -- an entry of another pass leaves its place
  other_place : (start by i j k : ℕ) (l : List (Entry E)) (w : List (Opt E)) (e : Entry E) → get_elem? l k ≡ some e → e.by ≢ by → start ≤ i → j + start ≡ i + k
      → get_or (set_out start (journal_of by i l) w) j None ≡ get_or w j None
  other_place start by i j k [] w e at own h is = refl
  other_place start by i j Prim.Native.Nat.zero (x ∷ xs) w e at other h is =
      let same = some-injective x e at in
      let js = journal_of by (suc i) xs in
      ap (λ b. get_or (set_out start (cond b (stamped i x.place x.event ∷ js) js) w) j None) (ne_eqb x.by by (λ q. other (ap (λ z. z.by) (sym same) ∙ q)))
      ∙ untouched start by (suc i) j xs w (omega arith) (omega arith)
  other_place start by i j (suc k) (x ∷ xs) w e at other h is =
      passes (eqb x.by by) start i j x.place x.event (journal_of by (suc i) xs) w h (λ q. omega arith) ∙ other_place start by (suc i) j k xs w e at other (omega arith) (omega arith)

  -- the first journals have lost the events of the window, and their places are filled
  pub record Filled (at : ℕ) (before after : List (Entry E)) (js : List (Written E)) (w : List (Opt E)) : Type 0 where
    pub done : (n : ℕ) (other : Written E) → n < at → n < length js → (slice_index_or js n other).events ≡ journal_of n 0 before
    pub rest : (n : ℕ) (other : Written E) → at ≤ n → n < length js → (slice_index_or js n other).events ≡ journal_of n 0 (before ++ after)
    pub places : (k : ℕ) (e : Entry E) → get_elem? after k ≡ some e → e.by < at → get_or w k None ≡ Some e.event
    pub wide : length after ≤ length w

  pub none_filled : (before after : List (Entry E)) (js : List (Written E)) (w : List (Opt E)) → length after ≤ length w → AreJournals (before ++ after) js → Filled 0 before after js w
  none_filled before after js w wide a = record { done = λ n other l. absurd (omega arith); rest = λ n other l. a.each n other; places = λ k e at l. absurd (omega arith); wide = wide }

  -- the next journal loses its events of the window
  pub one_filled : (at start : ℕ) (before after : List (Entry E)) (js : List (Written E)) (w v : List (Opt E)) (old new other : Written E) → Filled at before after js w → length before ≡ start → at < length js
      → old ≡ slice_index_or js at other → Unloaded start old new w v → Filled (at + 1) before after (slice_set js at new) v
  one_filled at start before after js w v old new other f is low here u = record { done = done; rest = rest; places = places; wide = let n = ap length u.set in let m = length-set_out start u.moved w in let wide = f.wide in omega arith } where
    r : (new.events ≡ journal_of at 0 before) × (u.moved ≡ journal_of at start after)
    r = parted start (journal_of at 0 before) (journal_of at start after) new.events u.moved
        (subst (λ m. AreBelow m (journal_of at 0 before)) (omega arith) (below at 0 before)) (late at start start after (omega arith)) u.late u.early
        (sym u.parts ∙ ap (λ z. z.events) here ∙ f.rest at other (omega arith) low ∙ journal-append at 0 start before after (omega arith))

    long : (n : ℕ) → n < length (slice_set js at new) → n < length js
    long n l = subst (λ m. n < m) (length-set js at new) l

    done : (n : ℕ) (other : Written E) → n < at + 1 → n < length (slice_set js at new) → (slice_index_or (slice_set js at new) n other).events ≡ journal_of n 0 before
    done n other h l = dite (ℕ_discrete at n)
        (λ same. subst (λ m. (slice_index_or (slice_set js at new) m other).events ≡ journal_of m 0 before) same (ap (λ z. z.events) (get_or-set_same js at new other low) ∙ r.0))
        (λ apart. ap (λ z. z.events) (get_or-set_other js at n new other (λ q. apart (sym q))) ∙ f.done n other (omega arith) (long n l))

    rest : (n : ℕ) (other : Written E) → at + 1 ≤ n → n < length (slice_set js at new) → (slice_index_or (slice_set js at new) n other).events ≡ journal_of n 0 (before ++ after)
    rest n other h l = ap (λ z. z.events) (get_or-set_other js at n new other (λ q. omega arith)) ∙ f.rest n other (omega arith) (long n l)

    set : v ≡ set_out start (journal_of at start after) w
    set = u.set ∙ ap (λ z. set_out start z w) r.1

    places : (k : ℕ) (e : Entry E) → get_elem? after k ≡ some e → e.by < at + 1 → get_or v k None ≡ Some e.event
    places k e there h = ap (λ z. get_or z k None) set ∙ dite (ℕ_discrete e.by at)
        (λ own. own_place start at start k k after w e there own (omega arith) (omega arith) (let a = at_low after k e there in let b = f.wide in omega arith))
        (λ other. other_place start at start k k after w e there other (omega arith) (omega arith) ∙ f.places k e there (omega arith))

  has_events : (after : List (Entry E)) (w : List (Opt E)) → length after ≤ length w → ((k : ℕ) (e : Entry E) → get_elem? after k ≡ some e → get_or w k None ≡ Some e.event) → HasEvents after w
  has_events [] w wide at = refl
  has_events (e ∷ es) [] wide at = absurd (omega arith)
  has_events (e ∷ es) (x ∷ w) wide at = ap (λ z. z ∷ take (length es) w) (at 0 e refl) ∙ ap (λ z. Some e.event ∷ z) (has_events es w (omega arith) (λ k e. at (suc k) e))

  -- all journals have lost them
  pub all_filled : (at : ℕ) (before after : List (Entry E)) (js ks : List (Written E)) (w : List (Opt E)) → AreJournals (before ++ after) js → length ks ≡ length js → length js ≤ at → Filled at before after ks w → AreJournals before ks × HasEvents after w
  all_filled at before after js ks w a same whole f = (
    record { all = subst (λ n. AllByRecursion (λ e. e.by < n) before) (sym same) all.0; each = λ n other l. f.done n other (omega arith) l },
    has_events after w f.wide (λ k e there. f.places k e there (let h = all_at (λ e. e.by < length js) after k e all.1 there in omega arith)),
  ) where
    all : AllByRecursion (λ e. e.by < length js) before × AllByRecursion (λ e. e.by < length js) after
    all = all_parts (λ e. e.by < length js) before after a.all

  -- what is left of the log while its last events are taken out: they are merged, last first
  pub record IsLeft (log : List (Entry E)) (left : ℕ) (journals : List (Written E)) (merged : List E) : Type 0 where
    pub front : List (Entry E)
    pub count : length front ≡ left
    pub are : AreJournals front journals
    pub whole : map (λ e. e.event) log ≡ map (λ e. e.event) front ++ reverse merged

  -- before anything is taken out
  pub begun : (log : List (Entry E)) (left : ℕ) (js : List (Written E)) → AreJournals log js → All (λ j. end_of j.events ≤ left) js
      → ((bound : ℕ) → All (λ j. end_of j.events ≤ bound) js → left ≤ bound) → IsLeft log left js []
  begun log left js a above least = record { front = log; count = count; are = a; whole = sym (append-nil (map (λ e. e.event) log)) } where
    low : left ≤ length log
    low = least (length log) (λ n other l. end_low (slice_index_or js n other).events (length log) (subst (AreBelow (length log)) (sym (a.each n other l)) (subst (λ m. AreBelow m (journal_of n 0 log)) (omega arith) (below n 0 log))))

    high : length log ≤ left
    high = dite (ℕ_discrete (length log) 0) (λ empty. omega arith) (λ more.
        let r = last_of log (omega arith) in
        let n = length_snoc r.front r.element in
        let m = ap length r.parts in
        let none : Written E = record { events = []; room = 0 } in
        let b = subst (λ z. AreJournals z js) r.parts a in
        let by = (all_parts (λ e. e.by < length js) r.front (r.element ∷ []) b.all).1.0 in
        let h = above r.element.by none by in
        let e = ap end_of (b.each r.element.by none by ∙ journal_on r.element.by r.element r.front refl) ∙ end_snoc (journal_of r.element.by 0 r.front) (stamped (length r.front) r.element.place r.element.event) in omega arith)

    count : length log ≡ left
    count = let l = low in let h = high in omega arith

  -- the events of one more window are merged
  pub one_window : (log : List (Entry E)) (left start : ℕ) (js ks : List (Written E)) (w : List (Opt E)) (merged more : List E) → IsLeft log left js merged → start ≤ left
      → ((before after : List (Entry E)) → length before ≡ start → length after ≡ left - start → AreJournals (before ++ after) js → AreJournals before ks × HasEvents after w)
      → ((events : List E) → take (left - start) w ≡ map Some events → more ≡ merged ++ reverse events) → IsLeft log start ks more
  one_window log left start js ks w merged more l low fills empties = record { front = before; count = length_before; are = filled.0; whole = whole } where
    before : List (Entry E)
    before = take start l.front

    after : List (Entry E)
    after = drop start l.front

    length_before : length before ≡ start
    length_before = length-take-le start l.front (let c = l.count in omega arith)

    both : before ++ after ≡ l.front
    both = take-append-drop start l.front

    length_after : length after ≡ left - start
    length_after = let c = l.count in let b = ap length both in let d = length_before in omega (arith, length-append before after)

    filled : AreJournals before ks × HasEvents after w
    filled = fills before after length_before length_after (subst (λ z. AreJournals z js) (sym both) l.are)

    whole : map (λ e. e.event) log ≡ map (λ e. e.event) before ++ reverse more
    whole =
        let es = map (λ e. e.event) after in
        let m : more ≡ merged ++ reverse es = empties es (subst (λ n. take n w ≡ map Some es) length_after filled.1) in
        l.whole ∙ ap (λ z. map (λ e. e.event) z ++ reverse merged) (sym both) ∙ ap (λ z. z ++ reverse merged) (map-append (λ e. e.event) before after)
        ∙ append_assoc (map (λ e. e.event) before) es (reverse merged)
        ∙ ap (λ z. map (λ e. e.event) before ++ z) (ap (λ z. z ++ reverse merged) (sym (reverse-reverse es)) ∙ sym (reverse-append merged (reverse es)) ∙ ap reverse (sym m))

  -- nothing is left
  pub all_merged : (log : List (Entry E)) (left : ℕ) (js : List (Written E)) (merged : List E) → IsLeft log left js merged → left ≡ 0 → map (λ e. e.event) log ≡ reverse merged
  all_merged log left js merged l e = l.whole ∙ ap (λ z. map (λ e. e.event) z ++ reverse merged) (none l.front (l.count ∙ e)) where
    none : (xs : List (Entry E)) → length xs ≡ 0 → xs ≡ []
    none [] h = refl
    none (y ∷ ys) h = absurd (omega arith)

-- the last of the events are taken out of the window, last first
pub record Emptied {E : Type 0} (events : List E) (left : ℕ) (w : List (Opt E)) (before merged : List E) : Type 0 where
  pub front : List E
  pub back : List E
  pub parts : events ≡ front ++ back
  pub there : take left w ≡ map Some front
  pub out : merged ≡ before ++ reverse back

module _ {E : Type 0} where
  pub none_out : (events : List E) (left : ℕ) (w : List (Opt E)) (before : List E) → take left w ≡ map Some events → Emptied events left w before before
  none_out events left w before e = record { front = events; back = []; parts = sym (append-nil events); there = e; out = sym (append-nil before) }

  module _ (events : List E) (left : ℕ) (w : List (Opt E)) (before merged : List E) (m : Emptied events left w before merged) (more : 0 < left) (wide : left ≤ length w) (d : Opt E) where
    next : Last m.front
    next = last_of m.front (let a = ap length m.there in let b = length_map Some m.front in let c = length-take-le left w wide in omega arith)

    split : (take (left - 1) w ≡ map Some next.front) × (get_or w (left - 1) d ≡ Some next.element)
    split = same_from_push (take (left - 1) w) (map Some next.front) (get_or w (left - 1) d) (Some next.element)
        (sym (take-suc w (left - 1) d (omega arith)) ∙ ap (λ n. take n w) (let h : suc (left - 1) ≡ left = omega arith in h) ∙ m.there ∙ ap (map Some) next.parts ∙ map_snoc Some next.front next.element)

    pub one_out : (x : E) (longer : List E) → get_or w (left - 1) d ≡ Some x → longer ≡ merged ++ x ∷ [] → Emptied events (left - 1) (slice_set w (left - 1) None) before longer
    one_out x longer here pushed =
        let same : x ≡ next.element = said_is x next.element (sym here ∙ split.1) in record {
          front = next.front;
          back = next.element ∷ m.back;
          parts = m.parts ∙ ap (λ z. z ++ m.back) next.parts ∙ append_assoc next.front (next.element ∷ []) m.back;
          there = take-set w (left - 1) None ∙ split.0;
          out = pushed ∙ ap (λ z. z ++ x ∷ []) m.out ∙ append_assoc before (reverse m.back) (x ∷ []) ∙ ap (λ z. before ++ z) (ap (λ z. reverse m.back ++ z ∷ []) same ∙ sym (reverse-append (next.element ∷ []) m.back));
        }

    pub not_empty : get_or w (left - 1) d ≡ None → ⊥
    not_empty here = none_some (sym here ∙ split.1)

  pub all_out : (events : List E) (left : ℕ) (w : List (Opt E)) (before merged : List E) → Emptied events left w before merged → left ≡ 0 → merged ≡ before ++ reverse events
  all_out events left w before merged m e = m.out ∙ ap (λ z. before ++ reverse z) (sym (m.parts ∙ ap (λ z. z ++ m.back) (none m.front (sym m.there ∙ ap (λ n. take n w) e)))) where
    none : (xs : List E) → map Some xs ≡ [] → xs ≡ []
    none [] h = refl
    none (y ∷ ys) h = let n = ap length h in absurd (omega arith)

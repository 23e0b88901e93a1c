-- What a list of entries gives when one more comes at its end.
use Rattle.std.proofs.Common.{◌≡◌, ℕ, suc, ◌+◌, ◌*◌, ◌^◌, ◌<◌, ◌≤◌, ◌⊎◌, inl, inr, List, [], ◌∷◌, ◌++◌, Bool, true, false, eqb, cond, Option, Some, None, length, refl, sym, ap, ◌∙◌, subst, arith, suc-mul, eq-eqb, ne_eqb, append-nil, append_assoc}
use mathlib.Core.Logic.{dite}
use native.Mathlib.Decide.{ℕ_discrete}
use Rattle.init_lock.specs.declared.journal.Stamped.{Stamped}
use Rattle.init_lock.specs.Log.{Entry, is_at, events_at, journal_of, own_events, AreBelow, NoneBy, AllAllowed, IsBacked, AllBacked, ByOthers, Grew, IsWithin, ends, passes_over, meets, stamped, settled}

pub bool_cases : (b : Bool) → (b ≡ true) ⊎ (b ≡ false)
bool_cases true = inl refl
bool_cases false = inr refl

pub is_at_some : (n : ℕ) (p : Option ℕ) → is_at n p ≡ true → p ≡ Some n
is_at_some n (Some m) e = dite (ℕ_discrete m n) (λ same. ap Some same) (λ other. let f = ne_eqb m n other in cc)
is_at_some n None e = cc

cond_append : {A : Type 0} (b : Bool) (x : A) (xs ys : List A) → cond b (x ∷ (xs ++ ys)) (xs ++ ys) ≡ cond b (x ∷ xs) xs ++ ys
cond_append true x xs ys = refl
cond_append false x xs ys = refl

abbrev pub hits : ℕ → ℕ → ℕ
hits Prim.Native.Nat.zero k = 0
hits (suc t) k = hits t k + cond (eqb k t) 1 0

length_cond : {A : Type 0} (b : Bool) (x : A) (xs : List A) → length (cond b (x ∷ xs) xs) ≡ length xs + cond b 1 0
length_cond true x xs = omega arith
length_cond false x xs = omega arith

hit_once : (t k : ℕ) → k < t → 1 ≤ hits t k
hit_once Prim.Native.Nat.zero k l = absurd (omega arith)
hit_once (suc t) k l = dite (ℕ_discrete k t) (λ same. let a : cond {A = ℕ} (eqb k t) 1 0 ≡ 1 = ap (λ (b : Bool). cond {A = ℕ} b 1 0) (eq-eqb k t same) in omega arith)
    (λ other. let a = hit_once t k (omega arith) in omega arith)

either_way : (b s s' : Bool) → (s ≡ true → s' ≡ true) → cond b true s ≡ true → cond b true s' ≡ true
either_way true s s' h e = refl
either_way false s s' h e = h e

either_true : (b s : Bool) → s ≡ true → cond b true s ≡ true
either_true true s e = refl
either_true false s e = e

module _ {E : Type 0} where
  pub events-append : (n : ℕ) (a b : List (Entry E)) → events_at n (a ++ b) ≡ events_at n a ++ events_at n b
  events-append n [] b = refl
  events-append n (e ∷ es) b = ap (λ (z : List E). cond (is_at n e.place) (e.event ∷ z) z) (events-append n es b) ∙ cond_append (is_at n e.place) e.event (events_at n es) (events_at n b)

  pub settled-append : (settles : E → Bool) (xs ys : List E) → settled settles xs ≡ true → settled settles (xs ++ ys) ≡ true
  settled-append settles [] ys e = cc
  settled-append settles (x ∷ xs) ys e = either_way (settles x) (settled settles xs) (settled settles (xs ++ ys)) (settled-append settles xs ys) e

  -- a list that ends with an event that settles
  pub settled-last : (settles : E → Bool) (xs : List E) (x : E) → settles x ≡ true → settled settles (xs ++ x ∷ []) ≡ true
  settled-last settles [] x e = ap (λ (b : Bool). cond b true false) e
  settled-last settles (y ∷ ys) x e = either_true (settles y) (settled settles (ys ++ x ∷ [])) (settled-last settles ys x e)

  -- what settles a list settles it when it has grown
  pub settled_on : (settles : E → Bool) (may : ℕ → Option ℕ → E → Type 0) (by n : ℕ) (seen list : List E) → Grew may by n seen list → settled settles seen ≡ true → settled settles list ≡ true
  settled_on settles may by n seen list grew done = ap (settled settles) grew.begins ∙ settled-append settles seen grew.more done

  pub journal-append : (by i j : ℕ) (a b : List (Entry E)) → j ≡ i + length a → journal_of by i (a ++ b) ≡ journal_of by i a ++ journal_of by j b
  journal-append by i j [] b e = let f : i ≡ j = omega arith in ap (λ (z : ℕ). journal_of by z b) f
  journal-append by i j (e ∷ es) b is = ap (λ (z : List (Stamped E)). cond (eqb e.by by) (stamped i e.place e.event ∷ z) z) (journal-append by (suc i) j es b (omega arith))
      ∙ cond_append (eqb e.by by) (stamped i e.place e.event) (journal_of by (suc i) es) (journal_of by j b)

  pub none-append : (by n : ℕ) (a b : List (Entry E)) → NoneBy by n a → NoneBy by n b → NoneBy by n (a ++ b)
  none-append by n [] b p q = q
  none-append by n (e ∷ es) b p q = (p.0, none-append by n es b p.1 q)

  pub allowed-append : (threads places : ℕ) (may : ℕ → Option ℕ → E → Type 0) (a b : List (Entry E)) → AllAllowed threads places may a → AllAllowed threads places may b → AllAllowed threads places may (a ++ b)
  allowed-append threads places may [] b p q = q
  allowed-append threads places may (e ∷ es) b p q = (p.0, p.1, p.2, allowed-append threads places may es b p.3 q)

  pub allowed_after : (threads places : ℕ) (may : ℕ → Option ℕ → E → Type 0) (a b : List (Entry E)) → AllAllowed threads places may (a ++ b) → AllAllowed threads places may b
  allowed_after threads places may [] b p = p
  allowed_after threads places may (e ∷ es) b p = allowed_after threads places may es b p.3

  pub backed-append : (leans : E → Option ℕ) (settles : E → Bool) (before xs : List (Entry E)) (e : Entry E) → AllBacked leans settles before xs → IsBacked leans settles (before ++ xs) e.place e.event → AllBacked leans settles before (xs ++ e ∷ [])
  backed-append leans settles before [] e h b = (subst (λ (z : List (Entry E)). IsBacked leans settles z e.place e.event) (append-nil before) b, tt)
  backed-append leans settles before (x ∷ xs) e h b = (h.0, backed-append leans settles (before ++ x ∷ []) xs e h.1 (subst (λ (z : List (Entry E)). IsBacked leans settles z e.place e.event) (sym (append_assoc before (x ∷ []) xs)) b))

  pub is_backed : (leans : E → Option ℕ) (settles : E → Bool) (before : List (Entry E)) (place : Option ℕ) (event : E) → (place ≡ None → (n : ℕ) → leans event ≡ Some n → settled settles (events_at n before) ≡ true) → IsBacked leans settles before place event
  is_backed leans settles before None event h = h refl
  is_backed leans settles before (Some n) event h = tt

  others_here : (may : ℕ → Option ℕ → E → Type 0) (by n : ℕ) (e : Entry E) (xs : List E) → may e.by e.place e.event → (e.by ≡ by → is_at n e.place ≡ false)
      → ByOthers may by n xs → (b : Bool) → is_at n e.place ≡ b → ByOthers may by n (cond b (e.event ∷ xs) xs)
  others_here may by n e xs m none o true is = ((e.by, (λ same. let f = none same in cc), subst (λ (z : Option ℕ). may e.by z e.event) (is_at_some n e.place is) m), o)
  others_here may by n e xs m none o false is = o

  -- what is at a place where the pass drew nothing was drawn by others
  pub by_others : (threads places : ℕ) (may : ℕ → Option ℕ → E → Type 0) (by n : ℕ) (l : List (Entry E)) → AllAllowed threads places may l → NoneBy by n l → ByOthers may by n (events_at n l)
  by_others threads places may by n [] p q = tt
  by_others threads places may by n (e ∷ es) p q = others_here may by n e (events_at n es) p.2 q.0 (by_others threads places may by n es p.3 q.1) (is_at n e.place) refl

  within_here : (own here : Bool) (x : E) (i : ℕ) (place : Option ℕ) (n : ℕ) (ss : List (Stamped E)) (xs : List E) → is_at n place ≡ here → IsWithin (own_events n ss) xs
      → IsWithin (own_events n (cond own (stamped i place x ∷ ss) ss)) (cond here (x ∷ xs) xs)
  within_here true true x i place n ss xs is h = subst (λ (b : Bool). IsWithin (cond b (x ∷ own_events n ss) (own_events n ss)) (x ∷ xs)) (sym is) (meets x (own_events n ss) xs h)
  within_here true false x i place n ss xs is h = subst (λ (b : Bool). IsWithin (cond b (x ∷ own_events n ss) (own_events n ss)) xs) (sym is) h
  within_here false true x i place n ss xs is h = passes_over x (own_events n ss) xs h
  within_here false false x i place n ss xs is h = h

  -- the pass's own events at a place are among all that are there
  pub own_within : (by i n : ℕ) (l : List (Entry E)) → IsWithin (own_events n (journal_of by i l)) (events_at n l)
  own_within by i n [] = ends
  own_within by i n (e ∷ es) = within_here (eqb e.by by) (is_at n e.place) e.event i e.place n (journal_of by (suc i) es) (events_at n es) refl (own_within by (suc i) n es)

  below_more : (a b : ℕ) (js : List (Stamped E)) → a ≡ b → AreBelow a js → AreBelow b js
  below_more a b js e h = subst (λ (z : ℕ). AreBelow z js) e h

  below_here : (own : Bool) (i m : ℕ) (place : Option ℕ) (x : E) (js : List (Stamped E)) → i < m → AreBelow m js → AreBelow m (cond own (stamped i place x ∷ js) js)
  below_here true i m place x js l h = (l, h)
  below_here false i m place x js l h = h

  -- the stamps of a pass are below the length of the log
  pub below : (by i : ℕ) (l : List (Entry E)) → AreBelow (i + length l) (journal_of by i l)
  below by i [] = tt
  below by i (e ∷ es) = below_here (eqb e.by by) i (i + length (e ∷ es)) e.place e.event (journal_of by (suc i) es) (omega arith) (below_more (suc i + length es) (i + length (e ∷ es)) (journal_of by (suc i) es) (omega arith) (below by (suc i) es))

  -- how many entries are of the passes below t
  abbrev pub shares : ℕ → ℕ → List (Entry E) → ℕ
  shares Prim.Native.Nat.zero i l = 0
  shares (suc t) i l = shares t i l + length (journal_of t i l)

  shares_cons : (t i : ℕ) (e : Entry E) (es : List (Entry E)) → shares t i (e ∷ es) ≡ shares t (suc i) es + hits t e.by
  shares_cons Prim.Native.Nat.zero i e es = refl
  shares_cons (suc t) i e es = let a = shares_cons t i e es in let b = length_cond (eqb e.by t) (stamped i e.place e.event) (journal_of t (suc i) es) in omega arith

  all_shared : (threads places i : ℕ) (may : ℕ → Option ℕ → E → Type 0) (l : List (Entry E)) → AllAllowed threads places may l → length l ≤ shares threads i l
  all_shared threads places i may [] p = omega arith
  all_shared threads places i may (e ∷ es) p = let a = all_shared threads places (suc i) may es p.3 in let b = shares_cons threads i e es in let c = hit_once threads e.by p.0 in omega arith

  shares_few : (t i bound : ℕ) (l : List (Entry E)) → ((by : ℕ) → length (journal_of by i l) ≤ bound) → shares t i l ≤ t * bound
  shares_few Prim.Native.Nat.zero i bound l few = omega arith
  shares_few (suc t) i bound l few = let a = shares_few t i bound l few in let b = few t in let c : suc t * bound ≡ t * bound + bound = suc-mul t bound in omega arith

  -- the log of at most 16 passes with at most 2 ^ 58 events each
  pub short : (threads places : ℕ) (may : ℕ → Option ℕ → E → Type 0) (l : List (Entry E)) → threads ≤ 16 → AllAllowed threads places may l → ((by : ℕ) → length (journal_of by 0 l) ≤ 2 ^ 58) → length l ≤ 2 ^ 62
  short threads places may l few allowed bounded = let a = all_shared threads places 0 may l allowed in let b = shares_few threads 0 (2 ^ 58) l bounded in omega arith

-- What all passes together show at the end.
use Rattle.std.proofs.Common.{◌≡◌, ℕ, suc, ◌+◌, ◌<◌, inl, inr, List, [], ◌∷◌, Bool, Option as Opt, Some, IsSome, length, map, get_or, refl, sym, ap, ◌∙◌, subst, arith}
use Rattle.std.specs.List.{AllByRecursion, Contains}
use Rattle.std.specs.List.Sorted.{IsPermutation}
use Rattle.std.proofs.lemmas.List.Sorted.{Contains-permutation}
use mathlib.Core.Option.{some, some-injective}
use lib.ListN.{get_elem?}
use Rattle.atomic_table.specs.Table.{State, Final, Seen}
use Rattle.init_lock.specs.declared.views.Setup.{Setup}
use Rattle.init_lock.specs.declared.views.PassView.{PassView}
use Rattle.init_lock.specs.declared.views.PlaceView.{PlaceView}
use Rattle.init_lock.specs.Log.{Entry, events_at, journal_of, AllAllowed, AllBacked}
use Rattle.init_lock.specs.Rule.{element_at, FollowedBy, Fits, RuleHolds, AllSeen}
use Rattle.init_lock.specs.Known.{PassFacts, IsAway, last_at, view_of_pass}
use Rattle.init_lock.specs.Closing.{numbers, HasJournals, HasLooks, IsSettledFirst, HasSettledFirst, HasRecords, FollowsAll}
use Rattle.init_lock.proofs.Lists.{none_some, said_is}
use Rattle.init_lock.proofs.Ends.{In, all_home, fits_in, away_knows}
use Rattle.init_lock.proofs.Settling.{all_settled_first}

pub length_numbers : (i n : ℕ) → length (numbers i n) ≡ n
length_numbers i Prim.Native.Nat.zero = refl
length_numbers i (suc n) = ap suc (length_numbers (suc i) n)

number_at : (i n j d : ℕ) → j < n → get_or (numbers i n) j d ≡ i + j
number_at i Prim.Native.Nat.zero j d l = absurd (omega arith)
number_at i (suc n) Prim.Native.Nat.zero d l = omega arith
number_at i (suc n) (suc j) d l = number_at (suc i) n j d (omega arith) ∙ (omega arith)

has_number : (n k : ℕ) → k < n → Contains (numbers 0 n) k
has_number n k l = let a = length_numbers 0 n in (k, omega arith, number_at 0 n k k l ∙ (omega arith))

module _ {R E : Type 0} where
  -- the pass of a number
  found : (ps : List (PassFacts R E)) (k j : ℕ) → j < length (map (λ p. p.number) ps) → get_or (map (λ p. p.number) ps) j k ≡ k → AllByRecursion (λ p. IsAway p.places) ps
      → (q : PassView R E) × In q (map view_of_pass ps) × (q.pass ≡ k) × IsAway q.places
  found [] k j l e a = absurd (omega arith)
  found (p ∷ ps) k Prim.Native.Nat.zero l e a = (view_of_pass p, inl refl, e, a.0)
  found (p ∷ ps) k (suc j) l e a = let h = found ps k j (omega arith) e a.1 in (h.0, inr h.1, h.2, h.3)

  every_number : (ps : List (PassFacts R E)) (threads : ℕ) → IsPermutation (numbers 0 threads) (map (λ p. p.number) ps) → AllByRecursion (λ p. IsAway p.places) ps
      → (k : ℕ) → k < threads → (q : PassView R E) × In q (map view_of_pass ps) × (q.pass ≡ k) × IsAway q.places
  every_number ps threads all away k l = let h = Contains-permutation (numbers 0 threads) (map (λ p. p.number) ps) k all (has_number threads k l) in found ps k h.0 h.1 h.2 away

  -- the place that shows this record as the last
  last_there : (ts : List (PlaceView R E)) (n : ℕ) (x : R) → last_at n ts ≡ Some x → (t : PlaceView R E) × (get_elem? ts n ≡ some t) × (t.last ≡ x)
  last_there [] n x e = absurd (none_some e)
  last_there (t ∷ ts) Prim.Native.Nat.zero x e = (t, refl, said_is t.last x e)
  last_there (t ∷ ts) (suc n) x e = last_there ts n x e

  all_in : (G : PassFacts R E → Type 0) (ps : List (PassFacts R E)) (H : PassFacts R E → Type 0) → ((p : PassFacts R E) → In (view_of_pass p) (map view_of_pass ps) → H p → G p) → AllByRecursion H ps → AllByRecursion G ps
  all_in G [] H h a = tt
  all_in G (p ∷ ps) H h a = (h p (inl refl) a.0, all_in G ps H (λ q i b. h q (inr i) b) a.1)

module _ {R E : Type 0} (kept : R → List E) (may : ℕ → Opt ℕ → E → Type 0) (follows : R → R → Type 0) where
  -- each slot has its record, which keeps the events of its place
  abbrev pub Shelved : List (Entry E) → (ℕ → Opt R) → ℕ → List (Opt R) → Type 0
  Shelved log now i [] = Unit {0}
  Shelved log now i (x ∷ xs) = ((r : R) × (x ≡ Some r) × (now i ≡ Some r) × (kept r ≡ events_at i log)) × Shelved log now (suc i) xs

  -- what the rule says of a pass at the end
  pub record Ended (log : List (Entry E)) (now : ℕ → Opt R) (p : PassFacts R E) : Type 0 where
    pub journal : p.journal ≡ journal_of p.number 0 log
    pub looks : AllSeen log p.number p.looks
    pub opening : (n : ℕ) (x : R) → element_at n p.opening ≡ Some x → FollowedBy kept may follows x (now n)
    pub last : (n : ℕ) (x : R) → last_at n p.places ≡ Some x → FollowedBy kept may follows x (now n)

  pub all_some : (log : List (Entry E)) (now : ℕ → Opt R) (i : ℕ) (xs : List (Opt R)) → Shelved log now i xs → AllByRecursion (λ x. IsSome x) xs
  all_some log now i [] h = tt
  all_some log now i (x ∷ xs) h = (subst (λ (z : Opt R). IsSome z) (sym h.0.1) refl, all_some log now (suc i) xs h.1)

  abbrev first_or : Opt R → List (Opt R) → Opt R
  first_or d [] = d
  first_or d (x ∷ xs) = x

  abbrev tail_of : List (Opt R) → List (Opt R)
  tail_of [] = []
  tail_of (x ∷ xs) = xs

  pub records_are : (log : List (Entry E)) (now : ℕ → Opt R) (i : ℕ) (rs : List R) (xs : List (Opt R)) → map Some rs ≡ xs → Shelved log now i xs → HasRecords {R = R} {E = E} kept log i rs
  records_are log now i [] xs e h = tt
  records_are log now i (r ∷ rs) [] e h = absurd (let l = ap length e in omega arith)
  records_are log now i (r ∷ rs) (x ∷ xs) e h = (ap kept (said_is r h.0.0 (ap (first_or x) e ∙ h.0.1)) ∙ h.0.3, records_are log now (suc i) rs xs (ap tail_of e) h.1)

  now_is : (log : List (Entry E)) (now : ℕ → Opt R) (i : ℕ) (rs : List R) (xs : List (Opt R)) → map Some rs ≡ xs → Shelved log now i xs → (n : ℕ) (r : R) → element_at n rs ≡ Some r → now (i + n) ≡ Some r
  now_is log now i [] xs e h n r there = absurd (none_some there)
  now_is log now i (y ∷ rs) [] e h n r there = absurd (let l = ap length e in omega arith)
  now_is log now i (y ∷ rs) (x ∷ xs) e h Prim.Native.Nat.zero r there = ap now (let a : i + 0 ≡ i = omega arith in a) ∙ (h.0.2 ∙ (sym h.0.1 ∙ (sym (ap (first_or x) e) ∙ there)))
  now_is log now i (y ∷ rs) (x ∷ xs) e h (suc n) r there = ap now (let a : i + suc n ≡ suc i + n = omega arith in a) ∙ now_is log now (suc i) rs xs (ap tail_of e) h.1 n r there

  pub follows_all : (log : List (Entry E)) (now : ℕ → Opt R) (ps : List (PassFacts R E)) (rs : List R) (xs : List (Opt R)) → map Some rs ≡ xs → Shelved log now 0 xs → AllByRecursion (Ended log now) ps → AllByRecursion (FollowsAll follows rs) ps
  follows_all log now ps rs xs e h all = all_in (FollowsAll follows rs) ps (Ended log now) (λ p i b. record {
    opening = λ n x r begun there. subst (FollowedBy kept may follows x) (ap now (let a : n ≡ 0 + n = omega arith in a) ∙ now_is log now 0 rs xs e h n r there) (b.opening n x begun);
    last = λ n x r seen there. subst (FollowedBy kept may follows x) (ap now (let a : n ≡ 0 + n = omega arith in a) ∙ now_is log now 0 rs xs e h n r there) (b.last n x seen);
  }) all

  pub journals_are : (log : List (Entry E)) (now : ℕ → Opt R) (ps : List (PassFacts R E)) → AllByRecursion (Ended log now) ps → HasJournals log ps
  journals_are log now ps all = all_in (λ p. p.journal ≡ journal_of p.number 0 log) ps (Ended log now) (λ p i b. b.journal) all

  pub looks_are : (log : List (Entry E)) (now : ℕ → Opt R) (ps : List (PassFacts R E)) → AllByRecursion (Ended log now) ps → HasLooks log ps
  looks_are log now ps all = all_in (λ p. AllSeen log p.number p.looks) ps (Ended log now) (λ p i b. b.looks) all

  pub settled_first : (settles : E → Bool) (log : List (Entry E)) (now : ℕ → Opt R) (ps : List (PassFacts R E)) → AllByRecursion (Ended log now) ps → HasSettledFirst settles log ps
  settled_first settles log now ps all = all_in (λ p. AllByRecursion (λ l. IsSettledFirst settles log p.journal l) p.looks) ps (Ended log now) (λ p i b. all_settled_first settles log p.number p.journal p.looks b.journal b.looks) all

  shelved_from : (log : List (Entry E)) (now : ℕ → Opt R) (i : ℕ) (xs : List (Opt R)) → ((n : ℕ) → n < length xs → (r : R) × (get_elem? xs n ≡ some (Some r)) × (now (i + n) ≡ Some r) × (kept r ≡ events_at (i + n) log)) → Shelved log now i xs
  shelved_from log now i [] h = tt
  shelved_from log now i (x ∷ xs) h =
      let a = h 0 (omega arith) in let z : i + 0 ≡ i = omega arith in (
        (a.0, some-injective x (Some a.0) a.1, ap now (sym z) ∙ a.2, a.3 ∙ ap (λ (z : ℕ). events_at z log) z),
        shelved_from log now (suc i) xs (λ n l. let b = h (suc n) (omega arith) in let z : i + suc n ≡ suc i + n = omega arith in (b.0, b.1, ap now (sym z) ∙ b.2, b.3 ∙ ap (λ (z : ℕ). events_at z log) z)),
      )

  module _ (settles : E → Bool) (lawful : List E → Type 0) (leans : E → Opt ℕ) (setup : Setup R) where
    -- the log and the records that a closed table had at the end
    pub record Closes (ps : List (PassFacts R E)) (xs : List (Opt R)) : Type 0 where
      pub log : List (Entry E)
      pub now : ℕ → Opt R
      pub allowed : AllAllowed setup.threads (length xs) may log
      pub backed : AllBacked leans settles [] log
      pub passes : AllByRecursion (Ended log now) ps
      pub shelved : Shelved log now 0 xs

    ended : (s : State (Opt R) (List (PassView R E))) (r : RuleHolds kept may follows settles lawful leans setup s) (p : PassFacts R E) → Fits kept may follows setup.threads s.words s.homes r.log r.now (view_of_pass p) → IsAway p.places → Ended r.log r.now p
    ended s r p f away = record {
      journal = f.drawn;
      looks = f.looks;
      opening = f.began;
      last = λ n x e. let t = last_there p.places n x e in subst (λ (z : R). FollowedBy kept may follows z (r.now n)) t.2 (away_knows kept may follows settles lawful leans setup s r (view_of_pass p) n t.0 f away t.1).2;
    }

    pub closes : (id : ℕ) (ps : List (PassFacts R E)) (ws : List ℕ) (xs : List (Opt R)) → Final (Seen (RuleHolds kept may follows settles lawful leans setup) id (map view_of_pass ps)) ws xs
        → IsPermutation (numbers 0 setup.threads) (map (λ p. p.number) ps) → AllByRecursion (λ p. IsAway p.places) ps → Closes ps xs
    closes id ps ws xs f all away = let s = f.0 in let r = f.1.0 in let wide = f.3 in record {
      log = r.log;
      now = r.now;
      allowed = subst (λ (z : ℕ). AllAllowed setup.threads z may r.log) wide r.allowed;
      backed = r.backed;
      passes = all_in (Ended r.log r.now) ps (λ p. IsAway p.places) (λ p i a. ended s r p (fits_in kept may follows settles lawful leans setup s r id (map view_of_pass ps) (view_of_pass p) f.1.1 i) a) away;
      shelved = shelved_from r.log r.now 0 xs (λ n l.
          let h = all_home kept may follows settles lawful leans setup s r id (map view_of_pass ps) f.1.1 (every_number ps setup.threads all away) n (omega arith) in
          let z : n ≡ 0 + n = omega arith in
          (h.record_now, f.4 n (Some h.record_now) h.home, ap r.now (sym z) ∙ h.is_now, h.keeps ∙ ap (λ (z : ℕ). events_at z r.log) z));
    }

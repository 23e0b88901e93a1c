-- What all threads gave back, and the run that it makes.
use Rattle.std.proofs.Common.{◌≡◌, ℕ, suc, ◌+◌, ◌<◌, ◌≤◌, ◌⊎◌, inl, inr, ⊎_elim, List, [], ◌∷◌, ◌++◌, Some, Bool, true, false, eqb, cond, map, length, refl, sym, subst, ap, ◌∙◌, arith}
use Rattle.std.specs.Prelude.{slice_index_or, slice_get}
use Rattle.std.specs.List.{AllByRecursion}
use Rattle.std.proofs.lemmas.Option.{slice_get_within, slice_get_cases}
use Rattle.hierarchy.specs.LinkedProgram.{LinkedProgram, id}
use Rattle.hierarchy.specs.declared.class.ClassId.{ClassId}
use Rattle.statics.specs.Statics.{statics_of}
use Rattle.init_core.specs.declared.event.Event.{Event}
use Rattle.init_core.specs.Lawful.{IsLawful}
use Rattle.init_core.specs.ProgramEvents.{IsProgramEvent}
use Rattle.init_core.specs.Interleaving.{of_thread}
use Rattle.init_core.proofs.Forgetting.{forget_thread}
use Rattle.init_lock.specs.declared.journal.Stamped.{Stamped}
use Rattle.init_lock.specs.Log.{journal_of, AllAllowed}
use Rattle.init_lock.specs.Merging.{AreJournals}
use Rattle.init_lock.specs.Rule.{element_at}
use Rattle.init_lock.specs.Known.{PassFacts, TableFacts, Written, IsNewPass, IsAway}
use Rattle.init_lock.specs.Closing.{numbers, written, HasJournals, FollowsAll}
use Rattle.bodies.specs.declared.report.ThreadOutcome.{ThreadOutcome}
use Rattle.bodies.specs.Making.{maker_of}
use Rattle.bodies.specs.Sharing.{Sharing, free_bodies}
use Rattle.guest_threads.specs.declared.guarded.Guarded.{Guarded}
use Rattle.guest_threads.specs.declared.work.Worked.{Worked}
use Rattle.guest_threads.specs.Drawing.{MayDraw, Follows, merged}
use Rattle.bodies.specs.Runs.{IsThreadRun, AreOutcomes}
use Rattle.guest_threads.specs.AllWork.{PlanFacts, IsPlan, MayWork, Did, Pairs, AreBack, AreDone}
use Rattle.guest_threads.specs.declared.launch.Job.{Job}
use Rattle.guest_threads.specs.MergedJournals.{IsMergeOf}
use Rattle.guest_threads.specs.ThreadWork.{IsDone}
use Rattle.guest_threads.specs.Working.{ArePrepared, IsTableOf, Works, drawn}
use Rattle.guest_threads.proofs.Merged.{Log, Fair, journal_is, no_others, own_thread}
use Rattle.guest_threads.proofs.Stamping.{is_merge}
use Rattle.guest_threads.proofs.Headline.{AreLawful, HaveWords}
use Rattle.guest_threads.proofs.Finding.{element_some}

module _ {J R : Type 0} where
  seconds : (Q : J → R → Type 0) (S : R → Type 0) → ((j : J) (r : R) → Q j r → S r) → (js : List J) (rs : List R) → Pairs Q js rs → AllByRecursion S rs
  seconds Q S go [] [] p = tt
  seconds Q S go [] (r ∷ rs) p = absurd p
  seconds Q S go (j ∷ js) [] p = absurd p
  seconds Q S go (j ∷ js) (r ∷ rs) p = (go j r p.0, seconds Q S go js rs p.1)

  same_numbers : (f : J → ℕ) (g : R → ℕ) (Q : J → R → Type 0) → ((j : J) (r : R) → Q j r → g r ≡ f j) → (js : List J) (rs : List R) → Pairs Q js rs → map g rs ≡ map f js
  same_numbers f g Q go [] [] p = refl
  same_numbers f g Q go [] (r ∷ rs) p = absurd p
  same_numbers f g Q go (j ∷ js) [] p = absurd p
  same_numbers f g Q go (j ∷ js) (r ∷ rs) p = let a = go j r p.0 in let b = same_numbers f g Q go js rs p.1 in cc

  pairs_at : (Q : J → R → Type 0) (js : List J) (rs : List R) (t : ℕ) (j : J) (r : R) → Pairs Q js rs → slice_get js t ≡ Some j → slice_get rs t ≡ Some r → Q j r
  pairs_at Q [] rs t j r p a b = cc
  pairs_at Q (x ∷ js) [] t j r p a b = cc
  pairs_at Q (x ∷ js) (y ∷ rs) Prim.Native.Nat.zero j r p a b = let is : x ≡ j = cc in let so : y ≡ r = cc in subst (λ (z : J). Q z r) is (subst (Q x) so p.0)
  pairs_at Q (x ∷ js) (y ∷ rs) (suc t) j r p a b = pairs_at Q js rs t j r p.1 a b

all_map : {A B : Type 0} (f : A → B) (P : B → Type 0) (xs : List A) → AllByRecursion (λ x. P (f x)) xs → AllByRecursion P (map f xs)
all_map f P [] a = tt
all_map f P (x ∷ xs) a = (a.0, all_map f P xs a.1)

map_map : {A B C : Type 0} (f : A → B) (g : B → C) (xs : List A) → map g (map f xs) ≡ map (λ x. g (f x)) xs
map_map f g [] = refl
map_map f g (x ∷ xs) = ap (λ (z : _). g (f x) ∷ z) (map_map f g xs)

all_at : {A : Type 0} (P : A → Type 0) (xs : List A) (t : ℕ) (x : A) → AllByRecursion P xs → slice_get xs t ≡ Some x → P x
all_at P [] t x a e = cc
all_at P (y ∷ xs) Prim.Native.Nat.zero x a e = let q : y ≡ x = cc in subst P q a.0
all_at P (y ∷ xs) (suc t) x a e = all_at P xs t x a.1 e

get_map : {A B : Type 0} (f : A → B) (xs : List A) (t : ℕ) (x : A) → slice_get xs t ≡ Some x → slice_get (map f xs) t ≡ Some (f x)
get_map f [] t x e = cc
get_map f (y ∷ xs) Prim.Native.Nat.zero x e = let q : y ≡ x = cc in ap (λ (z : _). Some (f z)) q
get_map f (y ∷ xs) (suc t) x e = get_map f xs t x e

get_unmap : {A B : Type 0} (f : A → B) (xs : List A) (t : ℕ) (y : B) → slice_get (map f xs) t ≡ Some y → (x : A) × (slice_get xs t ≡ Some x) × (f x ≡ y)
get_unmap f [] t y e = cc
get_unmap f (x ∷ xs) Prim.Native.Nat.zero y e = (x, refl, (let q : f x ≡ y = cc in q))
get_unmap f (x ∷ xs) (suc t) y e = get_unmap f xs t y e

-- the one of a number
numbered : {A : Type 0} (num : A → ℕ) (i n t : ℕ) (xs : List A) → map num xs ≡ numbers i n → t < n → (x : A) × (slice_get xs t ≡ Some x) × (num x ≡ i + t)
numbered num i Prim.Native.Nat.zero t xs e l = absurd (omega arith)
numbered num i (suc n) t [] e l = cc
numbered num i (suc n) Prim.Native.Nat.zero (x ∷ xs) e l = (x, refl, (let q : num x ≡ i = cc in let z : i ≡ i + 0 = omega arith in q ∙ z))
numbered num i (suc n) (suc t) (x ∷ xs) e l = let rest : map num xs ≡ numbers (suc i) n = cc in let r = numbered num (suc i) n t xs rest (omega arith) in (r.0, r.1, (let z : suc i + t ≡ i + suc t = omega arith in r.2 ∙ z))

-- ---- the records of the beginning

element_push : (rs : List Guarded) (x r : Guarded) (n : ℕ) → element_at n (rs ++ x ∷ []) ≡ Some r → (element_at n rs ≡ Some r) ⊎ ((n ≡ length rs) × (x ≡ r))
element_push [] x r Prim.Native.Nat.zero e = inr (refl, (let q : x ≡ r = cc in q))
element_push [] x r (suc n) e = cc
element_push (y ∷ rs) x r Prim.Native.Nat.zero e = inl e
element_push (y ∷ rs) x r (suc n) e = ⊎_elim (λ a. inl a) (λ b. inr (ap suc b.0, b.1)) (element_push rs x r n e)

pub prepared_push : (p : LinkedProgram) (rs : List Guarded) (x : Guarded) (k : ℕ) → ArePrepared p rs → k ≡ length rs → x.record.class ≡ id k → x.record.fields ≡ statics_of p (id k) → x.record.events ≡ [] → ArePrepared p (rs ++ x ∷ [])
prepared_push p rs x k a e class fields none n r q = ⊎_elim (λ b. a n r b)
    (λ b. let is : n ≡ k = b.0 ∙ sym e in subst (λ (y : Guarded). (y.record.class ≡ id n) × (y.record.fields ≡ statics_of p (id n)) × (y.record.events ≡ [])) b.1
    (class ∙ ap id (sym is), fields ∙ ap (λ (j : ℕ). statics_of p (id j)) (sym is), none))
    (element_push rs x r n q)

pub none_kept : (p : LinkedProgram) (rs : List Guarded) → ArePrepared p rs → AllByRecursion (λ r. r.record.events ≡ []) rs
none_kept p rs a = by_place rs (λ n r e. (a n r e).2) where
  by_place : (rs : List Guarded) → ((n : ℕ) (r : Guarded) → element_at n rs ≡ Some r → r.record.events ≡ []) → AllByRecursion (λ r. r.record.events ≡ []) rs
  by_place [] a = tt
  by_place (r ∷ rs) a = (a 0 r refl, by_place rs (λ n x e. a (suc n) x e))

-- ---- new passes

pub new_passes : (k : PlanFacts) (rs : List Guarded) (ps : List (PassFacts Guarded Event)) (i n : ℕ) → IsTableOf k.program k.table → ArePrepared k.program rs → length rs ≡ length k.program.classes → i + n ≤ k.table.threads → map (λ x. x.number) ps ≡ numbers i n → AllByRecursion (IsNewPass k.table.id rs) ps → AllByRecursion (MayWork k) ps
new_passes k rs [] i n places a many l e f = tt
new_passes k rs (x ∷ ps) i Prim.Native.Nat.zero places a many l e f = cc
new_passes k rs (x ∷ ps) i (suc n) places a many l e f =
    let is : x.number ≡ i = cc in
    let rest : map (λ (y : PassFacts Guarded Event). y.number) ps ≡ numbers (suc i) n = cc in (
      record {
        works = record { places = places; of_table = f.0.table; number = refl; within = omega arith; away = f.0.away; prepared = subst (ArePrepared k.program) (sym f.0.opening) a; whole = (let z = ap length f.0.opening in omega arith) };
        none = f.0.journal;
        unseen = f.0.seen;
      },
      new_passes k rs ps (suc i) n places a many (omega arith) rest f.1,
    )

-- ---- what came back

-- a fact about each event of each thread is one about all events
all_left : (Q : Event → Type 0) (b : Bool) (x : Event) (xs : List Event) → AllByRecursion Q (cond b (x ∷ xs) xs) → AllByRecursion Q xs
all_left Q true x xs a = a.1
all_left Q false x xs a = a

all_merged : (Q : Event → Type 0) (threads places : ℕ) (log : Log) → Fair threads places log → ((t : ℕ) → AllByRecursion Q (of_thread t (merged log))) → AllByRecursion Q (merged log)
all_merged Q threads places [] f a = tt
all_merged Q threads places (e ∷ es) f a = (
  (let own : AllByRecursion Q (e.event ∷ of_thread e.event.thread (merged es)) = subst (AllByRecursion Q) (own_thread e.event (merged es)) (a e.event.thread) in own.0),
  all_merged Q threads places es f.3 (λ t. all_left Q (eqb e.event.thread t) e.event (of_thread t (merged es)) (a t)),
)

one_at : {A : Type 0} (xs : List A) (t : ℕ) → t < length xs → (x : A) × (slice_get xs t ≡ Some x)
one_at xs t l = ⊎_elim (λ x. (x.0, x.2)) (λ x. absurd (let y = x.0 in omega arith)) (slice_get_cases xs t).1

below_or : (n m : ℕ) → (n < m) ⊎ (m ≤ n)
below_or n Prim.Native.Nat.zero = inr (omega arith)
below_or Prim.Native.Nat.zero (suc m) = inl (omega arith)
below_or (suc n) (suc m) = ⊎_elim (λ l. inl (omega arith)) (λ l. inr (omega arith)) (below_or n m)

by_threads : (threads places : ℕ) (log : Log) → Fair threads places log → AllByRecursion (λ e. e.by < threads) log
by_threads threads places [] f = tt
by_threads threads places (e ∷ es) f = (f.0, by_threads threads places es f.3)

length_map : {A B : Type 0} (f : A → B) (xs : List A) → length (map f xs) ≡ length xs
length_map f [] = refl
length_map f (x ∷ xs) = ap suc (length_map f xs)

length_numbers : (i n : ℕ) → length (numbers i n) ≡ n
length_numbers i Prim.Native.Nat.zero = refl
length_numbers i (suc n) = ap suc (length_numbers (suc i) n)

-- the number of the one at a place
number_at : {A : Type 0} (num : A → ℕ) (n t : ℕ) (xs : List A) (x : A) → map num xs ≡ numbers 0 n → t < n → slice_get xs t ≡ Some x → num x ≡ t
number_at num n t xs x e l q =
    let y = numbered num 0 n t xs e l in
    let is : y.0 ≡ x = (let z : Some y.0 ≡ Some x = sym y.1 ∙ q in cc) in
    let z : 0 + t ≡ t = omega arith in
    ap num (sym is) ∙ (y.2 ∙ z)

all_unmap : {A B : Type 0} (f : A → B) (P : B → Type 0) (xs : List A) → AllByRecursion P (map f xs) → AllByRecursion (λ x. P (f x)) xs
all_unmap f P [] a = tt
all_unmap f P (x ∷ xs) a = (a.0, all_unmap f P xs a.1)

-- there are so many
pub new_count : (xs : List (PassFacts Guarded Event)) (n : ℕ) → map (λ x. x.number) xs ≡ numbers 0 n → length xs ≡ n
new_count xs n e = sym (length_map (λ (x : PassFacts Guarded Event). x.number) xs) ∙ (ap length e ∙ length_numbers 0 n)

-- the passes of jobs are new
pub jobs_may_work : {S : Type 0} (k : PlanFacts) (js : List (Job S)) (xs : List (PassFacts Guarded Event)) → map (λ j. j.pass) js ≡ xs → AllByRecursion (MayWork k) xs → AllByRecursion (λ j. MayWork k j.pass) js
jobs_may_work {S} k js xs are new = all_unmap (λ (j : Job S). j.pass) (MayWork k) js (subst (AllByRecursion (MayWork k)) (sym are) new)

pub jobs_numbers : {S : Type 0} (js : List (Job S)) (xs : List (PassFacts Guarded Event)) (ns : List ℕ) → map (λ j. j.pass) js ≡ xs → map (λ x. x.number) xs ≡ ns → map (λ j. j.pass.number) js ≡ ns
jobs_numbers {S} js xs ns are numbers = sym (map_map (λ (j : Job S). j.pass) (λ (x : PassFacts Guarded Event). x.number) js) ∙ (ap (map (λ (x : PassFacts Guarded Event). x.number)) are ∙ numbers)

-- what the threads of jobs promised is what all of them did
pub are_done : {S H : Type 0} (making : LinkedProgram → Sharing S H) (k : PlanFacts) (js : List (Job S)) (ws : List Worked) → map (λ j. j.pass.number) js ≡ numbers 0 (length k.mains) → Pairs (Did making k) js ws → AreDone making k (map (λ j. j.bodies) js) ws
are_done {S} making k js ws new_numbers did =
    let numbered_so : map (λ (w : Worked). w.pass.number) ws ≡ numbers 0 (length k.mains) = same_numbers (λ (j : Job S). j.pass.number) (λ (w : Worked). w.pass.number) (Did making k) (λ j r y. y.number) js ws did ∙ new_numbers in
    record {
      numbered = numbered_so;
      works = seconds (Did making k) (λ (w : Worked). Works k.program k.table w.pass.number w.pass) (λ j r y. y.works) js ws did;
      count = length_map (λ (j : Job S). j.bodies) js ∙ (sym (length_map (λ (j : Job S). j.pass.number) js) ∙ (ap length new_numbers ∙ length_numbers 0 (length k.mains)));
      done = λ t m s w q a b.
          let j = get_unmap (λ (j : Job S). j.bodies) js t s a in
          let d : Did making k j.0 w = pairs_at (Did making k) js ws t j.0 w did j.1 b in
          let is : w.pass.number ≡ t = number_at (λ (w : Worked). w.pass.number) (length k.mains) t ws w numbered_so (slice_get_within k.mains t m q) b in
          subst (λ (z : S). IsDone k.program (free_bodies (making k.program)) z k.table k.limits m w) j.2 (d.done m (ap (slice_get k.mains) is ∙ q));
    }

all_both : {A : Type 0} (P Q : A → Type 0) → ((x : A) → P x → Q x) → (xs : List A) → AllByRecursion P xs → AllByRecursion Q xs
all_both P Q f [] a = tt
all_both P Q f (x ∷ xs) a = (f x a.0, all_both P Q f xs a.1)

-- all passes came back
pub are_back : {S H : Type 0} (making : LinkedProgram → Sharing S H) (k : PlanFacts) (starts : List S) (ws : List Worked) → IsPlan k → AreDone making k starts ws → AreBack k.table ws
are_back making k starts ws plan d = record {
  numbered = d.numbered ∙ ap (numbers 0) (sym plan.threads);
  of_table = all_both (λ (w : Worked). Works k.program k.table w.pass.number w.pass) (λ (w : Worked). w.pass.table ≡ k.table.id) (λ w y. y.of_table) ws d.works;
  away = all_both (λ (w : Worked). Works k.program k.table w.pass.number w.pass) (λ (w : Worked). IsAway w.pass.places) (λ w y. y.away) ws d.works;
}

module _ (table : TableFacts) (ws : List Worked) (back : AreBack table ws) where
  pub pass_numbers : map (λ (x : PassFacts Guarded Event). x.number) (map (λ (w : Worked). w.pass) ws) ≡ numbers 0 table.threads
  pass_numbers = map_map (λ (w : Worked). w.pass) (λ (x : PassFacts Guarded Event). x.number) ws ∙ back.numbered

  pub pass_tables : AllByRecursion (λ (x : PassFacts Guarded Event). x.table ≡ table.id) (map (λ (w : Worked). w.pass) ws)
  pass_tables = all_map (λ (w : Worked). w.pass) (λ (x : PassFacts Guarded Event). x.table ≡ table.id) ws back.of_table

  pub pass_away : AllByRecursion (λ (x : PassFacts Guarded Event). IsAway x.places) (map (λ (w : Worked). w.pass) ws)
  pass_away = all_map (λ (w : Worked). w.pass) (λ (x : PassFacts Guarded Event). IsAway x.places) ws back.away

module _ {S H : Type 0} (making : LinkedProgram → Sharing S H) (k : PlanFacts) (starts : List S) (ds : List Worked) (all : AreDone making k starts ds) where
  mains_numbers : map (λ (x : PassFacts Guarded Event). x.number) (map (λ (w : Worked). w.pass) ds) ≡ numbers 0 (length k.mains)
  mains_numbers = map_map (λ (w : Worked). w.pass) (λ (x : PassFacts Guarded Event). x.number) ds ∙ all.numbered

  done_count : length ds ≡ length k.mains
  done_count = sym (length_map (λ (w : Worked). w.pass.number) ds) ∙ (ap length all.numbered ∙ length_numbers 0 (length k.mains))

  pub journal_count : length (map (λ (w : Worked). w.pass.journal) ds) ≡ length k.mains
  journal_count = length_map (λ (w : Worked). w.pass.journal) ds ∙ done_count

  pub outcome_count : length (map (λ (w : Worked). w.outcome) ds) ≡ length k.mains
  outcome_count = length_map (λ (w : Worked). w.outcome) ds ∙ done_count

  module _ (log : Log) (rs : List Guarded) (journals_of : HasJournals log (map (λ (w : Worked). w.pass) ds)) (follows : AllByRecursion (FollowsAll (λ (x y : Guarded). Follows x.record y.record) rs) (map (λ (w : Worked). w.pass) ds)) where
    -- what thread t did
    record ThreadDone (t : ℕ) (m : ClassId) (start : S) : Type 0 where
      outcome : ThreadOutcome
      at : slice_get (map (λ (w : Worked). w.outcome) ds) t ≡ Some outcome
      run : IsThreadRun k.program (free_bodies (making k.program)) start k.limits t m (drawn (journal_of t 0 log)) outcome
      events : AllByRecursion (λ e. IsProgramEvent k.program k.table.threads e) (drawn (journal_of t 0 log))

    thread_done : (t : ℕ) (m : ClassId) (start : S) → slice_get k.mains t ≡ Some m → slice_get starts t ≡ Some start → ThreadDone t m start
    thread_done t m start q at =
        let x = numbered (λ (w : Worked). w.pass.number) 0 (length k.mains) t ds all.numbered (slice_get_within k.mains t m q) in
        let w : Worked = x.0 in
        let is : w.pass.number ≡ t = let z : 0 + t ≡ t = omega arith in x.2 ∙ z in
        let done : IsDone k.program (free_bodies (making k.program)) start k.table k.limits m w = all.done t m start w q at x.1 in
        let journal : w.pass.journal ≡ journal_of w.pass.number 0 log = all_at (λ (y : PassFacts Guarded Event). y.journal ≡ journal_of y.number 0 log) (map (λ (v : Worked). v.pass) ds) t w.pass journals_of (get_map (λ (v : Worked). v.pass) ds t w x.1) in
        let own : drawn w.pass.journal ≡ drawn (journal_of t 0 log) = ap drawn journal ∙ ap (λ (b : ℕ). drawn (journal_of b 0 log)) is in
        record {
          outcome = w.outcome;
          at = get_map (λ (v : Worked). v.outcome) ds t w x.1;
          run = subst (λ (b : ℕ). IsThreadRun k.program (free_bodies (making k.program)) start k.limits b m (drawn (journal_of t 0 log)) w.outcome) is (subst (λ (es : List Event). IsThreadRun k.program (free_bodies (making k.program)) start k.limits w.pass.number m es w.outcome) own done.run);
          events = subst (λ (es : List Event). AllByRecursion (λ e. IsProgramEvent k.program k.table.threads e) es) own done.events;
        }

    start_of : (t : ℕ) (m : ClassId) → slice_get k.mains t ≡ Some m → (start : S) × (slice_get starts t ≡ Some start)
    start_of t m q = one_at starts t (let z = all.count in let l = slice_get_within k.mains t m q in omega arith)

    pub words : HaveWords k.program k.mains log
    words t m q = let at = start_of t m q in forget_thread k.program t (maker_of k.program (free_bodies (making k.program))) (thread_done t m at.0 q at.1).run.word

    pub outcomes_are : (places : ℕ) → AllAllowed (length k.mains) places MayDraw log → AreOutcomes k.program (free_bodies (making k.program)) starts k.mains k.limits (merged log) (map (λ (w : Worked). w.outcome) ds)
    outcomes_are places f t m start q at = let d = thread_done t m start q at in (d.outcome, d.at, subst (λ (xs : List Event). IsThreadRun k.program (free_bodies (making k.program)) start k.limits t m xs d.outcome) (sym (journal_is (length k.mains) places t 0 log f)) d.run)

    -- a fact about what each thread did, and about nothing
    of_each : (places : ℕ) → AllAllowed (length k.mains) places MayDraw log → (Q : List Event → Type 0) → Q [] → ((t : ℕ) (m : ClassId) → slice_get k.mains t ≡ Some m → Q (drawn (journal_of t 0 log))) → (t : ℕ) → Q (of_thread t (merged log))
    of_each places f Q none each t = ⊎_elim
        (λ l. let m = one_at k.mains t l in subst Q (sym (journal_is (length k.mains) places t 0 log f)) (each t m.0 m.1))
        (λ l. subst Q (sym (no_others (length k.mains) places t log f l)) none)
        (below_or t (length k.mains))

    pub events_are : (places : ℕ) → AllAllowed (length k.mains) places MayDraw log → AllByRecursion (λ e. IsProgramEvent k.program k.table.threads e) (merged log)
    events_are places f = all_merged (λ e. IsProgramEvent k.program k.table.threads e) (length k.mains) places log f (of_each places f (λ es. AllByRecursion (λ e. IsProgramEvent k.program k.table.threads e) es) tt (λ u m q. let at = start_of u m q in (thread_done u m at.0 q at.1).events))

    -- the first pass says of which class each record is
    fields_are : 0 < length k.mains → length rs ≡ length k.program.classes → (n : ℕ) (r : Guarded) → element_at n rs ≡ Some r → n < length rs → r.record.fields ≡ statics_of k.program (id n)
    fields_are some many n r q l =
        let x = numbered (λ (w : Worked). w.pass.number) 0 (length k.mains) 0 ds all.numbered some in
        let w : Worked = x.0 in
        let works : Works k.program k.table w.pass.number w.pass = all_at (λ (v : Worked). Works k.program k.table v.pass.number v.pass) ds 0 w all.works x.1 in
        let f : FollowsAll (λ (x y : Guarded). Follows x.record y.record) rs w.pass = all_at (FollowsAll (λ (x y : Guarded). Follows x.record y.record) rs) (map (λ (v : Worked). v.pass) ds) 0 w.pass follows (get_map (λ (v : Worked). v.pass) ds 0 w x.1) in
        let first = element_some n w.pass.opening (let a = works.whole in omega arith) in
        (f.opening n first.0 r first.1 q).0.1 ∙ (works.prepared n first.0 first.1).1

    pub lawful_are : 0 < length k.mains → length rs ≡ length k.program.classes → AllByRecursion (λ (r : Guarded). IsLawful r.record.fields r.record.events) rs → AreLawful k.program 0 rs
    lawful_are some many a = by_place 0 rs a (λ n r q l. let z : 0 + n ≡ n = omega arith in fields_are some many n r q l ∙ ap (λ (b : ℕ). statics_of k.program (id b)) (sym z)) where
      by_place : (i : ℕ) (xs : List Guarded) → AllByRecursion (λ (r : Guarded). IsLawful r.record.fields r.record.events) xs → ((n : ℕ) (r : Guarded) → element_at n xs ≡ Some r → n < length xs → r.record.fields ≡ statics_of k.program (id (i + n))) → AreLawful k.program i xs
      by_place i [] a f = tt
      by_place i (x ∷ xs) a f = (
        let z : i + 0 ≡ i = omega arith in subst (λ (b : ℕ). IsLawful (statics_of k.program (id b)) x.record.events) z (subst (λ (fs : _). IsLawful fs x.record.events) (f 0 x refl (omega arith)) a.0),
        by_place (suc i) xs a.1 (λ n r q l. let z : i + suc n ≡ suc i + n = omega arith in f (suc n) r q (omega arith) ∙ ap (λ (b : ℕ). statics_of k.program (id b)) z),
      )

    journals_in_order : (i n : ℕ) (ws : List Worked) → map (λ w. w.pass.number) ws ≡ numbers i n → HasJournals log (map (λ (w : Worked). w.pass) ws) → map (λ w. w.pass.journal) ws ≡ map (λ t. journal_of t 0 log) (numbers i n)
    journals_in_order i Prim.Native.Nat.zero [] e a = refl
    journals_in_order i Prim.Native.Nat.zero (w ∷ ws) e a = cc
    journals_in_order i (suc n) [] e a = cc
    journals_in_order i (suc n) (w ∷ ws) e a =
        let is : w.pass.number ≡ i = cc in
        let rest : map (λ (v : Worked). v.pass.number) ws ≡ numbers (suc i) n = cc in
        let here : w.pass.journal ≡ journal_of i 0 log = a.0 ∙ ap (λ (b : ℕ). journal_of b 0 log) is in
        let more = journals_in_order (suc i) n ws rest a.1 in
        λ j. here j ∷ more j

    -- the events are those of the journals of all threads in the order of the stamps
    pub merge_is : (places : ℕ) → AllAllowed (length k.mains) places MayDraw log → IsMergeOf (map (λ (w : Worked). w.pass.journal) ds) (merged log)
    merge_is places f = subst (λ (js : List (List (Stamped Event))). IsMergeOf js (merged log)) (sym (journals_in_order 0 (length k.mains) ds all.numbered journals_of)) (is_merge (length k.mains) places log f)

    journals_from : (i n : ℕ) (xs : List (PassFacts Guarded Event)) → map (λ (x : PassFacts Guarded Event). x.number) xs ≡ numbers i n → AllByRecursion (λ (y : PassFacts Guarded Event). y.journal ≡ journal_of y.number 0 log) xs → (at : ℕ) (other : Written Event) → at < length (map written xs) → (slice_index_or (map written xs) at other).events ≡ journal_of (i + at) 0 log
    journals_from i n [] e a at other l = absurd (omega (arith, l))
    journals_from i Prim.Native.Nat.zero (x ∷ xs) e a at other l = cc
    journals_from i (suc n) (x ∷ xs) e a Prim.Native.Nat.zero other l =
        let is : x.number ≡ i = cc in
        let z : i ≡ i + 0 = omega arith in
        a.0 ∙ ap (λ (b : ℕ). journal_of b 0 log) (is ∙ z)
    journals_from i (suc n) (x ∷ xs) e a (suc at) other l =
        let rest : map (λ (y : PassFacts Guarded Event). y.number) xs ≡ numbers (suc i) n = cc in
        let z : suc i + at ≡ i + suc at = omega arith in
        journals_from (suc i) n xs rest a.1 at other (omega arith) ∙ ap (λ (b : ℕ). journal_of b 0 log) z

    pub journals_are : (places : ℕ) → AllAllowed (length k.mains) places MayDraw log → (ws : List (Written Event)) → ws ≡ map written (map (λ (w : Worked). w.pass) ds) → AreJournals log ws
    journals_are places f ws e =
        let count : length k.mains ≡ length (map written (map (λ (w : Worked). w.pass) ds)) = sym (length_map written (map (λ (w : Worked). w.pass) ds) ∙ (length_map (λ (w : Worked). w.pass) ds ∙ done_count)) in
        subst (AreJournals log) (sym e) (record {
          all = subst (λ (n : ℕ). AllByRecursion (λ e. e.by < n) log) count (by_threads (length k.mains) places log f);
          each = λ n other l. let z : 0 + n ≡ n = omega arith in journals_from 0 (length k.mains) (map (λ (w : Worked). w.pass) ds) mains_numbers journals_of n other l ∙ ap (λ (b : ℕ). journal_of b 0 log) z;
        })

-- In what a thread does each class has as many endings (steps 7, 10, 12) as beginnings (step 6).
use Rattle.std.proofs.Common.{◌≡◌, ℕ, ◌+◌, ◌==◌, List, [], ◌∷◌, ◌++◌, Option, Bool, true, false, refl, arith}
use Rattle.hierarchy.specs.declared.class.ClassId.{ClassId}
use Rattle.hierarchy.specs.declared.built_in.BuiltIn.TheVariants.{OutOfMemoryError}
use Rattle.hierarchy.specs.LinkedProgram.{LinkedProgram, built_in}
use Rattle.init_core.specs.declared.event.Event.{Event}
use Rattle.init_core.specs.declared.event.Kind.{Kind}
use Rattle.init_core.specs.declared.event.Kind.TheVariants as kind
use Rattle.init_core.specs.declared.frames.Completed.{Completed}
use Rattle.init_core.specs.declared.frames.Outcome.{Outcome}
use Rattle.init_core.specs.Decisions.{event}
use Rattle.init_core.specs.Interleaving.{is_class}
use Rattle.init_core.specs.ProcedureWord.{Maker, Word, word, AfterWait, recurs, finds_initialized, finds_erroneous, gives_up, completes, fails, is_ended, need_fails, need_is_ended, lacks_memory, Begun, begins, and_then, ItemsOf, no_items, requests, uses, prints, Body, stops, stops_ended, ran, threw, was_ended, ThreadWordOf, wait, IsUse, printed}

abbrev pub total : (Event → ℕ) → List Event → ℕ
total f [] = 0
total f (e ∷ es) = f e + total f es

pub total-append : (f : Event → ℕ) (xs ys : List Event) → total f (xs ++ ys) ≡ total f xs + total f ys
total-append f [] ys = omega arith
total-append f (x ∷ xs) ys = let h : total f (xs ++ ys) ≡ total f xs + total f ys = total-append f xs ys in rw h (omega arith)

abbrev pub both : Bool → Bool → ℕ
both false b = 0
both true false = 0
both true true = 1

-- 1 where the event is of t and c
abbrev pub mark : ℕ → ClassId → Event → ℕ
mark t c e = both (e.thread == t) (is_class c e.class)

abbrev pub begun_by : Kind → ℕ → ℕ
begun_by kind.Begins n = n
begun_by _ n = 0

abbrev pub ended_by : Kind → ℕ → ℕ
ended_by kind.Completes n = n
ended_by (kind.SuperFails e) n = n
ended_by (kind.Fails e) n = n
ended_by _ n = 0

-- the step 6 of t on c
abbrev pub begun : ℕ → ClassId → Event → ℕ
begun t c e = begun_by e.kind (mark t c e)

-- and its endings
abbrev pub ended : ℕ → ClassId → Event → ℕ
ended t c e = ended_by e.kind (mark t c e)

module _ (u : ℕ) (c : ClassId) where
  -- as many endings of c by u as beginnings
  abbrev pub Even : List Event → Type 0
  Even xs = total (begun u c) xs ≡ total (ended u c) xs

  even_append : (xs ys : List Event) → Even xs → Even ys → Even (xs ++ ys)
  even_append xs ys a b =
      let x : total (begun u c) (xs ++ ys) ≡ total (begun u c) xs + total (begun u c) ys = total-append (begun u c) xs ys in
      let y : total (ended u c) (xs ++ ys) ≡ total (ended u c) xs + total (ended u c) ys = total-append (ended u c) xs ys in
      omega arith

  module _ (p : LinkedProgram) (t : ℕ) where
    -- one beginning more, of b
    abbrev IsOver : ClassId → List Event → Type 0
    IsOver b xs = total (begun u c) xs ≡ total (ended u c) xs + mark u c (event t b kind.Begins)

    over_append : (b : ClassId) (xs ys : List Event) → IsOver b xs → Even ys → IsOver b (xs ++ ys)
    over_append b xs ys o e =
        let x : total (begun u c) (xs ++ ys) ≡ total (begun u c) xs + total (begun u c) ys = total-append (begun u c) xs ys in
        let y : total (ended u c) (xs ++ ys) ≡ total (ended u c) xs + total (ended u c) ys = total-append (ended u c) xs ys in
        omega arith

    closed : (b : ClassId) (k : Kind) (before within : List Event) → ((n : ℕ) → begun_by k n ≡ 0) → ((n : ℕ) → ended_by k n ≡ n) → IsOver b before → Even within → Even (before ++ (within ++ event t b k ∷ []))
    closed b k before within quiet is o e =
        let x : total (begun u c) (before ++ (within ++ event t b k ∷ [])) ≡ total (begun u c) before + total (begun u c) (within ++ event t b k ∷ []) = total-append (begun u c) before (within ++ event t b k ∷ []) in
        let y : total (ended u c) (before ++ (within ++ event t b k ∷ [])) ≡ total (ended u c) before + total (ended u c) (within ++ event t b k ∷ []) = total-append (ended u c) before (within ++ event t b k ∷ []) in
        let v : total (begun u c) (within ++ event t b k ∷ []) ≡ total (begun u c) within + (begun_by k (mark u c (event t b k)) + 0) = total-append (begun u c) within (event t b k ∷ []) in
        let w : total (ended u c) (within ++ event t b k ∷ []) ≡ total (ended u c) within + (ended_by k (mark u c (event t b k)) + 0) = total-append (ended u c) within (event t b k ∷ []) in
        let i : ended_by k (mark u c (event t b k)) ≡ mark u c (event t b kind.Begins) = is (mark u c (event t b k)) in
        let j : begun_by k (mark u c (event t b k)) ≡ 0 = quiet (mark u c (event t b k)) in
        omega arith

    ran_even : (b : ClassId) (w : List Event) → Even w → Even (event t b kind.Runs ∷ w)
    ran_even b w e = omega arith

    wait_even : (b : ClassId) (waited : Bool) → Even (wait t b waited)
    wait_even b true = refl
    wait_even b false = refl

    use_even : (k : Kind) (d : ClassId) → IsUse k → Even (event t d k ∷ [])
    use_even (kind.Gets f v) d i = refl
    use_even (kind.Puts f v) d i = refl
    use_even kind.Begins d i = absurd i
    use_even kind.Waits d i = absurd i
    use_even kind.Recurs d i = absurd i
    use_even kind.FindsInitialized d i = absurd i
    use_even kind.FindsErroneous d i = absurd i
    use_even (kind.SuperFails e) d i = absurd i
    use_even kind.Runs d i = absurd i
    use_even kind.Completes d i = absurd i
    use_even (kind.Fails e) d i = absurd i
    use_even (kind.Prints x) d i = absurd i

    mutual
      word_even : {M : Maker} {y z : M.State} {b : ClassId} {w : List Event} {r : Outcome} → Word p t M y b w r z → Even w
      word_even (word {c = b} {rest = rest} waited x) = even_append (wait t b waited) rest (wait_even b waited) (rest_even x)

      rest_even : {M : Maker} {y z : M.State} {b : ClassId} {w : List Event} {r : Outcome} → AfterWait p t M y b w r z → Even w
      rest_even recurs = refl
      rest_even finds_initialized = refl
      rest_even finds_erroneous = refl
      rest_even (gives_up m) = refl
      rest_even (completes {c = b} {begun = g} {body = w} x st y) = closed b kind.Completes g (event t b kind.Runs ∷ w) (λ n. refl) (λ n. refl) (begun_over x) (ran_even b w (body_even y))
      rest_even (fails {c = b} {begun = g} {body = w} {e = e} x st y replaced is) = closed b (kind.Fails e) g (event t b kind.Runs ∷ w) (λ n. refl) (λ n. refl) (begun_over x) (ran_even b w (body_even y))
      rest_even (is_ended {c = b} {begun = g} {body = w} {e = e} x st y) = closed b (kind.Fails e) g (event t b kind.Runs ∷ w) (λ n. refl) (λ n. refl) (begun_over x) (ran_even b w (body_even y))
      rest_even (need_fails {c = b} others {begun = g} {w = w} {e = e} q x y) = closed b (kind.SuperFails e) g w (λ n. refl) (λ n. refl) (begun_over x) (word_even y)
      rest_even (need_is_ended {c = b} others {begun = g} {w = w} {e = e} q x y) = closed b (kind.SuperFails e) g w (λ n. refl) (λ n. refl) (begun_over x) (word_even y)
      rest_even (lacks_memory {c = b} others {begun = g} q x) = closed b (kind.SuperFails (built_in p OutOfMemoryError)) g [] (λ n. refl) (λ n. refl) (begun_over x) refl

      begun_over : {M : Maker} {y z : M.State} {b : ClassId} {first : List ClassId} {w : List Event} → Begun p t M y b first w z → IsOver b w
      begun_over (begins {c = b}) = omega arith
      begun_over (and_then {c = b} {begun = g} {w = w} x y) = over_append b g w (begun_over x) (word_even y)

      items_even : {M : Maker} {y z : M.State} {last : Option Completed} {w : List Event} → ItemsOf p t M y last w z → Even w
      items_even no_items = refl
      items_even (requests {items = xs} {events = ys} i on within made x) = even_append xs ys (items_even i) (word_even x)
      items_even (uses {items = xs} {c = d} k is i made) = even_append xs (event t d k ∷ []) (items_even i) (use_even k d is)
      items_even (prints {items = xs} text i on made) = even_append xs (printed t text ∷ []) (items_even i) refl

      body_even : {M : Maker} {y z : M.State} {w : List Event} {r : Outcome} → Body p t M y w r z → Even w
      body_even (stops i on is made) = items_even i
      body_even (stops_ended i made) = items_even i

    pub thread_even : {M : Maker} {y z : M.State} {m : ClassId} {w : List Event} {r : Outcome} → ThreadWordOf p t M y m w r z → Even w
    thread_even (ran {w = xs} {body = ys} x st b) = even_append xs ys (word_even x) (body_even b)
    thread_even (threw x) = word_even x
    thread_even (was_ended x) = word_even x

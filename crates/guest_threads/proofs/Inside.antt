-- In a whole word each 9 comes between a 6 and an end of its class, and each 6 before an end.
use Rattle.std.proofs.Common.{◌≡◌, ◌≢◌, ℕ, List, [], ◌∷◌, ◌++◌, Option, Some, Bool, true, false, refl, ap, ◌⊎◌, inl, inr, append-nil, append_assoc, subst, sym}
use Rattle.hierarchy.specs.LinkedProgram.{LinkedProgram, built_in}
use Rattle.hierarchy.specs.declared.class.ClassId.{ClassId}
use Rattle.init_core.specs.declared.event.Event.{Event}
use Rattle.init_core.specs.declared.event.Kind.{Kind}
use Rattle.init_core.specs.declared.event.Kind.TheVariants as kind
use Rattle.init_core.specs.declared.frames.Outcome.{Outcome}
use Rattle.init_core.specs.Decisions.{event}
use Rattle.init_core.specs.declared.frames.Completed.{Completed}
use Rattle.init_core.specs.ProcedureWord.{Maker, Word, word, AfterWait, recurs, finds_initialized, finds_erroneous, gives_up, completes, fails, is_ended, need_fails, need_is_ended, lacks_memory, Begun, begins, and_then, ItemsOf, no_items, requests, uses, prints, Body, stops, stops_ended, wait, IsUse, printed, ThreadWordOf, ran, threw, was_ended, ThreadWord}
use Rattle.hierarchy.specs.declared.built_in.BuiltIn.TheVariants.{OutOfMemoryError}

-- an end of a class in progress: 7, 10, 12
abbrev pub IsEnd : Kind → Type 0
IsEnd kind.Completes = Unit {0}
IsEnd (kind.SuperFails e) = Unit {0}
IsEnd (kind.Fails e) = Unit {0}
IsEnd _ = ⊥

-- an event of the list has the property
abbrev pub Has : (Event → Type 0) → List Event → Type 0
Has P [] = ⊥
Has P (e ∷ es) = P e ⊎ Has P es

abbrev pub Begins : ℕ → ClassId → List Event → Type 0
Begins t c events = Has (λ e. e ≡ event t c kind.Begins) events

abbrev pub Ends : ℕ → ClassId → List Event → Type 0
Ends t c events = Has (λ e. (k : Kind) × IsEnd k × (e ≡ event t c k)) events

pub has_left : (P : Event → Type 0) (xs ys : List Event) → Has P xs → Has P (xs ++ ys)
has_left P [] ys b = absurd b
has_left P (e ∷ es) ys (inl q) = inl q
has_left P (e ∷ es) ys (inr b) = inr (has_left P es ys b)

pub has_right : (P : Event → Type 0) (xs ys : List Event) → Has P ys → Has P (xs ++ ys)
has_right P [] ys b = b
has_right P (e ∷ es) ys b = inr (has_right P es ys b)

-- what is asked of one event of the word, by what comes before and after it
abbrev pub Within : ℕ → List Event → Event → List Event → Type 0
Within t before e after = (c : ClassId) → (e ≡ event t c kind.Runs → Begins t c before × Ends t c after) × (e ≡ event t c kind.Begins → Ends t c after)

-- of each event
abbrev pub AllWithin : ℕ → List Event → List Event → List Event → Type 0
AllWithin t before [] after = Unit {0}
AllWithin t before (e ∷ es) after = Within t before e (es ++ after) × AllWithin t (before ++ e ∷ []) es after

module _ (t : ℕ) where
  begins_left : (c : ClassId) (xs ys : List Event) → Begins t c xs → Begins t c (xs ++ ys)
  begins_left c xs ys b = has_left (λ e. e ≡ event t c kind.Begins) xs ys b

  begins_right : (c : ClassId) (xs ys : List Event) → Begins t c ys → Begins t c (xs ++ ys)
  begins_right c xs ys b = has_right (λ e. e ≡ event t c kind.Begins) xs ys b

  ends_left : (c : ClassId) (xs ys : List Event) → Ends t c xs → Ends t c (xs ++ ys)
  ends_left c xs ys b = has_left (λ e. (k : Kind) × IsEnd k × (e ≡ event t c k)) xs ys b

  ends_right : (c : ClassId) (xs ys : List Event) → Ends t c ys → Ends t c (xs ++ ys)
  ends_right c xs ys b = has_right (λ e. (k : Kind) × IsEnd k × (e ≡ event t c k)) xs ys b

  assoc : (a b c : List Event) → (a ++ b) ++ c ≡ a ++ (b ++ c)
  assoc a b c = simp append_assoc

  after_is : (before xs after after' : List Event) → after ≡ after' → AllWithin t before xs after → AllWithin t before xs after'
  after_is before xs after after' q a = subst (λ (z : List Event). AllWithin t before xs z) q a

  before_is : (before before' xs after : List Event) → before ≡ before' → AllWithin t before xs after → AllWithin t before' xs after
  before_is before before' xs after q a = subst (λ (z : List Event). AllWithin t z xs after) q a

  -- more may be around
  more : (before xs after front back : List Event) → AllWithin t before xs after → AllWithin t (front ++ before) xs (after ++ back)
  more before [] after front back a = tt
  more before (e ∷ es) after front back a = (
    λ c. ((
      λ q. let w = (a.0 c).0 q in (begins_right c front before w.0, subst (λ (z : List Event). Ends t c z) (assoc es after back) (ends_left c (es ++ after) back w.1)),
      λ q. subst (λ (z : List Event). Ends t c z) (assoc es after back) (ends_left c (es ++ after) back ((a.0 c).1 q)),
    )),
    before_is (front ++ (before ++ e ∷ [])) ((front ++ before) ++ e ∷ []) es (after ++ back) (sym (assoc front before (e ∷ []))) (more (before ++ e ∷ []) es after front back a.1),
  )

  join : (before xs ys after : List Event) → AllWithin t before xs (ys ++ after) → AllWithin t (before ++ xs) ys after → AllWithin t before (xs ++ ys) after
  join before [] ys after a b = before_is (before ++ []) before ys after (append-nil before) b
  join before (e ∷ es) ys after a b = (
    subst (λ (z : List Event). Within t before e z) (sym (assoc es ys after)) a.0,
    join (before ++ e ∷ []) es ys after a.1 (before_is (before ++ e ∷ es) ((before ++ e ∷ []) ++ es) ys after (sym (assoc before (e ∷ []) es)) b),
  )

  -- a list that needs nothing around it
  abbrev pub Alone : List Event → Type 0
  Alone xs = AllWithin t [] xs []

  -- and may be anywhere
  anywhere : (before xs after : List Event) → Alone xs → AllWithin t before xs after
  anywhere before xs after a = before_is (before ++ []) before xs after (append-nil before) (more [] xs [] before after a)

  both : (xs ys : List Event) → Alone xs → Alone ys → Alone (xs ++ ys)
  both xs ys a b = join [] xs ys [] (anywhere [] xs (ys ++ []) a) (anywhere xs ys [] b)

  other : (before after : List Event) (e : Event) → (e.kind ≢ kind.Runs) → (e.kind ≢ kind.Begins) → AllWithin t before (e ∷ []) after
  other before after e r b = (λ c. (λ q. absurd (r (ap (λ (x : Event). x.kind) q)), λ q. absurd (b (ap (λ (x : Event). x.kind) q))), tt)

  end_kind : (k : Kind) → IsEnd k → (k ≢ kind.Runs) × (k ≢ kind.Begins)
  end_kind kind.Completes i = (λ q. cc, λ q. cc)
  end_kind (kind.SuperFails e) i = (λ q. cc, λ q. cc)
  end_kind (kind.Fails e) i = (λ q. cc, λ q. cc)
  end_kind kind.Waits i = absurd i
  end_kind kind.Recurs i = absurd i
  end_kind kind.FindsInitialized i = absurd i
  end_kind kind.FindsErroneous i = absurd i
  end_kind kind.Begins i = absurd i
  end_kind kind.Runs i = absurd i
  end_kind (kind.Gets f v) i = absurd i
  end_kind (kind.Puts f v) i = absurd i
  end_kind (kind.Prints x) i = absurd i

  use_kind : (k : Kind) → IsUse k → (k ≢ kind.Runs) × (k ≢ kind.Begins)
  use_kind (kind.Gets f v) i = (λ q. cc, λ q. cc)
  use_kind (kind.Puts f v) i = (λ q. cc, λ q. cc)
  use_kind kind.Completes i = absurd i
  use_kind (kind.SuperFails e) i = absurd i
  use_kind (kind.Fails e) i = absurd i
  use_kind kind.Waits i = absurd i
  use_kind kind.Recurs i = absurd i
  use_kind kind.FindsInitialized i = absurd i
  use_kind kind.FindsErroneous i = absurd i
  use_kind kind.Begins i = absurd i
  use_kind kind.Runs i = absurd i
  use_kind (kind.Prints x) i = absurd i

  same_class : (c d : ClassId) (k : Kind) → event t c k ≡ event t d k → c ≡ d
  same_class c d k q = let h : Some c ≡ Some d = ap (λ (e : Event). e.class) q in cc

  -- what is known of a begun class
  record Opened (c : ClassId) (w : List Event) : Type 0 where
    here : Begins t c w
    inside : (after : List Event) → Ends t c after → AllWithin t [] w after

  opens : (c : ClassId) → Opened c (event t c kind.Begins ∷ [])
  opens c = record { here = inl refl; inside = λ after e. ((λ d. (λ q. absurd (let h : kind.Begins ≡ kind.Runs = ap (λ (x : Event). x.kind) q in cc), λ q. subst (λ z. Ends t z after) (same_class c d kind.Begins q) e)), tt) }

  opens_more : (c : ClassId) (begun w : List Event) → Opened c begun → Alone w → Opened c (begun ++ w)
  opens_more c begun w o a = record {
    here = begins_left c begun w o.here;
    inside = λ after e. join [] begun w after (o.inside (w ++ after) (ends_right c w after e)) (anywhere begun w after a);
  }

  -- a begun class is ended
  closed : (c : ClassId) (begun xs : List Event) (k : Kind) → IsEnd k → Opened c begun → AllWithin t begun xs (event t c k ∷ []) → Alone (begun ++ (xs ++ event t c k ∷ []))
  closed c begun xs k i o a =
      let e : Ends t c (xs ++ event t c k ∷ []) = ends_right c xs (event t c k ∷ []) (inl (k, i, refl)) in
      let last : AllWithin t (begun ++ xs) (event t c k ∷ []) [] = other (begun ++ xs) [] (event t c k) (end_kind k i).0 (end_kind k i).1 in
      let inner : AllWithin t begun (xs ++ event t c k ∷ []) [] = join begun xs (event t c k ∷ []) [] a last in
      join [] begun (xs ++ event t c k ∷ []) [] (o.inside ((xs ++ event t c k ∷ []) ++ []) (ends_left c (xs ++ event t c k ∷ []) [] e)) inner

  -- a body that runs in it
  ran_in : (c : ClassId) (begun body : List Event) (k : Kind) → IsEnd k → Opened c begun → Alone body → Alone (begun ++ event t c kind.Runs ∷ (body ++ event t c k ∷ []))
  ran_in c begun body k i o a = closed c begun (event t c kind.Runs ∷ body) k i o (
    (λ d. (λ q. let s = same_class c d kind.Runs q in (subst (λ z. Begins t z begun) s o.here, subst (λ z. Ends t z (body ++ event t c k ∷ [])) s (ends_right c body (event t c k ∷ []) (inl (k, i, refl)))), λ q. absurd (let h : kind.Runs ≡ kind.Begins = ap (λ (x : Event). x.kind) q in cc))),
    anywhere (begun ++ event t c kind.Runs ∷ []) body (event t c k ∷ []) a,
  )

  waits_alone : (c : ClassId) (waited : Bool) → Alone (wait t c waited)
  waits_alone c true = other [] [] (event t c kind.Waits) (λ q. cc) (λ q. cc)
  waits_alone c false = tt

  module _ (p : LinkedProgram) where
    mutual
      pub word_alone : {M : Maker} {s z : M.State} {c : ClassId} {w : List Event} {r : Outcome} → Word p t M s c w r z → Alone w
      word_alone (word {c = c} {rest = rest} waited x) = both (wait t c waited) rest (waits_alone c waited) (rest_alone x)

      rest_alone : {M : Maker} {s z : M.State} {c : ClassId} {w : List Event} {r : Outcome} → AfterWait p t M s c w r z → Alone w
      rest_alone (recurs {c = c}) = other [] [] (event t c kind.Recurs) (λ q. cc) (λ q. cc)
      rest_alone (finds_initialized {c = c}) = other [] [] (event t c kind.FindsInitialized) (λ q. cc) (λ q. cc)
      rest_alone (finds_erroneous {c = c}) = other [] [] (event t c kind.FindsErroneous) (λ q. cc) (λ q. cc)
      rest_alone (gives_up m) = tt
      rest_alone (completes {c = c} {begun = begun} {body = body} g st b) = ran_in c begun body kind.Completes tt (begun_opened g) (body_alone b)
      rest_alone (fails {c = c} {begun = begun} {body = body} {e = e} g st b left is) = ran_in c begun body (kind.Fails e) tt (begun_opened g) (body_alone b)
      rest_alone (is_ended {c = c} {begun = begun} {body = body} {e = e} g st b) = ran_in c begun body (kind.Fails e) tt (begun_opened g) (body_alone b)
      rest_alone (need_fails {c = c} others {begun = begun} {w = w} {e = e} q g x) = closed c begun w (kind.SuperFails e) tt (begun_opened g) (anywhere begun w (event t c (kind.SuperFails e) ∷ []) (word_alone x))
      rest_alone (need_is_ended {c = c} others {begun = begun} {w = w} {e = e} q g x) = closed c begun w (kind.SuperFails e) tt (begun_opened g) (anywhere begun w (event t c (kind.SuperFails e) ∷ []) (word_alone x))
      rest_alone (lacks_memory {c = c} others {begun = begun} q g) = closed c begun [] (kind.SuperFails (built_in p OutOfMemoryError)) tt (begun_opened g) tt

      begun_opened : {M : Maker} {s z : M.State} {c : ClassId} {first : List ClassId} {w : List Event} → Begun p t M s c first w z → Opened c w
      begun_opened (begins {c = c}) = opens c
      begun_opened (and_then {c = c} {begun = begun} {w = w} g x) = opens_more c begun w (begun_opened g) (word_alone x)

      items_alone : {M : Maker} {s z : M.State} {last : Option Completed} {w : List Event} → ItemsOf p t M s last w z → Alone w
      items_alone no_items = tt
      items_alone (prints {items = items} text i on made) = both items (printed t text ∷ []) (items_alone i) (other [] [] (printed t text) (λ q. cc) (λ q. cc))
      items_alone (requests {items = items} {events = w} i on within asks x) = both items w (items_alone i) (word_alone x)
      items_alone (uses {items = items} {c = c} k u i made) = both items (event t c k ∷ []) (items_alone i) (other [] [] (event t c k) (use_kind k u).0 (use_kind k u).1)

      body_alone : {M : Maker} {s z : M.State} {w : List Event} {r : Outcome} → Body p t M s w r z → Alone w
      body_alone (stops i on is made) = items_alone i
      body_alone (stops_ended i made) = items_alone i

    whole_alone : {M : Maker} {s z : M.State} {m : ClassId} {w : List Event} {r : Outcome} → ThreadWordOf p t M s m w r z → Alone w
    whole_alone (ran {w = w} {body = b} x enters y) = both w b (word_alone x) (body_alone y)
    whole_alone (threw x) = word_alone x
    whole_alone (was_ended x) = word_alone x

    pub thread_alone : {m : ClassId} {w : List Event} → ThreadWord p t m w → Alone w
    thread_alone x = whole_alone x.1

  -- what it says of an event at its place
  placed : (before xs ys : List Event) (e : Event) → AllWithin t before (xs ++ e ∷ ys) [] → Within t (before ++ xs) e ys
  placed before [] ys e a = subst (λ (z : List Event). Within t z e ys) (sym (append-nil before)) (subst (λ (z : List Event). Within t before e z) (append-nil ys) a.0)
  placed before (x ∷ xs) ys e a = subst (λ (z : List Event). Within t z e ys) (assoc before (x ∷ []) xs) (placed (before ++ x ∷ []) xs ys e a.1)

  pub at_place : (xs ys : List Event) (e : Event) → Alone (xs ++ e ∷ ys) → Within t xs e ys
  at_place xs ys e a = placed [] xs ys e a

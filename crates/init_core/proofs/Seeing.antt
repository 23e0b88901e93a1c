-- What a thread has seen of each class, with the events that are seen besides.
use Rattle.std.proofs.Common.{◌≡◌, ◌≢◌, ℕ, List, [], ◌∷◌, ◌++◌, Bool, true, false, ◌==◌, eq-eqb, refl, sym, ap, subst, append-nil, append_assoc, ◌∙◌}
use Rattle.std.specs.Prelude.{if◌then◌else◌}
use Rattle.std.specs.List.{AllByRecursion}
use Rattle.std.proofs.lemmas.Bool.{ne_eqb, eqb-true}
use Rattle.hierarchy.specs.declared.class.ClassId.{ClassId}
use Rattle.init_core.specs.declared.event.Event.{Event}
use Rattle.init_core.specs.declared.event.Kind.{Kind}
use Rattle.init_core.specs.declared.event.Kind.TheVariants as kind
use Rattle.init_core.specs.declared.event.Label.{Label}
use Rattle.init_core.specs.declared.event.Label.TheVariants.{Prepared, InProgress, Initialized, Erroneous}
use Rattle.init_core.specs.Decisions.{event, is_wait, waits, waits_from}
use Rattle.init_core.specs.Interleaving.{of_class}
use Rattle.init_core.specs.Label.{label_of}
use Rattle.init_core.specs.Lawful.{Allows, AgreesAfter, MayUse}
use Rattle.init_core.specs.Stands.{SeesMore, AreOfOthers}
use Rattle.init_core.proofs.Labels.{label_after}
use Rattle.init_core.specs.ClassState.{next_label}
use Rattle.init_core.proofs.States.{waits_more}

-- these classes are in progress by t, in what it has seen of each
abbrev pub AreMine : ℕ → (ClassId → List Event) → List ClassId → Type 0
AreMine t seen cs = AllByRecursion (λ c. label_of (seen c) ≡ InProgress t) cs

still_mine : (t u : ℕ) (k : Kind) → u ≢ t → Allows (InProgress t) u k → next_label (InProgress t) u k ≡ InProgress t
still_mine t u kind.Begins n a = cc
still_mine t u kind.Completes n a = absurd (n (let q : t ≡ u = cc in sym q))
still_mine t u (kind.SuperFails e) n a = absurd (n (let q : t ≡ u = cc in sym q))
still_mine t u (kind.Fails e) n a = absurd (n (let q : t ≡ u = cc in sym q))
still_mine t u kind.Waits n a = refl
still_mine t u kind.Recurs n a = refl
still_mine t u kind.FindsInitialized n a = refl
still_mine t u kind.FindsErroneous n a = refl
still_mine t u kind.Runs n a = refl
still_mine t u (kind.Gets f v) n a = refl
still_mine t u (kind.Puts f v) n a = refl
still_mine t u (kind.Prints x) n a = refl

still_initialized : (u : ℕ) (k : Kind) → Allows Initialized u k → next_label Initialized u k ≡ Initialized
still_initialized u kind.Begins a = cc
still_initialized u kind.Completes a = cc
still_initialized u (kind.SuperFails e) a = cc
still_initialized u (kind.Fails e) a = cc
still_initialized u kind.Waits a = refl
still_initialized u kind.Recurs a = refl
still_initialized u kind.FindsInitialized a = refl
still_initialized u kind.FindsErroneous a = refl
still_initialized u kind.Runs a = refl
still_initialized u (kind.Gets f v) a = refl
still_initialized u (kind.Puts f v) a = refl
still_initialized u (kind.Prints x) a = refl

still_so : (t u : ℕ) (l : Label) (k : Kind) → MayUse t l → u ≢ t → Allows l u k → next_label l u k ≡ l
still_so t u Prepared k m n a = absurd m
still_so t u (InProgress v) k m n a = subst (λ (x : ℕ). Allows (InProgress x) u k → next_label (InProgress x) u k ≡ InProgress x) m (λ b. still_mine t u k n b) a
still_so t u Initialized k m n a = still_initialized u k a
still_so t u Erroneous k m n a = absurd m

-- a class that t may use keeps its label while only others go on
pub stays_so : (t : ℕ) (l : Label) (h more : List Event) → MayUse t l → label_of h ≡ l → AgreesAfter h more → AreOfOthers t more → label_of (h ++ more) ≡ l
stays_so t l h [] m q a o = ap label_of (append-nil h) ∙ q
stays_so t l h (x ∷ xs) m q a o =
    let b : Allows l x.thread x.kind = subst (λ (z : Label). Allows z x.thread x.kind) q a.0 in
    let same : label_of (h ++ x ∷ []) ≡ l = label_after h x a.0 ∙ (ap (λ (z : Label). next_label z x.thread x.kind) q ∙ still_so t x.thread l x.kind m o.0 b) in
    let e : (h ++ x ∷ []) ++ xs ≡ h ++ x ∷ xs = simp append_assoc in
    subst (λ (z : List Event). label_of z ≡ l) e (stays_so t l (h ++ x ∷ []) xs m same a.1 o.1)

pub waits_others_from : (b : Bool) (t : ℕ) (h more : List Event) → AreOfOthers t more → waits_from b t (h ++ more) ≡ waits_from b t h
waits_others_from b t [] [] o = refl
waits_others_from b t [] (x ∷ xs) o = ap (λ (z : Bool). waits_from (if z then is_wait x.kind else b) t xs) (ne_eqb x.thread t o.0) ∙ waits_others_from b t [] xs o.1
waits_others_from b t (x ∷ h) more o = waits_others_from (if x.thread == t then is_wait x.kind else b) t h more o

-- whether the last event of t is a wait, with one more of its own
waits_own : (t : ℕ) (xs : List Event) (c : ClassId) (k : Kind) → waits t (xs ++ event t c k ∷ []) ≡ is_wait k
waits_own t xs c k = waits_more t xs (event t c k) ∙ rw (eq-eqb t t refl) refl

same_number : (c d : ClassId) → (c.number == d.number) ≡ true → c ≡ d
same_number c d e = ap (λ (n : ℕ). let r : ClassId = record { number = n } in r) (eqb-true c.number d.number e)

pub all_mine : (t : ℕ) (seen now : ClassId → List Event) (cs : List ClassId) → ((c : ClassId) → label_of (seen c) ≡ InProgress t → label_of (now c) ≡ InProgress t) → AreMine t seen cs → AreMine t now cs
all_mine t seen now [] go h = tt
all_mine t seen now (c ∷ cs) go h = (go c h.0, all_mine t seen now cs go h.1)

module _ (t : ℕ) {seen now : ClassId → List Event} where
  -- nothing more is seen
  module _ (sees : SeesMore seen (λ c. []) now) where
    same_seen : (d : ClassId) → now d ≡ seen d
    same_seen d = sees.adds d ∙ append-nil (seen d)

    pub mine_same : (cs : List ClassId) → AreMine t seen cs → AreMine t now cs
    mine_same cs h = all_mine t seen now cs (λ d q. ap label_of (same_seen d) ∙ q) h

    pub waits_same : (d : ClassId) → waits t (now d) ≡ waits t (seen d)
    waits_same d = ap (waits t) (same_seen d)

  -- an event of t on c
  module _ (c : ClassId) (k : Kind) (sees : SeesMore seen (λ d. of_class d (event t c k ∷ [])) now) where
    pub more_at : (d : ClassId) (b : Bool) → (c.number == d.number) ≡ b → now d ≡ (if b then seen d ++ event t c k ∷ [] else seen d)
    more_at d true e = sees.adds d ∙ rw e refl
    more_at d false e = sees.adds d ∙ rw e (append-nil (seen d))

    pub here : now c ≡ seen c ++ event t c k ∷ []
    here = more_at c true (eq-eqb c.number c.number refl)

    pub allowed : Allows (label_of (seen c)) t k
    allowed =
        let same : of_class c (event t c k ∷ []) ≡ event t c k ∷ [] = rw (eq-eqb c.number c.number refl) refl in
        let a : AgreesAfter (seen c) (event t c k ∷ []) = subst (λ (es : List Event). AgreesAfter (seen c) es) same (sees.agrees c) in
        a.0

    pub label_here : label_of (now c) ≡ next_label (label_of (seen c)) t k
    label_here = ap label_of here ∙ label_after (seen c) (event t c k) allowed

    -- it leaves the label
    pub mine_still : (cs : List ClassId) → next_label (label_of (seen c)) t k ≡ label_of (seen c) → AreMine t seen cs → AreMine t now cs
    mine_still cs still h = all_mine t seen now cs (λ d q. at d (c.number == d.number) refl q) h where
      at : (d : ClassId) (b : Bool) → (c.number == d.number) ≡ b → label_of (seen d) ≡ InProgress t → label_of (now d) ≡ InProgress t
      at d true e q = let same : c ≡ d = same_number c d e in subst (λ (x : ClassId). label_of (now x) ≡ InProgress t) same (label_here ∙ (still ∙ (ap (λ (x : ClassId). label_of (seen x)) same ∙ q)))
      at d false e q = ap label_of (more_at d false e) ∙ q

    -- or moves a class that is none of these
    pub mine_but : (cs : List ClassId) → AllByRecursion (λ d. d ≢ c) cs → AreMine t seen cs → AreMine t now cs
    mine_but [] n h = tt
    mine_but (d ∷ cs) n h = (at (c.number == d.number) refl, mine_but cs n.1 h.1) where
      at : (b : Bool) → (c.number == d.number) ≡ b → label_of (now d) ≡ InProgress t
      at true e = absurd (n.0 (sym (same_number c d e)))
      at false e = ap label_of (more_at d false e) ∙ h.0

    pub waits_at : (d : ClassId) (b : Bool) → (c.number == d.number) ≡ b → waits t (now d) ≡ (if b then is_wait k else waits t (seen d))
    waits_at d true e = ap (waits t) (more_at d true e) ∙ waits_own t (seen d) c k
    waits_at d false e = ap (waits t) (more_at d false e)

    -- it is no wait, and t waits nowhere else
    pub calm : is_wait k ≡ false → ((d : ClassId) → (c.number == d.number) ≡ false → waits t (seen d) ≡ false) → (d : ClassId) → waits t (now d) ≡ false
    calm none others d = at (c.number == d.number) refl where
      at : (b : Bool) → (c.number == d.number) ≡ b → waits t (now d) ≡ false
      at true e = waits_at d true e ∙ none
      at false e = waits_at d false e ∙ others d e

-- a class that isn't mine is none of those
pub none_is : (t : ℕ) (seen : ClassId → List Event) (c : ClassId) (cs : List ClassId) → label_of (seen c) ≡ Prepared → AreMine t seen cs → AllByRecursion (λ d. d ≢ c) cs
none_is t seen c [] p h = tt
none_is t seen c (d ∷ cs) p h = ((λ e. let q : label_of (seen c) ≡ InProgress t = ap (λ (x : ClassId). label_of (seen x)) (sym e) ∙ h.0 in let z : Prepared ≡ InProgress t = sym p ∙ q in cc), none_is t seen c cs p h.1)

-- What one thread knows after what a body does, of a class or of main.
use Rattle.std.proofs.Common.{◌≡◌, ℕ, List, [], ◌∷◌, ◌++◌, Option, Some, None, true, false, refl, sym, subst, append-nil, append_assoc, ◌∙◌}
use Rattle.hierarchy.specs.declared.class.ClassId.{ClassId}
use Rattle.hierarchy.specs.LinkedProgram.{LinkedProgram}
use Rattle.init_core.specs.declared.event.Event.{Event}
use Rattle.init_core.specs.declared.event.Kind.{Kind}
use Rattle.init_core.specs.declared.event.Kind.TheVariants as kind
use Rattle.init_core.specs.declared.event.Label.{Label}
use Rattle.init_core.specs.declared.frames.Completed.{Completed}
use Rattle.init_core.specs.declared.frames.Frame.{Frame}
use Rattle.init_core.specs.declared.frames.Outcome.{Outcome}
use Rattle.init_core.specs.declared.frames.Outcome.TheVariants.{Normal}
use Rattle.init_core.specs.declared.frames.Phase.TheVariants.{Running}
use Rattle.init_core.specs.Advance.{MayRequest}
use Rattle.init_core.specs.ClassState.{next_label}
use Rattle.init_core.specs.Decisions.{event, is_wait, waits}
use Rattle.init_core.specs.Interleaving.{of_class}
use Rattle.init_core.specs.Label.{label_of}
use Rattle.init_core.specs.Lawful.{MayUse}
use Rattle.init_core.specs.Leads.{frame, standing, LeadsOf, idle}
use Rattle.init_core.specs.MainWord.{BeforeMainOf, BeforeItemOf, MainItemsOf, main_items, MainDoneOf, main_done}
use Rattle.init_core.specs.ProcedureWord.{Maker, Word, no_items, uses, prints, completed, printed, GoesOn, IsUse}
use Rattle.init_core.specs.Standing.{Standing}
use Rattle.init_core.specs.Stands.{begun_classes, StandsOf, SeesMore}
use Rattle.init_core.proofs.Knowing.{request_calm, request_error}
use Rattle.init_core.proofs.Leading.{has_used, has_printed}
use Rattle.init_core.proofs.Seeing.{AreMine, mine_still, calm}

-- A thread of main class m, from a first state of what makes its bodies: before main's body, and in it.
abbrev pub StandsBeforeMain : LinkedProgram → ℕ → (M : Maker) → M.State → ClassId → Standing → List Event → (ClassId → List Event) → M.State → Type 0
StandsBeforeMain p t M first m s own seen z = StandsOf p t M (BeforeMainOf p t M first m) (MainDoneOf p t M first m) s own seen z

abbrev pub StandsInMain : LinkedProgram → ℕ → (M : Maker) → M.State → ClassId → Standing → List Event → (ClassId → List Event) → M.State → Type 0
StandsInMain p t M first m s own seen z = StandsOf p t M (BeforeItemOf p t M first m) (MainItemsOf p t M first m) s own seen z

-- a read or a write is no wait, and leaves the label
use_facts : (k : Kind) → IsUse k → (is_wait k ≡ false) × ((l : Label) (t : ℕ) → next_label l t k ≡ l)
use_facts (kind.Gets f v) is = (refl, λ l t. refl)
use_facts (kind.Puts f v) is = (refl, λ l t. refl)
use_facts kind.Waits is = absurd is
use_facts kind.Recurs is = absurd is
use_facts kind.FindsInitialized is = absurd is
use_facts kind.FindsErroneous is = absurd is
use_facts kind.Begins is = absurd is
use_facts (kind.SuperFails e) is = absurd is
use_facts kind.Runs is = absurd is
use_facts kind.Completes is = absurd is
use_facts (kind.Fails e) is = absurd is
use_facts (kind.Prints x) is = absurd is

module _ (p : LinkedProgram) (t : ℕ) (M : Maker) (Outer : ClassId → List Event → M.State → Type 0) (Idle : Option Completed → List Event → M.State → Type 0) where
  -- the class of the procedure completed last may be used
  pub may_use : {fs : List Frame} {d : ClassId} {own : List Event} {seen : ClassId → List Event} {z : M.State} → StandsOf p t M Outer Idle (standing fs (Some (completed d Normal))) own seen z → MayUse t (label_of (seen d))
  may_use {d = d} st = st.used d refl

  -- something is done where a request may be made
  acts : {fs : List Frame} {last : Option Completed} {own : List Event} {seen now : ClassId → List Event} {y z : M.State} (more : List Event) → MayRequest fs → GoesOn last → LeadsOf p t M Outer Idle (standing fs None) (own ++ more) y → AreMine t now (begun_classes fs) →
      (((d : ClassId) → waits t (seen d) ≡ false) → (d : ClassId) → waits t (now d) ≡ false) → StandsOf p t M Outer Idle (standing fs last) own seen z → StandsOf p t M Outer Idle (standing fs None) (own ++ more) now y
  acts {fs = fs} {last = last} more body on leads mine calm_now st = record {
    leads = leads;
    files = st.files;
    mine = mine;
    different = st.different;
    waiting = λ e d. calm_now (λ b. st.waiting (request_error fs last body on) b ∙ request_calm b fs body) d ∙ sym (request_calm d fs body);
    used = λ d q. cc;
  }

  -- a read or a write of a static field
  has_acted : {fs : List Frame} {d : ClassId} {own : List Event} {seen now : ClassId → List Event} {y z : M.State} (k : Kind) → IsUse k → MayRequest fs → LeadsOf p t M Outer Idle (standing fs None) (own ++ event t d k ∷ []) y → SeesMore seen (λ e. of_class e (event t d k ∷ [])) now →
      StandsOf p t M Outer Idle (standing fs (Some (completed d Normal))) own seen z → StandsOf p t M Outer Idle (standing fs None) (own ++ event t d k ∷ []) now y
  has_acted {fs = fs} {d = d} {seen = seen} k is body leads sees st =
      let facts = use_facts k is in
      acts (event t d k ∷ []) body refl leads (mine_still t d k sees (begun_classes fs) (facts.1 (label_of (seen d)) t) st.mine) (λ others. calm t d k sees facts.0 (λ e q. others e)) st

  module _ (goes : (c : ClassId) (xs w : List Event) (r : Outcome) (y z : M.State) → Outer c xs y → Word p t M y c w r z → Idle (Some (completed c r)) (xs ++ w) z) where
    -- in the innermost body
    pub reads_or_writes : {c d : ClassId} {fs : List Frame} {own : List Event} {seen now : ClassId → List Event} {y z : M.State} (k : Kind) → IsUse k → M.uses z d k y → SeesMore seen (λ e. of_class e (event t d k ∷ [])) now →
        StandsOf p t M Outer Idle (standing (frame c (Running true) ∷ fs) (Some (completed d Normal))) own seen z → StandsOf p t M Outer Idle (standing (frame c (Running true) ∷ fs) None) (own ++ event t d k ∷ []) now y
    reads_or_writes k is made sees st = has_acted k is tt (has_used p t M Outer Idle goes k is made st.leads) sees st

    -- a print there
    pub prints_one : {c : ClassId} {fs : List Frame} {last : Option Completed} {own : List Event} {seen : ClassId → List Event} {y z : M.State} (text : List ℕ) → GoesOn last → M.prints z last text y →
        StandsOf p t M Outer Idle (standing (frame c (Running true) ∷ fs) last) own seen z → StandsOf p t M Outer Idle (standing (frame c (Running true) ∷ fs) None) (own ++ printed t text ∷ []) seen y
    prints_one text on made st = acts (printed t text ∷ []) tt on (has_printed p t M Outer Idle goes text on made st.leads) st.mine (λ others. others) st

module _ (p : LinkedProgram) (t : ℕ) (M : Maker) (first : M.State) (m : ClassId) where
  -- main's body begins
  pub enters_main : {c : ClassId} {own : List Event} {seen : ClassId → List Event} {y z : M.State} → M.enters z m y → StandsBeforeMain p t M first m (standing [] (Some (completed c Normal))) own seen z → StandsInMain p t M first m (standing [] None) own seen y
  enters_main {own = own} {y = y} enters st = record {
    leads = by enters st.leads;
    files = tt;
    mine = tt;
    different = tt;
    waiting = λ e d. st.waiting refl d;
    used = λ d q. cc;
  } where
    by : {c : ClassId} {xs : List Event} {z : M.State} → M.enters z m y → LeadsOf p t M (BeforeMainOf p t M first m) (MainDoneOf p t M first m) (standing [] (Some (completed c Normal))) xs z → LeadsOf p t M (BeforeItemOf p t M first m) (MainItemsOf p t M first m) (standing [] None) xs y
    by enters (idle (main_done {w = w} x)) = idle (subst (λ xs. MainItemsOf p t M first m None xs y) (append-nil w) (main_items x enters no_items))

  -- a read or a write of a static field there
  pub main_reads_or_writes : {d : ClassId} {own : List Event} {seen now : ClassId → List Event} {y z : M.State} (k : Kind) → IsUse k → M.uses z d k y → SeesMore seen (λ e. of_class e (event t d k ∷ [])) now →
      StandsInMain p t M first m (standing [] (Some (completed d Normal))) own seen z → StandsInMain p t M first m (standing [] None) (own ++ event t d k ∷ []) now y
  main_reads_or_writes {d = d} {y = y} {z = z} k is made sees st = has_acted p t M (BeforeItemOf p t M first m) (MainItemsOf p t M first m) k is tt (by st.leads) sees st where
    by : {xs : List Event} → LeadsOf p t M (BeforeItemOf p t M first m) (MainItemsOf p t M first m) (standing [] (Some (completed d Normal))) xs z → LeadsOf p t M (BeforeItemOf p t M first m) (MainItemsOf p t M first m) (standing [] None) (xs ++ event t d k ∷ []) y
    by (idle (main_items x enters i)) = idle (simp append_assoc (main_items x enters (uses k is i made)))

  -- a print there
  pub main_prints : {last : Option Completed} {own : List Event} {seen : ClassId → List Event} {y z : M.State} (text : List ℕ) → GoesOn last → M.prints z last text y →
      StandsInMain p t M first m (standing [] last) own seen z → StandsInMain p t M first m (standing [] None) (own ++ printed t text ∷ []) seen y
  main_prints {y = y} {z = z} text on made st = acts p t M (BeforeItemOf p t M first m) (MainItemsOf p t M first m) (printed t text ∷ []) tt on (by on made st.leads) tt (λ others. others) st where
    by : {last : Option Completed} {xs : List Event} → GoesOn last → M.prints z last text y → LeadsOf p t M (BeforeItemOf p t M first m) (MainItemsOf p t M first m) (standing [] last) xs z → LeadsOf p t M (BeforeItemOf p t M first m) (MainItemsOf p t M first m) (standing [] None) (xs ++ printed t text ∷ []) y
    by on made (idle (main_items x enters i)) = idle (simp append_assoc (main_items x enters (prints text i on made)))

-- What one step of a thread's bodies leaves of where the thread stands.
use Rattle.std.proofs.Common.{◌≡◌, ℕ, List, [], ◌∷◌, ◌++◌, Option, Some, None, Bool, true, false, refl, subst, append-nil}
use Rattle.hierarchy.specs.declared.class.ClassId.{ClassId}
use Rattle.hierarchy.specs.LinkedProgram.{LinkedProgram}
use Rattle.init_core.specs.declared.event.Event.{Event}
use Rattle.init_core.specs.declared.event.Kind.{Kind}
use Rattle.init_core.specs.declared.event.Kind.TheVariants as kind
use Rattle.init_core.specs.declared.event.Label.{Label}
use Rattle.init_core.specs.declared.frames.Completed.{Completed}
use Rattle.init_core.specs.declared.frames.Ending.{Ending}
use Rattle.init_core.specs.declared.frames.Frame.{Frame}
use Rattle.init_core.specs.declared.frames.Outcome.{Outcome}
use Rattle.init_core.specs.declared.frames.Outcome.TheVariants.{Normal, Abrupt, Ended}
use Rattle.init_core.specs.declared.frames.Phase.TheVariants.{Looking, Running, EndingBy}
use Rattle.init_core.specs.Advance.{FitsBody, requested}
use Rattle.init_core.specs.Decisions.{event}
use Rattle.init_core.specs.Interleaving.{of_class}
use Rattle.init_core.specs.Lawful.{Allows, MayUse}
use Rattle.init_core.specs.Leads.{frame, standing, LeadsOf, LeadsTo, running, looking, used as used_in}
use Rattle.init_core.specs.ProcedureWord.{Word, ThreadWordOf, GoesOn, IsOfFiles, IsUse, completed, ended_by, given_up, printed}
use Rattle.init_core.specs.Stands.{SeesMore}
use Rattle.init_core.proofs.Doing.{reads_or_writes, prints_one, main_reads_or_writes, main_prints}
use Rattle.init_core.proofs.Knowing.{requests_one}
use Rattle.init_core.proofs.Leading.{MakesEnd}
use Rattle.init_core.proofs.Mains.{goes_main_of, goes_item_of, item_is_requested, ends_main, main_is_ended, end_leads_of, item_end_leads}
use Rattle.bodies.specs.declared.does.Does.TheVariants as does
use Rattle.bodies.specs.Making.{Making, HasCome, maker_of}
use Rattle.bodies.specs.ThreadStands.{OutsideOf, NoneOpenOf, ThreadStands}
use Rattle.bodies.proofs.Asking.{IsBodyAt, of_main, of_class as of_a_class}

-- where a class may be used it may be read and written
pub allows_use : (l : Label) (t : ℕ) (k : Kind) → IsUse k → MayUse t l → Allows l t k
allows_use l t (kind.Gets f v) is may = may
allows_use l t (kind.Puts f v) is may = may
allows_use l t kind.Waits is may = absurd is
allows_use l t kind.Recurs is may = absurd is
allows_use l t kind.FindsInitialized is may = absurd is
allows_use l t kind.FindsErroneous is may = absurd is
allows_use l t kind.Begins is may = absurd is
allows_use l t (kind.SuperFails e) is may = absurd is
allows_use l t kind.Runs is may = absurd is
allows_use l t kind.Completes is may = absurd is
allows_use l t (kind.Fails e) is may = absurd is
allows_use l t (kind.Prints x) is may = absurd is

not_true : {A : Type 0} → false ≡ true → A
not_true e = absurd cc

module _ {S : Type 0} (M : Making S) (p : LinkedProgram) (t : ℕ) (start : S) (main : ClassId) where
  -- the procedure for a class is completed outside of any class
  pub goes_of : (b : Bool) (c : ClassId) (xs w : List Event) (r : Outcome) (y z : S) → OutsideOf p t M start main b c xs y → Word p t (maker_of p M) y c w r z → NoneOpenOf p t M start main b (Some (completed c r)) (xs ++ w) z
  goes_of false = goes_main_of p t (maker_of p M) start main
  goes_of true = goes_item_of p t (maker_of p M) start main

  asks_in : (b : Bool) (c : ClassId) (fs : List Frame) (last : Option Completed) (own : List Event) (seen : ClassId → List Event) (y z : S) (d : ClassId) → GoesOn last → IsOfFiles p d → M.does y last (does.Asks d) z →
      ThreadStands p t M start main b (standing (frame c (Running true) ∷ fs) last) own seen y → ThreadStands p t M start main b (standing (frame d (Looking false) ∷ (frame c (Running true) ∷ fs)) None) own seen z
  asks_in b c fs last own seen y z d on within ask st = record {
    leads = by st.leads;
    files = ((within, tt), st.files);
    mine = st.mine;
    different = st.different;
    waiting = λ e x. st.waiting on x;
    used = λ x q. cc;
  } where
    by : {xs : List Event} → LeadsOf p t (maker_of p M) (OutsideOf p t M start main b) (NoneOpenOf p t M start main b) (standing (frame c (Running true) ∷ fs) last) xs y → LeadsOf p t (maker_of p M) (OutsideOf p t M start main b) (NoneOpenOf p t M start main b) (standing (frame d (Looking false) ∷ (frame c (Running true) ∷ fs)) None) xs z
    by (running waited around g starts i) = subst (λ ys. LeadsOf p t (maker_of p M) (OutsideOf p t M start main b) (NoneOpenOf p t M start main b) (standing (frame d (Looking false) ∷ (frame c (Running true) ∷ fs)) None) ys z) (append-nil _) (looking false (used_in waited around g starts i on within ask))

  -- an active use
  pub asks_one : (b : Bool) (fs : List Frame) (last : Option Completed) (own : List Event) (seen : ClassId → List Event) (y z : S) (d : ClassId) → IsBodyAt fs → (fs ≡ [] → b ≡ true) → GoesOn last → IsOfFiles p d → M.does y last (does.Asks d) z →
      ThreadStands p t M start main b (standing fs last) own seen y → ThreadStands p t M start main b (requested (standing fs last) d) own seen z
  asks_one false fs last own seen y z d of_main in_main on within ask st = not_true (in_main refl)
  asks_one true fs last own seen y z d of_main in_main on within ask st =
      requests_one p t (maker_of p M) (OutsideOf p t M start main true) (NoneOpenOf p t M start main true) (goes_of true) d tt on within ask (item_is_requested p t (maker_of p M) start main on within ask) st
  asks_one b fs last own seen y z d (of_a_class c gs) in_main on within ask st = asks_in b c gs last own seen y z d on within ask st

  -- a read or a write
  pub uses_one : (b : Bool) (fs : List Frame) (own : List Event) (seen now : ClassId → List Event) (y z : S) (d : ClassId) (j : Kind) → IsBodyAt fs → (fs ≡ [] → b ≡ true) → IsUse j → (maker_of p M).uses y d j z → SeesMore seen (λ e. of_class e (event t d j ∷ [])) now →
      ThreadStands p t M start main b (standing fs (Some (completed d Normal))) own seen y → ThreadStands p t M start main b (standing fs None) (own ++ event t d j ∷ []) now z
  uses_one false fs own seen now y z d j of_main in_main is made sees st = not_true (in_main refl)
  uses_one true fs own seen now y z d j of_main in_main is made sees st = main_reads_or_writes p t (maker_of p M) start main j is made sees st
  uses_one b fs own seen now y z d j (of_a_class c gs) in_main is made sees st = reads_or_writes p t (maker_of p M) (OutsideOf p t M start main b) (NoneOpenOf p t M start main b) (goes_of b) j is made sees st

  -- a print
  pub prints_at : (b : Bool) (fs : List Frame) (last : Option Completed) (own : List Event) (seen : ClassId → List Event) (y z : S) (text : List ℕ) → IsBodyAt fs → (fs ≡ [] → b ≡ true) → GoesOn last → M.does y last (does.Prints text) z →
      ThreadStands p t M start main b (standing fs last) own seen y → ThreadStands p t M start main b (standing fs None) (own ++ printed t text ∷ []) seen z
  prints_at false fs last own seen y z text of_main in_main on made st = not_true (in_main refl)
  prints_at true fs last own seen y z text of_main in_main on made st = main_prints p t (maker_of p M) start main text on made st
  prints_at b fs last own seen y z text (of_a_class c gs) in_main on made st = prints_one p t (maker_of p M) (OutsideOf p t M start main b) (NoneOpenOf p t M start main b) (goes_of b) text on made st

  -- the machine ends a body
  pub makes_ended : (last : Option Completed) (by : Option ClassId) (e : ClassId) (y z : S) → (u : S) × HasCome M y last u × M.is_ended u z → MakesEnd p (maker_of p M) last by (Ended e) y z
  makes_ended last None e y z h = h
  makes_ended last (Some x) e y z h = h

  -- and that of main
  pub stops_at : (last : Option Completed) (e : ClassId) (own : List Event) (y z : S) → FitsBody p (given_up last) (Ended e) → (u : S) × HasCome M y last u × M.is_ended u z →
      LeadsOf p t (maker_of p M) (OutsideOf p t M start main true) (NoneOpenOf p t M start main true) (standing [] last) own y → ThreadWordOf p t (maker_of p M) start main own (Ended e) z
  stops_at None e own y z fits made h = ends_main p t (maker_of p M) start main (Ended e) refl fits made h
  stops_at (Some d) e own y z fits made h = by d.class d.outcome fits made h where
    by : (c : ClassId) (r : Outcome) → FitsBody p (ended_by r) (Ended e) → (u : S) × HasCome M y (Some (completed c r)) u × M.is_ended u z →
        LeadsOf p t (maker_of p M) (OutsideOf p t M start main true) (NoneOpenOf p t M start main true) (standing [] (Some (completed c r))) own y → ThreadWordOf p t (maker_of p M) start main own (Ended e) z
    by c Normal fits made h = ends_main p t (maker_of p M) start main (Ended e) refl fits made h
    by c (Abrupt x) fits made h = ends_main p t (maker_of p M) start main (Ended e) refl fits made h
    by c (Ended x) fits made h = let same : x ≡ e = cc in subst (λ (v : ClassId). ThreadWordOf p t (maker_of p M) start main own (Ended v) z) same (main_is_ended p t (maker_of p M) start main made h)

  -- before the step that ends a class its events lead there whatever the bodies do
  pub end_leads_at : (b : Bool) {c : ClassId} {j : Ending} {by_machine : Bool} {fs : List Frame} {last : Option Completed} {xs : List Event} {z : S} → IsOfFiles p main → LeadsOf p t (maker_of p M) (OutsideOf p t M start main b) (NoneOpenOf p t M start main b) (standing (frame c (EndingBy j by_machine) ∷ fs) last) xs z →
      LeadsTo p t (standing (frame c (EndingBy j by_machine) ∷ fs) last) xs
  end_leads_at false within h = end_leads_of p t (maker_of p M) start main within h
  end_leads_at true within h = item_end_leads p t (maker_of p M) start main within h

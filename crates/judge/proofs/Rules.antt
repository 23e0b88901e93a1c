-- Which rule an event breaks, and what is answered at the end.
use Rattle.std.proofs.Common.{◌≡◌, ◌≢◌, ◌⊎◌, inl, inr, ℕ, zero, suc, ◌==◌, List, [], ◌∷◌, ◌++◌, Option, Some, None, MatchOption, slice_get, true, false, refl, sym, subst, append-nil, append_assoc, eq-eqb, map}
use Rattle.std.specs.Prelude.{Result, Ok, Err, IfOk, IfSome}
use Rattle.std.specs.declared.alloc.AllocError.{AllocError}
use Rattle.std.specs.Option.{option_map}
use Rattle.std.proofs.lemmas.Bool.Decides.{eqb_tells}
use Rattle.std.proofs.lemmas.Option.{slice_get-map}
use Rattle.hierarchy.specs.declared.class.ClassId.{ClassId}
use Rattle.hierarchy.specs.LinkedProgram.{LinkedProgram, id}
use Rattle.statics.specs.declared.static_field.StaticField.{StaticField}
use Rattle.statics.specs.Statics.{statics_of}
use Rattle.init_core.specs.declared.event.Event.{Event}
use Rattle.init_core.specs.declared.event.Kind.{Kind}
use Rattle.init_core.specs.ClassState.{State}
use Rattle.init_core.specs.Decisions.{event}
use Rattle.init_core.specs.Interleaving.{of_thread, of_class, IsLegal, BeginsLegal}
use Rattle.init_core.specs.Label.{label_of}
use Rattle.init_core.specs.Lawful.{Allows, Holds, AgreesAfter, AgreesWithLabels, HoldsAfter}
use Rattle.init_core.proofs.Labels.{lawful_push}
use Rattle.judge.specs.declared.judge.Judge.{Judge}
use Rattle.judge.specs.declared.reader.Reader.{Reader}
use Rattle.judge.specs.declared.readers.Readers.{Readers}
use Rattle.judge.specs.declared.verdict.Rule.{Rule}
use Rattle.judge.specs.declared.verdict.Rule.TheVariants as rule
use Rattle.judge.specs.Judged.{IsReadSoFar, IsReadToEnd}
use Rattle.judge.specs.Judging.{BreaksAt, AreStatesAfter, IsReaderAfter, AreReadersAfter, HasJudged, MayAllStop, opened}
use Rattle.judge.specs.Reading.{ReadsAll, nothing, opening, MayStop, IsReadAsWhole}
use Rattle.judge.specs.Verdicts.{ThreadsBegin, LabelsAgree, Breaks}
use Rattle.judge.proofs.Lists.{class_same, class_other}
use Rattle.judge.proofs.Parts.{legal_is_read, read_is_legal, read_is_beginning}
use Rattle.judge.proofs.States.{lawful_at}
use Rattle.judge.proofs.Threads.{leads_once, read_at, threads_begin}

last_agrees : (before h : List Event) (e : Event) → AgreesAfter before (h ++ e ∷ []) → Allows (label_of (before ++ h)) e.thread e.kind
last_agrees before [] e a = subst (λ (xs : List Event). Allows (label_of xs) e.thread e.kind) (sym (append-nil before)) a.0
last_agrees before (x ∷ h) e a = subst (λ (xs : List Event). Allows (label_of xs) e.thread e.kind) (append_assoc before (x ∷ []) h) (last_agrees (before ++ x ∷ []) h e a.1)

last_holds : (fields : List StaticField) (before h : List Event) (e : Event) → HoldsAfter fields before (h ++ e ∷ []) → Holds fields (before ++ h) e.kind
last_holds fields before [] e a = subst (λ (xs : List Event). Holds fields xs e.kind) (sym (append-nil before)) a.0
last_holds fields before (x ∷ h) e a = subst (λ (xs : List Event). Holds fields xs e.kind) (append_assoc before (x ∷ []) h) (last_holds fields (before ++ x ∷ []) h e a.1)

module _ (p : LinkedProgram) (mains : List ClassId) (h : List Event) where
  -- a rule of its class that an event breaks
  module _ (states : List State) (all : AreStatesAfter p states h) (t : ℕ) (c : ClassId) (k : Kind) where
    own_class : of_class c (h ++ event t c k ∷ []) ≡ of_class c h ++ event t c k ∷ []
    own_class = class_same h (event t c k) c (eq-eqb c.number c.number refl)

    labels_agree : Allows (label_of (of_class c h)) t k → LabelsAgree (h ++ event t c k ∷ [])
    labels_agree a d = by (eqb_tells c.number d.number)
      where
        here : AgreesWithLabels (of_class c (h ++ event t c k ∷ []))
        here = subst (λ (xs : List Event). AgreesWithLabels xs) (sym own_class) (lawful_push (of_class c h) (event t c k) (lawful_at p states h all c).labels a)

        by : (((c.number == d.number) ≡ true) × (c.number ≡ d.number)) ⊎ (((c.number == d.number) ≡ false) × (c.number ≢ d.number)) → AgreesWithLabels (of_class d (h ++ event t c k ∷ []))
        by (inl x) = subst (λ (n : ℕ). AgreesWithLabels (of_class (id n) (h ++ event t c k ∷ []))) x.1 here
        by (inr x) = subst (λ (xs : List Event). AgreesWithLabels xs) (sym (class_other h (event t c k) d x.0)) (lawful_at p states h all d).labels

    pub breaks_class : (r : Rule) → BreaksAt p c (of_class c h) t k r → ThreadsBegin p mains (h ++ event t c k ∷ []) → Breaks p mains r (h ++ event t c k ∷ [])
    breaks_class rule.Label never threads = (threads, λ agree. never (last_agrees [] (of_class c h) (event t c k) (subst (λ (xs : List Event). AgreesWithLabels xs) own_class (agree c))))
    breaks_class rule.Value never threads =
        (threads, labels_agree never.0, λ values. never.1 (last_holds (statics_of p c) [] (of_class c h) (event t c k) (subst (λ (xs : List Event). HoldsAfter (statics_of p c) [] xs) own_class (values c))))
    breaks_class rule.Word x threads = absurd x
    breaks_class rule.End x threads = absurd x

  module _ (j : Judge) (judged : HasJudged p mains j h) where
    so_far : IsReadSoFar p mains h
    so_far = record { threads = λ t. read_at p t (slice_get mains t) (slice_get j.readers.of_threads.items t) (of_thread t h) (judged.readers t); classes = lawful_at p j.classes.states.items h judged.classes }

    -- what was judged is the beginning of a legal interleaving
    pub begins_legal : BeginsLegal p mains h
    begins_legal = read_is_beginning p mains h so_far

    all_at : (rs : List Reader) (t : ℕ) (r : Reader) → MayAllStop rs → slice_get rs t ≡ Some r → MayStop r.procedures
    all_at [] t r all q = cc
    all_at (x ∷ rs) zero r all q = let same : x ≡ r = cc in subst (λ (z : Reader). MayStop z.procedures) same all.0
    all_at (x ∷ rs) (suc t) r all q = all_at rs t r all.1 q

    ended : (t : ℕ) (main : Option ClassId) (o : Option Reader) (xs : List Event) → ((r : Reader) → o ≡ Some r → MayStop r.procedures) → IsReaderAfter p t main o xs → MatchOption main (xs ≡ []) (λ m. IsReadAsWhole p t m xs)
    ended t (Some m) (Some r) xs may k = (r.begun, r.procedures, k, may r refl)
    ended t None None xs may k = k
    ended t (Some m) None xs may k = absurd k
    ended t None (Some r) xs may k = absurd k

    to_end : MayAllStop j.readers.of_threads.items → IsReadToEnd p mains h
    to_end all = record { threads = λ t. ended t (slice_get mains t) (slice_get j.readers.of_threads.items t) (of_thread t h) (λ r q. all_at j.readers.of_threads.items t r all q) (judged.readers t); classes = lawful_at p j.classes.states.items h judged.classes }

    -- where all threads may stop it is a legal interleaving
    pub is_legal : MayAllStop j.readers.of_threads.items → IsLegal p mains h
    is_legal all = read_is_legal p mains h (to_end all)

    stops : (t : ℕ) (main : Option ClassId) (o : Option Reader) (r : Reader) (xs : List Event) → o ≡ Some r → IsReaderAfter p t main o xs → MatchOption main (xs ≡ []) (λ m. IsReadAsWhole p t m xs) → MayStop r.procedures
    stops t (Some m) (Some x) r xs q k w =
        let same : x ≡ r = cc in
        let k2 : ReadsAll p t false (opening m) xs r.begun r.procedures = subst (λ (z : Reader). ReadsAll p t false (opening m) xs z.begun z.procedures) same k in
        subst MayStop (leads_once p t w.2 k2).1 w.3
    stops t (Some m) None r xs q k w = cc
    stops t None None r xs q k w = cc
    stops t None (Some x) r xs q k w = absurd k

    all_stop : (rs : List Reader) → ((t : ℕ) (r : Reader) → slice_get rs t ≡ Some r → MayStop r.procedures) → MayAllStop rs
    all_stop [] k = tt
    all_stop (r ∷ rs) k = (k 0 r refl, all_stop rs (λ t u q. k (suc t) u q))

    -- and else it is none
    pub may_stop_all : IsLegal p mains h → MayAllStop j.readers.of_threads.items
    may_stop_all legal = let whole = legal_is_read p mains h legal in all_stop j.readers.of_threads.items (λ t r q. stops t (slice_get mains t) (slice_get j.readers.of_threads.items t) r (of_thread t h) q (judged.readers t) (whole.threads t))

-- before the first event
pub opened_readers : (p : LinkedProgram) (mains : List ClassId) (readers : List Reader) → readers ≡ map opened mains → AreReadersAfter p mains readers []
opened_readers p mains readers q t = subst (λ (rs : List Reader). IsReaderAfter p t (slice_get mains t) (slice_get rs t) []) (sym q) (subst (λ (o : Option Reader). IsReaderAfter p t (slice_get mains t) o []) (sym (slice_get-map opened mains t)) (by (slice_get mains t)))
  where
    by : (main : Option ClassId) → IsReaderAfter p t main (option_map opened main) []
    by (Some m) = nothing
    by None = refl

pub nothing_judged : (p : LinkedProgram) (mains : List ClassId) (j : Judge) → j.readers.of_threads.items ≡ map opened mains → j.classes.states.items ≡ [] → HasJudged p mains j []
nothing_judged p mains j readers none = record {
  readers = opened_readers p mains j.readers.of_threads.items readers;
  classes = record { each = λ n s at. absurd (let nowhere : slice_get [] n ≡ Some s = subst (λ (ss : List State). slice_get ss n ≡ Some s) none at in cc); beyond = λ c past. refl };
}

-- an event that its thread's reader reads, and that breaks a rule of its class
pub class_breaks_rule : (p : LinkedProgram) (j : Judge) (read : Readers) (t : ℕ) (c : ClassId) (k : Kind) (result : Result (Option Rule) AllocError) →
    ((mains : List ClassId) (h : List Event) → AreReadersAfter p mains j.readers.of_threads.items h → AreReadersAfter p mains read.of_threads.items (h ++ event t c k ∷ [])) →
    IfOk result (λ r. IfSome r (λ x. (events : List Event) → AreStatesAfter p j.classes.states.items events → BreaksAt p c (of_class c events) t k x)) →
    IfOk result (λ r. IfSome r (λ x. (mains : List ClassId) (h : List Event) → HasJudged p mains j h → Breaks p mains x (h ++ event t c k ∷ [])))
class_breaks_rule p j read t c k (Ok (Some x)) reads breaks = λ mains h judged.
    breaks_class p mains h j.classes.states.items judged.classes t c k x (breaks h judged.classes) (threads_begin p mains read.of_threads.items (h ++ event t c k ∷ []) (reads mains h judged.readers))
class_breaks_rule p j read t c k (Ok None) reads breaks = tt
class_breaks_rule p j read t c k (Err e) reads breaks = tt

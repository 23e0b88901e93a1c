-- The states of classes after one event more.
use Rattle.std.proofs.Common.{◌≡◌, ◌≢◌, ◌⊎◌, inl, inr, ℕ, ◌<◌, ◌≤◌, ◌==◌, ◌+◌, length, List, [], ◌∷◌, ◌++◌, Option, Some, None, slice_get, set, true, false, refl, sym, ap, subst, arith, eq-eqb, ◌∙◌}
use Rattle.std.specs.Prelude.{IfSome, slice_index_or}
use Rattle.std.specs.Option.{option_map}
use Rattle.std.proofs.lemmas.Bool.Decides.{eqb_tells}
use Rattle.std.proofs.lemmas.Option.{slice_get_within, slice_get_read}
use Rattle.std.proofs.lemmas.List.{length-append, length-set}
use Rattle.hierarchy.specs.declared.class.ClassId.{ClassId}
use Rattle.hierarchy.specs.declared.value.Value.{Value}
use Rattle.hierarchy.specs.LinkedProgram.{LinkedProgram, id}
use Rattle.hierarchy.proofs.Searches.{length-get_none}
use Rattle.statics.specs.declared.static_field.StaticField.{StaticField}
use Rattle.statics.specs.Statics.{statics_of}
use Rattle.init_core.specs.declared.event.Event.{Event}
use Rattle.init_core.specs.declared.event.Kind.{Kind}
use Rattle.init_core.specs.declared.event.Kind.TheVariants as kind
use Rattle.init_core.specs.ClassState.{State, IsStateOf, AreHeld, stepped, next_label, next_values}
use Rattle.init_core.specs.Decisions.{event}
use Rattle.init_core.specs.Interleaving.{of_class}
use Rattle.init_core.specs.Label.{label_of}
use Rattle.init_core.specs.Lawful.{Allows, Holds, IsLawful}
use Rattle.init_core.specs.StaticValue.{held_by}
use Rattle.init_core.proofs.Labels.{label_after}
use Rattle.init_core.proofs.Values.{still_held, held_begun, held_put, lawful_more}
use Rattle.judge.specs.declared.verdict.Rule.{Rule}
use Rattle.judge.specs.declared.verdict.Rule.TheVariants as rule
use Rattle.judge.specs.Judging.{HoldsNow, IsStateAfter, BreaksAt, AreStatesAfter}
use Rattle.judge.proofs.Lists.{get_set_same, get_set_other, get_more, class_same, class_other}

-- ---- one class

within_held : (fields : List StaticField) (place : ℕ) (h : List Event) (v : Value) → option_map (held_by place h) (slice_get fields place) ≡ Some v → place < length fields
within_held fields place h v q = at (slice_get fields place) refl
  where
    at : (o : Option StaticField) → slice_get fields place ≡ o → place < length fields
    at (Some f) e = slice_get_within fields place f e
    at None e = let n : option_map (held_by place h) None ≡ Some v = rw e at q in cc

-- what is tested of the values is what they are to be
holds_now : (fields : List StaticField) (values : List Value) (h : List Event) (k : Kind) → AreHeld fields values h → HoldsNow fields values k → Holds fields h k
holds_now fields values h (kind.Gets place v) held x = sym (held place) ∙ x.1
holds_now fields values h (kind.Puts place v) held x = x
holds_now fields values h kind.Waits held x = tt
holds_now fields values h kind.Recurs held x = tt
holds_now fields values h kind.FindsInitialized held x = tt
holds_now fields values h kind.FindsErroneous held x = tt
holds_now fields values h kind.Begins held x = tt
holds_now fields values h (kind.SuperFails e) held x = tt
holds_now fields values h kind.Runs held x = tt
holds_now fields values h kind.Completes held x = tt
holds_now fields values h (kind.Fails e) held x = tt
holds_now fields values h (kind.Prints text) held x = tt

is_held_now : (fields : List StaticField) (values : List Value) (h : List Event) (k : Kind) → AreHeld fields values h → Holds fields h k → HoldsNow fields values k
is_held_now fields values h (kind.Gets place v) held x = (within_held fields place h v x, held place ∙ x)
is_held_now fields values h (kind.Puts place v) held x = x
is_held_now fields values h kind.Waits held x = tt
is_held_now fields values h kind.Recurs held x = tt
is_held_now fields values h kind.FindsInitialized held x = tt
is_held_now fields values h kind.FindsErroneous held x = tt
is_held_now fields values h kind.Begins held x = tt
is_held_now fields values h (kind.SuperFails e) held x = tt
is_held_now fields values h kind.Runs held x = tt
is_held_now fields values h kind.Completes held x = tt
is_held_now fields values h (kind.Fails e) held x = tt
is_held_now fields values h (kind.Prints text) held x = tt

module _ (p : LinkedProgram) (c : ClassId) (s : State) (h : List Event) (t : ℕ) (k : Kind) (st : IsStateAfter p c s h) where
  own_holds : HoldsNow s.fields s.values k → Holds (statics_of p c) h k
  own_holds x = subst (λ (fs : List StaticField). Holds fs h k) st.fields (holds_now s.fields s.values h k st.values x)

  pub breaks_label : (Allows s.label t k → ⊥) → BreaksAt p c h t k rule.Label
  breaks_label never a = never (subst (λ l. Allows l t k) (sym st.label) a)

  pub breaks_value : Allows s.label t k → (HoldsNow s.fields s.values k → ⊥) → BreaksAt p c h t k rule.Value
  breaks_value a never = (subst (λ l. Allows l t k) st.label a, λ x. never (is_held_now s.fields s.values h k st.values (subst (λ (fs : List StaticField). Holds fs h k) (sym st.fields) x)))

values_after : (p : LinkedProgram) (c : ClassId) (s : State) (h : List Event) (t : ℕ) (k : Kind) → IsStateAfter p c s h → Allows s.label t k → HoldsNow s.fields s.values k → AreHeld s.fields (next_values s.fields s.values k) (h ++ event t c k ∷ [])
values_after p c s h t kind.Begins st a x = held_begun s.fields s.values h t c st.lawful.labels (sym st.label ∙ a) st.values
values_after p c s h t (kind.Puts place v) st a x = held_put s.fields s.values h t c place v x st.values
values_after p c s h t kind.Waits st a x = still_held s.fields s.values h (event t c kind.Waits) tt st.values
values_after p c s h t kind.Recurs st a x = still_held s.fields s.values h (event t c kind.Recurs) tt st.values
values_after p c s h t kind.FindsInitialized st a x = still_held s.fields s.values h (event t c kind.FindsInitialized) tt st.values
values_after p c s h t kind.FindsErroneous st a x = still_held s.fields s.values h (event t c kind.FindsErroneous) tt st.values
values_after p c s h t (kind.SuperFails e) st a x = still_held s.fields s.values h (event t c (kind.SuperFails e)) tt st.values
values_after p c s h t kind.Runs st a x = still_held s.fields s.values h (event t c kind.Runs) tt st.values
values_after p c s h t kind.Completes st a x = still_held s.fields s.values h (event t c kind.Completes) tt st.values
values_after p c s h t (kind.Fails e) st a x = still_held s.fields s.values h (event t c (kind.Fails e)) tt st.values
values_after p c s h t (kind.Gets place v) st a x = still_held s.fields s.values h (event t c (kind.Gets place v)) tt st.values
values_after p c s h t (kind.Prints text) st a x = still_held s.fields s.values h (event t c (kind.Prints text)) tt st.values

-- an event that breaks no rule
pub state_after : (p : LinkedProgram) (c : ClassId) (s : State) (h : List Event) (t : ℕ) (k : Kind) → IsStateAfter p c s h → Allows s.label t k → HoldsNow s.fields s.values k → IsStateAfter p c (stepped s t k) (h ++ event t c k ∷ [])
state_after p c s h t k st a x =
    let ok : Allows (label_of h) t k = subst (λ l. Allows l t k) st.label a in
    record {
      class = st.class;
      fields = st.fields;
      label = ap (λ l. next_label l t k) st.label ∙ sym (label_after h (event t c k) ok);
      values = values_after p c s h t k st a x;
      lawful = lawful_more (statics_of p c) h (event t c k) st.lawful ok (own_holds p c s h t k st x);
    }

-- ---- all classes

module _ (p : LinkedProgram) (states : List State) (h : List Event) (all : AreStatesAfter p states h) where
  -- each history is lawful
  pub lawful_at : (c : ClassId) → IsLawful (statics_of p c) (of_class c h)
  lawful_at c = at (slice_get states c.number) refl
    where
      at : (o : Option State) → slice_get states c.number ≡ o → IsLawful (statics_of p c) (of_class c h)
      at (Some s) q = (all.each c.number s q).lawful
      at None q = subst (λ (xs : List Event). IsLawful (statics_of p c) xs) (sym (all.beyond c (length-get_none states c.number (sym q)))) (record { labels = tt; values = tt })

  -- an event of never class
  pub classless : (e : Event) → e.class ≡ None → AreStatesAfter p states (h ++ e ∷ [])
  classless e q = record {
    each = λ n s at. subst (λ (xs : List Event). IsStateAfter p (id n) s xs) (sym (class_other h e (id n) (rw q refl))) (all.each n s at);
    beyond = λ c past. class_other h e c (rw q refl) ∙ all.beyond c past;
  }

  -- one class more, which is prepared
  pub one_more : (s : State) → s.class ≡ id (length states) → s.fields ≡ statics_of p (id (length states)) → IsStateOf s [] → AreStatesAfter p (states ++ s ∷ []) h
  one_more s class fields st = record {
    each = λ n u at. by n u (get_more states n s u at);
    beyond = λ c past. all.beyond c (let l : length (states ++ s ∷ []) ≡ length states + 1 = length-append states (s ∷ []) in omega (arith, past, l));
  }
    where
      none : of_class (id (length states)) h ≡ []
      none = all.beyond (id (length states)) (omega arith)

      here : IsStateAfter p (id (length states)) s (of_class (id (length states)) h)
      here = subst (λ (xs : List Event). IsStateAfter p (id (length states)) s xs) (sym none) (record { class = class; fields = fields; label = st.label; values = st.values; lawful = record { labels = tt; values = tt } })

      by : (n : ℕ) (u : State) → (slice_get states n ≡ Some u) ⊎ ((n ≡ length states) × (s ≡ u)) → IsStateAfter p (id n) u (of_class (id n) h)
      by n u (inl q) = all.each n u q
      by n u (inr q) = subst (λ (v : State). IsStateAfter p (id n) v (of_class (id n) h)) q.1 (subst (λ (m : ℕ). IsStateAfter p (id m) s (of_class (id m) h)) (sym q.0) here)

  -- an event of a class whose state is there
  pub one_stepped : (t : ℕ) (c : ClassId) (k : Kind) (s new : State) → slice_get states c.number ≡ Some s → IsStateAfter p c new (of_class c h ++ event t c k ∷ []) → AreStatesAfter p (set states c.number new) (h ++ event t c k ∷ [])
  one_stepped t c k s new at after = record {
    each = λ n u q. by n u q (eqb_tells c.number n);
    beyond = λ d past. far d (eqb_tells c.number d.number) (let l : length (set states c.number new) ≡ length states = length-set states c.number new in omega (arith, past, l));
  }
    where
      here : of_class c (h ++ event t c k ∷ []) ≡ of_class c h ++ event t c k ∷ []
      here = class_same h (event t c k) c (eq-eqb c.number c.number refl)

      by : (n : ℕ) (u : State) → slice_get (set states c.number new) n ≡ Some u → (((c.number == n) ≡ true) × (c.number ≡ n)) ⊎ (((c.number == n) ≡ false) × (c.number ≢ n)) → IsStateAfter p (id n) u (of_class (id n) (h ++ event t c k ∷ []))
      by n u q (inl x) =
          let own : slice_get (set states c.number new) c.number ≡ Some new = get_set_same states c.number new s at in
          let q2 : slice_get (set states c.number new) c.number ≡ Some u = subst (λ (m : ℕ). slice_get (set states c.number new) m ≡ Some u) (sym x.1) q in
          let both : Some new ≡ Some u = sym own ∙ q2 in
          let same : new ≡ u = cc in
          let a : IsStateAfter p c new (of_class c (h ++ event t c k ∷ [])) = subst (λ (xs : List Event). IsStateAfter p c new xs) (sym here) after in
          subst (λ (m : ℕ). IsStateAfter p (id m) u (of_class (id m) (h ++ event t c k ∷ []))) x.1 (subst (λ (v : State). IsStateAfter p c v (of_class c (h ++ event t c k ∷ []))) same a)
      by n u q (inr x) =
          let was : slice_get states n ≡ Some u = sym (get_set_other states c.number n new x.1) ∙ q in
          subst (λ (xs : List Event). IsStateAfter p (id n) u xs) (sym (class_other h (event t c k) (id n) x.0)) (all.each n u was)

      far : (d : ClassId) → (((c.number == d.number) ≡ true) × (c.number ≡ d.number)) ⊎ (((c.number == d.number) ≡ false) × (c.number ≢ d.number)) → length states ≤ d.number → of_class d (h ++ event t c k ∷ []) ≡ []
      far d (inl x) past = let within : c.number < length states = slice_get_within states c.number s at in absurd (let y : c.number ≡ d.number = x.1 in omega (arith, within, past, y))
      far d (inr x) past = class_other h (event t c k) d x.0 ∙ all.beyond d past

-- an event of a class that breaks no rule
pub class_stepped : (p : LinkedProgram) (states : List State) (h : List Event) → AreStatesAfter p states h → (t : ℕ) (c : ClassId) (k : Kind) (s new : State) → c.number < length states → s ≡ slice_index_or states c.number s →
    (IsStateAfter p c s (of_class c h) → IsStateAfter p c new (of_class c h ++ event t c k ∷ [])) → AreStatesAfter p (set states c.number new) (h ++ event t c k ∷ [])
class_stepped p states h all t c k s new within value step =
    let at : slice_get states c.number ≡ Some s = slice_get_read states (length states) c.number s refl within value in
    one_stepped p states h all t c k s new at (step (all.each c.number s at))

-- and of one that breaks one
pub class_breaks : (p : LinkedProgram) (before states : List State) (t : ℕ) (c : ClassId) (k : Kind) (s : State) (r : Option Rule) → c.number < length states → s ≡ slice_index_or states c.number s →
    ((events : List Event) → AreStatesAfter p before events → AreStatesAfter p states events) → IfSome r (λ x. (q : LinkedProgram) (d : ClassId) (h : List Event) → IsStateAfter q d s h → BreaksAt q d h t k x) →
    IfSome r (λ x. (events : List Event) → AreStatesAfter p before events → BreaksAt p c (of_class c events) t k x)
class_breaks p before states t c k s None within value grown breaks = tt
class_breaks p before states t c k s (Some x) within value grown breaks = λ events h.
    let at : slice_get states c.number ≡ Some s = slice_get_read states (length states) c.number s refl within value in
    breaks p c (of_class c events) ((grown events h).each c.number s at)

-- What static fields hold is the same with the events that are drawn under no lock, and without them.
use Rattle.std.proofs.Common.{◌≡◌, ℕ, List, [], ◌∷◌, ◌++◌, Option, Some, None, Bool, true, false, cond, reverse, eqb, refl, sym, subst, ap, ◌∙◌, append-nil}
use Rattle.std.specs.List.{find}
use Rattle.std.specs.Option.{option_map, option_or}
use Rattle.std.proofs.lemmas.List.{reverse-append}
use Rattle.std.proofs.lemmas.List.Folds.{find-append}
use Rattle.std.specs.Prelude.{slice_get}
use Rattle.hierarchy.specs.declared.class.ClassId.{ClassId}
use Rattle.statics.specs.declared.static_field.StaticField.{StaticField}
use Rattle.init_core.specs.declared.event.Event.{Event}
use Rattle.init_core.specs.declared.event.Kind.{Kind}
use Rattle.init_core.specs.declared.event.Kind.TheVariants as kind
use Rattle.init_core.specs.Label.{is_beginning}
use Rattle.init_core.specs.Lawful.{Holds, HoldsAfter}
use Rattle.init_core.specs.StaticValue.{is_put_of, held_by, value_of}
use Rattle.init_core.specs.Interleaving.{is_class}
use Rattle.init_lock.specs.Log.{is_at, events_at}
use Rattle.init_lock.proofs.Logs.{events-append}
use Rattle.guest_threads.specs.Drawing.{MayDraw, IsUnplaced}
use Rattle.guest_threads.proofs.Merged.{Log, Fair, about, about-append}

-- two lists in which a static field was written last alike, and begun alike
pub record IsLike (A B : List Event) : Type 0 where
  pub puts : (place : ℕ) → find (is_put_of place) (reverse A) ≡ find (is_put_of place) (reverse B)
  pub begun : find is_beginning A ≡ find is_beginning B

or_none : {X : Type 0} (o : Option X) → option_or o None ≡ o
or_none None = refl
or_none (Some x) = refl

put_more : (place : ℕ) (A : List Event) (x : Event) → find (is_put_of place) (reverse (A ++ x ∷ [])) ≡ cond (is_put_of place x) (Some x) (find (is_put_of place) (reverse A))
put_more place A x = ap (λ (z : List Event). find (is_put_of place) z) (reverse-append A (x ∷ []))

begun_more : (A : List Event) (x : Event) → find is_beginning (A ++ x ∷ []) ≡ option_or (find is_beginning A) (find is_beginning (x ∷ []))
begun_more A x = find-append is_beginning A (x ∷ [])

like_both : (A B : List Event) (x : Event) → IsLike A B → IsLike (A ++ x ∷ []) (B ++ x ∷ [])
like_both A B x h = record {
  puts = λ place. put_more place A x ∙ (ap (λ (z : Option Event). cond (is_put_of place x) (Some x) z) (h.puts place) ∙ sym (put_more place B x));
  begun = begun_more A x ∙ (ap (λ (z : Option Event). option_or z (find is_beginning (x ∷ []))) h.begun ∙ sym (begun_more B x));
}

-- an event that writes and begins nothing
abbrev IsIdle : Event → Type 0
IsIdle x = ((place : ℕ) → is_put_of place x ≡ false) × (is_beginning x ≡ false)

like_one : (A B : List Event) (x : Event) → IsIdle x → IsLike A B → IsLike (A ++ x ∷ []) B
like_one A B x i h = record {
  puts = λ place. put_more place A x ∙ (ap (λ (b : Bool). cond b (Some x) (find (is_put_of place) (reverse A))) (i.0 place) ∙ h.puts place);
  begun = begun_more A x ∙ (ap (λ (b : Bool). option_or (find is_beginning A) (cond b (Some x) None)) i.1 ∙ (or_none (find is_beginning A) ∙ h.begun));
}

idle_by : (o : Option ClassId) (k : Kind) (t : ℕ) → IsUnplaced o k → IsIdle (record { thread = t; class = o; kind = k })
idle_by (Some c) kind.Runs t u = ((λ place. refl), refl)
idle_by None (kind.Prints x) t u = ((λ place. refl), refl)
idle_by (Some c) kind.FindsInitialized t u = ((λ place. refl), refl)
idle_by (Some c) kind.Waits t u = absurd u
idle_by (Some c) kind.Recurs t u = absurd u
idle_by (Some c) kind.FindsErroneous t u = absurd u
idle_by (Some c) kind.Begins t u = absurd u
idle_by (Some c) kind.Completes t u = absurd u
idle_by (Some c) (kind.SuperFails x) t u = absurd u
idle_by (Some c) (kind.Fails x) t u = absurd u
idle_by (Some c) (kind.Gets f v) t u = absurd u
idle_by (Some c) (kind.Puts f v) t u = absurd u
idle_by (Some c) (kind.Prints x) t u = absurd u
idle_by None kind.Runs t u = absurd u
idle_by None kind.FindsInitialized t u = absurd u
idle_by None kind.Waits t u = absurd u
idle_by None kind.Recurs t u = absurd u
idle_by None kind.FindsErroneous t u = absurd u
idle_by None kind.Begins t u = absurd u
idle_by None kind.Completes t u = absurd u
idle_by None (kind.SuperFails x) t u = absurd u
idle_by None (kind.Fails x) t u = absurd u
idle_by None (kind.Gets f v) t u = absurd u
idle_by None (kind.Puts f v) t u = absurd u

-- such an event reads nothing either
holds_by : (fields : List StaticField) (A : List Event) (o : Option ClassId) (k : Kind) → IsUnplaced o k → Holds fields A k
holds_by fields A (Some c) kind.Runs u = tt
holds_by fields A None (kind.Prints x) u = tt
holds_by fields A (Some c) kind.FindsInitialized u = tt
holds_by fields A (Some c) kind.Waits u = absurd u
holds_by fields A (Some c) kind.Recurs u = absurd u
holds_by fields A (Some c) kind.FindsErroneous u = absurd u
holds_by fields A (Some c) kind.Begins u = absurd u
holds_by fields A (Some c) kind.Completes u = absurd u
holds_by fields A (Some c) (kind.SuperFails x) u = absurd u
holds_by fields A (Some c) (kind.Fails x) u = absurd u
holds_by fields A (Some c) (kind.Gets f v) u = absurd u
holds_by fields A (Some c) (kind.Puts f v) u = absurd u
holds_by fields A (Some c) (kind.Prints x) u = absurd u
holds_by fields A None kind.Runs u = absurd u
holds_by fields A None kind.FindsInitialized u = absurd u
holds_by fields A None kind.Waits u = absurd u
holds_by fields A None kind.Recurs u = absurd u
holds_by fields A None kind.FindsErroneous u = absurd u
holds_by fields A None kind.Begins u = absurd u
holds_by fields A None kind.Completes u = absurd u
holds_by fields A None (kind.SuperFails x) u = absurd u
holds_by fields A None (kind.Fails x) u = absurd u
holds_by fields A None (kind.Gets f v) u = absurd u
holds_by fields A None (kind.Puts f v) u = absurd u

map_like : {X Y : Type 0} (f g : X → Y) (o : Option X) → ((x : X) → f x ≡ g x) → option_map f o ≡ option_map g o
map_like f g None h = refl
map_like f g (Some x) h = ap Some (h x)

held_like : (A B : List Event) (place : ℕ) (f : StaticField) → IsLike A B → held_by place A f ≡ held_by place B f
held_like A B place f h = rw (h.puts place, h.begun) refl

value_like : (fields : List StaticField) (A B : List Event) (place : ℕ) → IsLike A B → value_of fields place A ≡ value_of fields place B
value_like fields A B place h = map_like (held_by place A) (held_by place B) (slice_get fields place) (λ f. held_like A B place f h)

holds_like : (fields : List StaticField) (A B : List Event) (k : Kind) → IsLike A B → Holds fields B k → Holds fields A k
holds_like fields A B (kind.Gets place v) h x = value_like fields A B place h ∙ x
holds_like fields A B (kind.Puts place v) h x = x
holds_like fields A B kind.Waits h x = tt
holds_like fields A B kind.Recurs h x = tt
holds_like fields A B kind.FindsInitialized h x = tt
holds_like fields A B kind.FindsErroneous h x = tt
holds_like fields A B kind.Begins h x = tt
holds_like fields A B (kind.SuperFails e) h x = tt
holds_like fields A B kind.Runs h x = tt
holds_like fields A B kind.Completes h x = tt
holds_like fields A B (kind.Fails e) h x = tt
holds_like fields A B (kind.Prints e) h x = tt

-- one entry: the class's part P of what comes has the event or not, and so has the place's part Q
module _ (fields : List StaticField) where
  held_both : (b : Bool) (x : Event) (A B P Q : List Event) → IsLike A B → (IsLike (A ++ cond b (x ∷ []) []) (B ++ cond b (x ∷ []) []) → HoldsAfter fields (B ++ cond b (x ∷ []) []) Q → HoldsAfter fields (A ++ cond b (x ∷ []) []) P) → HoldsAfter fields B (cond b (x ∷ Q) Q) → HoldsAfter fields A (cond b (x ∷ P) P)
  held_both true x A B P Q h go l = (holds_like fields A B x.kind h l.0, go (like_both A B x h) l.1)
  held_both false x A B P Q h go l = subst (λ (z : List Event). HoldsAfter fields z P) (append-nil A) (go (subst (λ (z : List Event). IsLike (A ++ []) z) (sym (append-nil B)) (subst (λ (z : List Event). IsLike z B) (sym (append-nil A)) h)) (subst (λ (z : List Event). HoldsAfter fields z Q) (sym (append-nil B)) l))

  held_skip : (b : Bool) (x : Event) (A B P Q : List Event) → IsIdle x → Holds fields A x.kind → IsLike A B → (IsLike (A ++ cond b (x ∷ []) []) B → HoldsAfter fields B Q → HoldsAfter fields (A ++ cond b (x ∷ []) []) P) → HoldsAfter fields B Q → HoldsAfter fields A (cond b (x ∷ P) P)
  held_skip true x A B P Q i n h go l = (n, go (like_one A B x i h) l)
  held_skip false x A B P Q i n h go l = subst (λ (z : List Event). HoldsAfter fields z P) (append-nil A) (go (subst (λ (z : List Event). IsLike z B) (sym (append-nil A)) h) l)

  held_entry : (c : ClassId) (k : ℕ) (place : Option ℕ) (x : Event) (A B P Q : List Event) → MayDraw k place x → IsLike A B →
      (IsLike (A ++ cond (is_class c x.class) (x ∷ []) []) (B ++ cond (is_at c.number place) (x ∷ []) []) → HoldsAfter fields (B ++ cond (is_at c.number place) (x ∷ []) []) Q → HoldsAfter fields (A ++ cond (is_class c x.class) (x ∷ []) []) P) →
      HoldsAfter fields B (cond (is_at c.number place) (x ∷ Q) Q) → HoldsAfter fields A (cond (is_class c x.class) (x ∷ P) P)
  held_entry c k None x A B P Q m h go l =
      held_skip (is_class c x.class) x A B P Q (idle_by x.class x.kind x.thread m.1) (holds_by fields A x.class x.kind m.1) h
      (λ y z. go (subst (λ (w : List Event). IsLike (A ++ cond (is_class c x.class) (x ∷ []) []) w) (sym (append-nil B)) y) (subst (λ (w : List Event). HoldsAfter fields w Q) (sym (append-nil B)) z)) l
  held_entry c k (Some n) x A B P Q m h go l =
      let is : is_class c x.class ≡ eqb n c.number = ap (λ (z : Option ClassId). is_class c z) m.1 in
      subst (λ (z : Bool). HoldsAfter fields A (cond z (x ∷ P) P)) (sym is)
      (held_both (eqb n c.number) x A B P Q h (λ y z. subst (λ (w : Bool). HoldsAfter fields (A ++ cond w (x ∷ []) []) P) is (go (subst (λ (w : Bool). IsLike (A ++ cond w (x ∷ []) []) (B ++ cond (eqb n c.number) (x ∷ []) [])) (sym is) y) z)) l)

  -- reads and writes agree with what the fields hold at each class where they do at its place
  pub values_about : (threads places : ℕ) (c : ClassId) (before rest : Log) → Fair threads places rest → IsLike (about c before) (events_at c.number before) → HoldsAfter fields (events_at c.number before) (events_at c.number rest) → HoldsAfter fields (about c before) (about c rest)
  values_about threads places c before [] f h l = tt
  values_about threads places c before (e ∷ es) f h l =
      let a : about c (before ++ e ∷ []) ≡ about c before ++ about c (e ∷ []) = about-append c before (e ∷ []) in
      let b : events_at c.number (before ++ e ∷ []) ≡ events_at c.number before ++ events_at c.number (e ∷ []) = events-append c.number before (e ∷ []) in
      held_entry c e.by e.place e.event (about c before) (events_at c.number before) (about c es) (events_at c.number es) f.2 h
      (λ y z. subst (λ (w : List Event). HoldsAfter fields w (about c es)) a
      (values_about threads places c (before ++ e ∷ []) es f.3
      (subst (λ (w : List Event). IsLike w (events_at c.number (before ++ e ∷ []))) (sym a) (subst (λ (w : List Event). IsLike (about c before ++ about c (e ∷ [])) w) (sym b) y))
      (subst (λ (w : List Event). HoldsAfter fields w (events_at c.number es)) (sym b) z)))
      l

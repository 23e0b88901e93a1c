-- What is read of a static field is a value of the field, where its constant is and all that was written in it.
use Rattle.std.proofs.Common.{◌≡◌, ℕ, List, [], ◌∷◌, ◌++◌, Option, Some, None, Bool, true, false, reverse, slice_get, refl, sym, ap, subst, ◌∙◌, eq-eqb}
use Rattle.std.specs.Prelude.{unwrap_or}
use Rattle.std.specs.List.{AllByRecursion, find}
use Rattle.std.specs.Option.{option_map, option_or, option_and_then}
use Rattle.std.proofs.lemmas.Bool.{eqb-true}
use Rattle.std.proofs.lemmas.List.{reverse-append}
use Rattle.descriptors.specs.declared.base.BaseType.{BaseType}
use Rattle.descriptors.specs.declared.base.BaseType.TheVariants.{Boolean, Byte, Char, Short, Int}
use Rattle.hierarchy.specs.declared.class.ClassId.{ClassId}
use Rattle.hierarchy.specs.declared.value.Value.{Value}
use Rattle.statics.specs.declared.static_field.StaticField.{StaticField}
use Rattle.statics.specs.Statics.{default_in, default_of}
use Rattle.init_core.specs.declared.event.Event.{Event}
use Rattle.init_core.specs.declared.event.Kind.{Kind}
use Rattle.init_core.specs.declared.event.Kind.TheVariants as kind
use Rattle.init_core.specs.Decisions.{event}
use Rattle.init_core.specs.Label.{is_beginning}
use Rattle.init_core.specs.ProgramEvents.{IsHeldBy, IsValueOf}
use Rattle.init_core.specs.StaticValue.{is_put_of, written, last_written, constant_after, held_by, value_of}
use Rattle.bodies.specs.Doing.{HoldsConstant}
use Rattle.bodies.specs.Writes.{WritesHeldIn, WritesHeld}

-- where there is one, the base type of the field holds it
abbrev IsHeldIn : StaticField → Option Value → Type 0
IsHeldIn f None = Unit {0}
IsHeldIn f (Some v) = IsHeldBy f.base v

default_held : (base : Option BaseType) → IsHeldBy base (default_in base)
default_held None = tt
default_held (Some Boolean) = refl
default_held (Some Byte) = refl
default_held (Some Char) = refl
default_held (Some Short) = refl
default_held (Some Int) = refl

all_both : (fields : List StaticField) (xs ys : List Event) → AllByRecursion (λ e. WritesHeld fields e) xs → AllByRecursion (λ e. WritesHeld fields e) ys → AllByRecursion (λ e. WritesHeld fields e) (xs ++ ys)
all_both fields [] ys a b = b
all_both fields (x ∷ xs) ys a b = (a.0, all_both fields xs ys a.1 b)

all_reversed : (fields : List StaticField) (xs : List Event) → AllByRecursion (λ e. WritesHeld fields e) xs → AllByRecursion (λ e. WritesHeld fields e) (reverse xs)
all_reversed fields [] a = tt
all_reversed fields (x ∷ xs) a = subst (λ (es : List Event). AllByRecursion (λ e. WritesHeld fields e) es) (sym (reverse-append (x ∷ []) xs)) (all_both fields (reverse xs) (x ∷ []) (all_reversed fields xs a.1) (a.0, tt))

module _ (fields : List StaticField) (place : ℕ) (f : StaticField) (at : slice_get fields place ≡ Some f) where
  put_held : (e : Event) (k : Kind) → e.kind ≡ k → WritesHeldIn fields k → is_put_of place e ≡ true → IsHeldIn f (written e.kind)
  put_held e (kind.Puts other v) is h q =
      let same : other ≡ place = eqb-true other place (sym (ap (is_put_at) is) ∙ q) in
      let held : IsValueOf (Some f) v = subst (λ (o : Option StaticField). IsValueOf o v) (ap (slice_get fields) same ∙ at) h in
      subst (λ (x : Kind). IsHeldIn f (written x)) (sym is) held where
        is_put_at : Kind → Bool
        is_put_at x = is_put_of place (record e { kind = x })
  put_held e kind.Begins is h q = subst (λ (x : Kind). IsHeldIn f (written x)) (sym is) tt
  put_held e kind.Waits is h q = subst (λ (x : Kind). IsHeldIn f (written x)) (sym is) tt
  put_held e kind.Recurs is h q = subst (λ (x : Kind). IsHeldIn f (written x)) (sym is) tt
  put_held e kind.FindsInitialized is h q = subst (λ (x : Kind). IsHeldIn f (written x)) (sym is) tt
  put_held e kind.FindsErroneous is h q = subst (λ (x : Kind). IsHeldIn f (written x)) (sym is) tt
  put_held e (kind.SuperFails x) is h q = subst (λ (y : Kind). IsHeldIn f (written y)) (sym is) tt
  put_held e kind.Runs is h q = subst (λ (x : Kind). IsHeldIn f (written x)) (sym is) tt
  put_held e kind.Completes is h q = subst (λ (x : Kind). IsHeldIn f (written x)) (sym is) tt
  put_held e (kind.Fails x) is h q = subst (λ (y : Kind). IsHeldIn f (written y)) (sym is) tt
  put_held e (kind.Gets g v) is h q = subst (λ (x : Kind). IsHeldIn f (written x)) (sym is) tt
  put_held e (kind.Prints x) is h q = subst (λ (y : Kind). IsHeldIn f (written y)) (sym is) tt

  -- the first write that is found
  found_by : (e : Event) (es : List Event) → WritesHeld fields e → IsHeldIn f (option_and_then (λ x. written x.kind) (find (is_put_of place) es)) → (b : Bool) → is_put_of place e ≡ b → IsHeldIn f (option_and_then (λ x. written x.kind) (find (is_put_of place) (e ∷ es)))
  found_by e es a rest true q = rw q (put_held e e.kind refl a q)
  found_by e es a rest false q = rw q rest

  found_held : (es : List Event) → AllByRecursion (λ e. WritesHeld fields e) es → IsHeldIn f (option_and_then (λ e. written e.kind) (find (is_put_of place) es))
  found_held [] a = tt
  found_held (e ∷ es) a = found_by e es a.0 (found_held es a.1) (is_put_of place e) refl

  constant_held : (o : Option Event) → HoldsConstant (Some f) → IsHeldIn f (constant_after f o)
  constant_held None c = tt
  constant_held (Some e) c = by f.constant refl where
    by : (o : Option Value) → f.constant ≡ o → IsHeldIn f f.constant
    by None q = subst (IsHeldIn f) (sym q) tt
    by (Some v) q = subst (IsHeldIn f) (sym q) (c v q)

  either_held : (a b : Option Value) → IsHeldIn f a → IsHeldIn f b → IsHeldBy f.base (unwrap_or (option_or a b) (default_of f))
  either_held (Some v) b x y = x
  either_held None (Some v) x y = y
  either_held None None x y = default_held f.base

  its_value : (v : Value) (events : List Event) → HoldsConstant (Some f) → AllByRecursion (λ e. WritesHeld fields e) events → option_map (held_by place events) (Some f) ≡ Some v → IsHeldBy f.base v
  its_value v events c a q =
      let is : held_by place events f ≡ v = cc in
      subst (IsHeldBy f.base) is (either_held (last_written place events) (constant_after f (find is_beginning events)) (found_held (reverse events) (all_reversed fields events a)) (constant_held (find is_beginning events) c))

-- what is read
pub value_held : (fields : List StaticField) (place : ℕ) (v : Value) (events : List Event) → HoldsConstant (slice_get fields place) → AllByRecursion (λ e. WritesHeld fields e) events → value_of fields place events ≡ Some v → IsValueOf (slice_get fields place) v
value_held fields place v events c a q = by (slice_get fields place) refl c q where
  by : (o : Option StaticField) → slice_get fields place ≡ o → HoldsConstant o → option_map (held_by place events) o ≡ Some v → IsValueOf o v
  by None at c q = cc
  by (Some f) at c q = its_value fields place f at v events c a q

-- what was written last is what the field holds
pub written_value : (fields : List StaticField) (t place : ℕ) (c : ClassId) (v x : Value) (h : List Event) → value_of fields place (h ++ event t c (kind.Puts place v) ∷ []) ≡ Some x → x ≡ v
written_value fields t place c v x h q = by (slice_get fields place) q where
  put : last_written place (h ++ event t c (kind.Puts place v) ∷ []) ≡ Some v
  put = ap (λ es. option_and_then (λ y. written y.kind) (find (is_put_of place) es)) (reverse-append h (event t c (kind.Puts place v) ∷ [])) ∙ rw (eq-eqb place place refl) refl

  by : (o : Option StaticField) → option_map (held_by place (h ++ event t c (kind.Puts place v) ∷ [])) o ≡ Some x → x ≡ v
  by None e = cc
  by (Some f) e =
      let held : held_by place (h ++ event t c (kind.Puts place v) ∷ []) f ≡ v = rw put refl in
      let is : held_by place (h ++ event t c (kind.Puts place v) ∷ []) f ≡ x = cc in
      sym is ∙ held

-- Following is reflexive and transitive.
use Rattle.std.proofs.Common.{List, [], ◌∷◌, ◌++◌, refl, sym, ap, subst, ◌∙◌, append-nil, append_assoc}
use Rattle.std.specs.List.{AllByRecursion}
use Rattle.statics.specs.declared.static_field.StaticField.{StaticField}
use Rattle.init_core.specs.declared.event.Event.{Event}
use Rattle.init_core.specs.History.{History}
use Rattle.bodies.specs.Writes.{WritesHeld}
use Rattle.guest_threads.specs.Drawing.{Follows}

pub follows_itself : (x : History) → Follows x x
follows_itself x = ((refl, refl), [], sym (append-nil x.events), tt)

held_both : (fields : List StaticField) (xs ys : List Event) → AllByRecursion (λ e. WritesHeld fields e) xs → AllByRecursion (λ e. WritesHeld fields e) ys → AllByRecursion (λ e. WritesHeld fields e) (xs ++ ys)
held_both fields [] ys a b = b
held_both fields (x ∷ xs) ys a b = (a.0, held_both fields xs ys a.1 b)

pub follows_on : (x y z : History) → Follows x y → Follows y z → Follows x z
follows_on x y z a b = (
  (b.0.0 ∙ a.0.0, b.0.1 ∙ a.0.1),
  a.1 ++ b.1,
  b.2 ∙ (ap (λ (l : List Event). l ++ b.1) a.2 ∙ append_assoc x.events a.1 b.1),
  held_both x.fields a.1 b.1 a.3 (subst (λ (fs : List StaticField). AllByRecursion (λ e. WritesHeld fs e) b.1) a.0.1 b.3),
)

-- What a body does by touches, one after the other.
use Rattle.std.proofs.Common.{◌≡◌, List, [], ◌∷◌, ◌++◌, Option, Some, None, refl, sym, subst, ◌∙◌}
use Rattle.hierarchy.specs.LinkedProgram.{LinkedProgram}
use Rattle.init_core.specs.declared.frames.Completed.{Completed}
use Rattle.init_core.specs.ProcedureWord.{GoesOn}
use Rattle.bodies.specs.declared.report.Limit.{Limit}
use Rattle.bodies.specs.declared.does.Does.{Does}
use Rattle.bodies.specs.declared.does.Does.TheVariants as does
use Rattle.bodies.specs.Doing.{MayDo}
use Rattle.bodies.specs.Sharing.{Sharing, Used, StepsAlone, StepsWith, DoesWith, says, touches, used_bodies}

-- a step that met this and left that, as its turn was noted
pub steps_once : {S H : Type 0} (R : S → H → S → H → Type 0) {s z : Used S H} {a v : S} {h met left : H} {had : List (H × H)} → a ≡ s.state → had ≡ s.uses → met ≡ h → R a h v left → z.state ≡ v → z.uses ≡ had ++ (met, left) ∷ [] → StepsWith R s z
steps_once R {s = s} {v = v} {h = h} {left = left} from had met step state uses = record {
  met = h;
  left = left;
  step = subst (λ b. R s.state h b left) (sym state) (subst (λ b. R b h v left) from step);
  uses = uses ∙ rw (had, met) refl;
}

-- what a body may do after touches it may do at once
pub may_at_once : {S : Type 0} (p : LinkedProgram) (limits : Limit → S → Type 0) (last : Option Completed) (d : Does) (z : S) → MayDo p limits None d z → MayDo p limits last d z
may_at_once p limits last (does.Asks c) z x = x
may_at_once p limits last (does.Gets c field) z x = absurd (let q = x.1 in cc)
may_at_once p limits last (does.Puts c field v) z x = absurd (let q = x.1 in cc)
may_at_once p limits last (does.Prints text) z x = x
may_at_once p limits last does.Touches z x = x
may_at_once p limits last (does.Over None) z x = x
may_at_once p limits last (does.Over (Some e)) z x = x
may_at_once p limits last (does.Ended l) z x = x

module _ {S H : Type 0} (p : LinkedProgram) (M : Sharing S H) where
  -- what it may do it may with what it has used
  pub may_used : (last : Option Completed) (d : Does) (z : Used S H) → MayDo p M.limits last d z.state → MayDo p (used_bodies M).limits last d z
  may_used last (does.Asks c) z x = x
  may_used last (does.Gets c field) z x = x
  may_used last (does.Puts c field v) z x = x
  may_used last (does.Prints text) z x = x
  may_used last does.Touches z x = x
  may_used last (does.Over None) z x = x
  may_used last (does.Over (Some e)) z x = x
  may_used last (does.Ended l) z x = x

  -- by touches from s to u: what the body does next from there it does from s
  pub record HasTouched (last told : Option Completed) (s u : Used S H) : Type 0 where
    pub goes_on : GoesOn told
    pub does : (d : Does) (z : Used S H) → DoesWith M told d u z → DoesWith M last d s z
    pub fits : (d : Does) (z : Used S H) → MayDo p (used_bodies M).limits told d z → MayDo p (used_bodies M).limits last d z

  pub touched_again : {last told : Option Completed} {s u a v : Used S H} → HasTouched last told s u → StepsAlone (λ x y. M.does x told does.Touches y) u a → StepsWith M.touches a v → HasTouched last None s v
  touched_again {told = told} h x touch = record {
    goes_on = refl;
    does = λ d z more. h.does d z (touches x touch more);
    fits = λ d z y. h.fits d z (may_at_once p (used_bodies M).limits told d z y);
  }

-- what a body does that was held up it does in the end
module _ {S H : Type 0} (M : Sharing S H) (law : (s u z : S) (h : H) (last again : Option Completed) (d : Does) → M.does s last does.Touches u → M.waits u h → M.does u again d z → M.does s last d z) where
  held_once : {last again : Option Completed} {d : Does} {s u z : Used S H} (h : H) → M.does s.state last does.Touches u.state → u.uses ≡ s.uses → M.waits u.state h → DoesWith M again d u z → DoesWith M last d s z
  held_once {last = last} {s = s} {u = u} h came same held (says {last = again} {d = d} {z = z} x) = says (record { step = law s.state u.state z.state h last again d came held x.step; uses = x.uses ∙ same })
  held_once {last = last} {s = s} {u = u} h came same held (touches {last = again} {u = v} x touch more) = touches (record { step = law s.state u.state v.state h last again does.Touches came held x.step; uses = x.uses ∙ same }) touch more

  pub held_with : {last again : Option Completed} {d : Does} {s u z : Used S H} → DoesWith M last does.Touches s u → (h : H) → M.waits u.state h → DoesWith M again d u z → DoesWith M last d s z
  held_with (says x) h held next = held_once h x.step x.uses held next
  held_with (touches x touch more) h held next = touches x touch (held_with more h held next)

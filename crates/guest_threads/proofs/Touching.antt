-- What a body does next, after touches of what all threads share.
use Rattle.std.proofs.Common.{◌≡◌, Option, Some, None, Result, Ok, Err, OnErr, sym, subst, ap}
use Rattle.hierarchy.specs.LinkedProgram.{LinkedProgram}
use Rattle.init_core.specs.declared.frames.Completed.{Completed}
use Rattle.init_core.specs.ProcedureWord.{GoesOn}
use Rattle.bodies.specs.declared.report.Limit.{Limit}
use Rattle.bodies.specs.declared.does.Does.{Does}
use Rattle.bodies.specs.declared.does.Does.TheVariants as does
use Rattle.bodies.specs.Doing.{MayDo}
use Rattle.bodies.specs.Sharing.{Sharing, DoesFreely, free_bodies, says_freely, touches_freely}
use Rattle.guest_threads.specs.declared.task.Work.{Work}
use Rattle.guest_threads.specs.Tasks.{TaskFacts}
use Rattle.guest_threads.specs.Working.{Working, HasComeTo, HasTouched, IsDoing, IsInBody}
use Rattle.guest_threads.proofs.Acting.{has_come_on, is_doing}

-- It has touched what is shared so often, if at all: what it does from here, told this, it does from where it began, told what was
-- completed last.
pub data HasGone {S H : Type 0} (F : Sharing S H) (last : Option Completed) (from : S) : Option Completed → S → Type 0 where
  not_yet : HasGone F last from last from
  so_far : {now : S} → ((d : Does) (z : S) → DoesFreely F None d now z → DoesFreely F last d from z) → HasGone F last from None now

does_from : {S H : Type 0} {F : Sharing S H} {last told : Option Completed} {from now : S} → HasGone F last from told now → (d : Does) (z : S) → DoesFreely F told d now z → DoesFreely F last d from z
does_from not_yet d z x = x
does_from (so_far chain) d z x = chain d z x

-- one touch more
pub gone_on : {S H : Type 0} {F : Sharing S H} {last told : Option Completed} {from now u v : S} → HasGone F last from told now → F.does now told does.Touches u → HasTouched F u v → HasGone F last from None v
gone_on gone comes t = so_far (λ d z x. does_from gone d z (touches_freely t.0 t.1.0 comes t.1.1 x))

-- what a body may do that was told nothing it may do whatever it was told
fits_untold : {S : Type 0} (p : LinkedProgram) (limits : Limit → S → Type 0) (last : Option Completed) (d : Does) (z : S) → MayDo p limits None d z → MayDo p limits last d z
fits_untold p limits last (does.Asks c) z f = f
fits_untold p limits last (does.Gets c field) z f = absurd (let e = f.1 in cc)
fits_untold p limits last (does.Puts c field v) z f = absurd (let e = f.1 in cc)
fits_untold p limits last (does.Prints text) z f = f
fits_untold p limits last does.Touches z f = f
fits_untold p limits last (does.Over None) z f = f
fits_untold p limits last (does.Over (Some e)) z f = f
fits_untold p limits last (does.Ended l) z f = f

fits_from : {S H : Type 0} {F : Sharing S H} {last told : Option Completed} {from now : S} (p : LinkedProgram) (limits : Limit → S → Type 0) → HasGone F last from told now → (d : Does) (z : S) → MayDo p limits told d z → MayDo p limits last d z
fits_from p limits not_yet d z f = f
fits_from {last = last} p limits (so_far chain) d z f = fits_untold p limits last d z f

-- what holds holds at an `Err`
pub at_error : {A E P : Type 0} (r : Result A E) → P → OnErr r P
at_error (Ok x) p = tt
at_error (Err e) p = p

module _ {S H : Type 0} (F : Sharing S H) (k : TaskFacts S) where
  -- what it does next
  pub next_is_doing : (w v : Work S) (told : Option Completed) (d : Does) (z : S) → HasGone F w.procedure.last w.bodies told v.bodies → v ≡ record w { bodies = v.bodies } → F.does v.bodies told d z → MayDo k.program F.limits told d z →
      Working (free_bodies F) k w → IsInBody w → GoesOn w.procedure.last → IsDoing (free_bodies F) k d (record v { bodies = z })
  next_is_doing w v told d z gone same made fits o body on =
      subst (λ (x : Work S). IsDoing (free_bodies F) k d x) (sym (ap (λ (x : Work S). let y : Work S = record x { bodies = z } in y) same))
      (is_doing (free_bodies F) k w d z o body on (does_from gone d z (says_freely made)) (fits_from k.program F.limits gone d z fits))

  -- the machine may end it where it comes to a touch
  pub comes_to_touch : (w v : Work S) (told : Option Completed) (z : S) → HasGone F w.procedure.last w.bodies told v.bodies → v ≡ record w { bodies = v.bodies } → F.does v.bodies told does.Touches z →
      Working (free_bodies F) k w → IsInBody w → GoesOn w.procedure.last → HasComeTo (free_bodies F) k (record v { bodies = z })
  comes_to_touch w v told z gone same made o body on = has_come_on (free_bodies F) k (record v { bodies = z }) does.Touches (next_is_doing w v told does.Touches z gone same made tt o body on)

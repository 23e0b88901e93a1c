-- What a task is seen as, and its fields: a fact of the one is one of the other.
use Rattle.std.proofs.Common.{◌≡◌, ℕ, Option, sym, subst}
use Rattle.hierarchy.specs.declared.class.ClassId.{ClassId}
use Rattle.hierarchy.specs.LinkedProgram.{LinkedProgram}
use Rattle.init_core.specs.declared.frames.Completed.{Completed}
use Rattle.init_core.specs.declared.frames.Outcome.{Outcome}
use Rattle.init_core.specs.Advance.{FitsBody}
use Rattle.bodies.specs.declared.report.Limit.{Limit}
use Rattle.bodies.specs.declared.does.Does.{Does}
use Rattle.bodies.specs.Sharing.{Sharing, free_bodies}
use Rattle.guest_threads.specs.declared.task.Work.{Work}
use Rattle.guest_threads.specs.Tasks.{TaskFacts, IsWhy, IsLimitOf}
use Rattle.guest_threads.proofs.Touching.{HasGone}
use Rattle.guest_threads.specs.Working.{Works, Working, HasComeTo, HasTouched, IsDoing, IsOver}

-- what a task is seen as, by its fields
abbrev pub by_fields : {S : Type 0} {k j : TaskFacts S} → k ≡ j → TaskFacts S
by_fields {k = k} e = k

module _ {S H : Type 0} (F : LinkedProgram → Sharing S H) {k j : TaskFacts S} (e : k ≡ j) where
  pub working_at : {w : Work S} → Working (free_bodies (F k.program)) k w → Working (free_bodies (F j.program)) j w
  working_at {w = w} o = subst (λ (x : TaskFacts S). Working (free_bodies (F x.program)) x w) e o

  -- the pass is that of the thread of its own number
  pub works_at : {w : Work S} → Working (free_bodies (F k.program)) k w → Works j.program j.table w.pass.number w.pass
  works_at {w = w} o = let x = (working_at o).works in subst (λ (n : ℕ). Works j.program j.table n w.pass) (sym x.number) x

  pub come_at : {w : Work S} → HasComeTo (free_bodies (F k.program)) k w → HasComeTo (free_bodies (F j.program)) j w
  come_at {w = w} o = subst (λ (x : TaskFacts S). HasComeTo (free_bodies (F x.program)) x w) e o

  pub doing_at : {d : Does} {w : Work S} → IsDoing (free_bodies (F k.program)) k d w → IsDoing (free_bodies (F j.program)) j d w
  doing_at {d = d} {w = w} o = subst (λ (x : TaskFacts S). IsDoing (free_bodies (F x.program)) x d w) e o

  pub over_at : {r : Outcome} {w : Work S} → IsOver (free_bodies (F k.program)) k r w → IsOver (free_bodies (F j.program)) j r w
  over_at {r = r} {w = w} o = subst (λ (x : TaskFacts S). IsOver (free_bodies (F x.program)) x r w) e o

  pub limit_at : (s : S) (l : Limit) → IsLimitOf (free_bodies (F k.program)) k s l → IsLimitOf (free_bodies (F j.program)) j s l
  limit_at s l o = subst (λ (x : TaskFacts S). IsLimitOf (free_bodies (F x.program)) x s l) e o

  pub why_at : (s : S) (l : Limit) (c : ClassId) → IsWhy (free_bodies (F k.program)) k s l c → IsWhy (free_bodies (F j.program)) j s l c
  why_at s l c o = subst (λ (x : TaskFacts S). IsWhy (free_bodies (F x.program)) x s l c) e o

  pub fits_at : (o : Option ClassId) (r : Outcome) → FitsBody k.program o r → FitsBody j.program o r
  fits_at o r f = subst (λ (x : TaskFacts S). FitsBody x.program o r) e f

  pub gone_at : {last told : Option Completed} {from now : S} → HasGone (F k.program) last from told now → HasGone (F j.program) last from told now
  gone_at {last = last} {told = told} {from = from} {now = now} h = subst (λ (x : TaskFacts S). HasGone (F x.program) last from told now) e h

  pub touched_at : {s z : S} → HasTouched (F k.program) s z → HasTouched (F j.program) s z
  touched_at {s = s} {z = z} h = subst (λ (x : TaskFacts S). HasTouched (F x.program) s z) e h

-- The answers that a procedure with one open class takes, and where it stands after them.
use Rattle.std.proofs.Common.{◌≡◌, [], ◌∷◌, None, Bool, true, false, inl}
use Rattle.hierarchy.specs.declared.class.ClassId.{ClassId}
use Rattle.hierarchy.specs.declared.built_in.BuiltIn.TheVariants.{InternalError, OutOfMemoryError}
use Rattle.hierarchy.specs.LinkedProgram.{LinkedProgram, built_in}
use Rattle.init_core.specs.declared.event.Decision.TheVariants as decision
use Rattle.init_core.specs.declared.procedure.Answer.TheVariants as answer
use Rattle.init_core.specs.declared.frames.Ending.{Ending}
use Rattle.init_core.specs.declared.frames.Ending.TheVariants as ending
use Rattle.init_core.specs.declared.frames.Phase.TheVariants.{Looking, EndingBy}
use Rattle.init_core.specs.Leads.{frame, standing}
use Rattle.init_core.specs.Standing.{Standing}
use Rattle.init_core.specs.Advance.{Fits, LeavesAt, requested, step_2, still_step_2, step_5, step_6, ends_class, gives_up_look, gives_up_begun, knows_all}

abbrev pub looking : ClassId → Bool → Standing
looking c waited = standing (frame c (Looking waited) ∷ []) None

abbrev pub ending_by : ClassId → Ending → Standing
ending_by c k = standing (frame c (EndingBy k true) ∷ []) None

pub opened : (c : ClassId) {old s : Standing} → old ≡ standing [] None → s ≡ requested old c → s ≡ looking c false
opened c e r = rw e at r

module _ (p : LinkedProgram) (c : ClassId) where
  pub may_wait : Fits p (looking c false) (answer.Decided (decision.Waits true))
  may_wait t = (_, _, _, step_2, knows_all)

  pub has_waited : {m : Standing} → LeavesAt p (looking c false) (answer.Decided (decision.Waits true)) m → m ≡ looking c true
  has_waited told = told 0 _ _ _ step_2 knows_all

  pub may_still_wait : (waited : Bool) → Fits p (looking c waited) (answer.Decided (decision.Waits false))
  may_still_wait waited t = (_, _, _, still_step_2, knows_all)

  pub still_waits : (waited : Bool) {m : Standing} → LeavesAt p (looking c waited) (answer.Decided (decision.Waits false)) m → m ≡ looking c waited
  still_waits waited told = told 0 _ _ _ still_step_2 knows_all

  pub may_find_erroneous : (waited : Bool) → Fits p (looking c waited) (answer.Decided decision.FindsErroneous)
  may_find_erroneous waited t = (_, _, _, step_5, knows_all)

  pub may_begin : (waited : Bool) → Fits p (looking c waited) (answer.Decided decision.Begins)
  may_begin waited t = (_, _, _, step_6, knows_all)

  pub may_give_up : (waited : Bool) {e : ClassId} → e ≡ built_in p InternalError → Fits p (looking c waited) (answer.GaveUp e false)
  may_give_up waited is t = (_, _, _, gives_up_look (inl is), knows_all)

  pub may_lack_memory : (waited : Bool) {e : ClassId} → e ≡ built_in p OutOfMemoryError → Fits p (looking c waited) (answer.GaveUp e true)
  may_lack_memory waited is = rw is (λ t. (_, _, _, gives_up_begun, knows_all))

  pub lacks_memory : (waited : Bool) {e : ClassId} {m : Standing} → e ≡ built_in p OutOfMemoryError → LeavesAt p (looking c waited) (answer.GaveUp e true) m → m ≡ ending_by c (ending.SuperFails (built_in p OutOfMemoryError))
  lacks_memory waited is told = (rw is at told) 0 _ _ _ gives_up_begun knows_all

  pub may_end : (k : Ending) → Fits p (ending_by c k) answer.Ended
  may_end k t = (_, _, _, ends_class, knows_all)

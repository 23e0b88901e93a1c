use Rattle.std.proofs.Common.{◌≡◌, ◌∙◌, sym, ap, slice_index_or}
use Rattle.std.proofs.lemmas.List.{get_or_default}
use Rattle.init_core.specs.declared.procedure.Next.TheVariants as next
use Rattle.init_core.specs.Advance.{next_of}
use Rattle.init_core.specs.Standing.{Standing}
use Rattle.init_world.specs.WorldState.{idle}
use Rattle.init_world.proofs.Turning.{may_request}
use Rattle.init_world.proofs.world.World.turn.Goals as goal

pub answer-requires-clause-body : goal.answer-requires-clause-body
answer-requires-clause-body c =
    let within = rw (← c.self.view_is) at c.requires.thread in
    let asked : next_of (slice_index_or c.self.inside.procedures.items c.args.thread idle).frames ≡ next.Idle =
    ap (λ (s : Standing). next_of s.frames) (get_or_default _ c.args.thread idle c.index.result.now within ∙ sym c.index.ensures) ∙ sym c.next.ensures ∙ c.in-Idle.is in
    rw (← c.self.view_is) (may_request _ _ asked (c.self.invariant.stands c.args.thread within).leads)

use Rattle.std.proofs.Common.{◌≡◌, None, sym, subst}
use Rattle.init_core.specs.Stands.{ending_error}
use Rattle.init_world.specs.WorldState.{WorldState, thread_at}
use Rattle.init_world.proofs.Turns.{ended_by_machine}
use Rattle.init_world.proofs.world.World.give_up.Goals as goal

pub invariant_of-self : goal.invariant_of-self
invariant_of-self c =
    ended_by_machine _ _ _ _ _ (rw (← c.self.view_is) at c.requires.thread) c.index_mut-procedure.ensures.value _ c.self.invariant _ c.args.error (rw (← c.self.view_is) at c.requires.frames) (subst (λ (w : WorldState). ending_error (thread_at w c.args.thread) ≡ None) (sym c.self.view_is) c.requires.goes_on) (rw (← c.self.view_is) at c.requires.error) c.end_thread.ensures.standing

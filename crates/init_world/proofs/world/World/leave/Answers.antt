use Rattle.std.proofs.Common.{◌≡◌, Some, true, refl, ap, sym, subst}
use Rattle.std.specs.Prelude.{slice_index_or}
use Rattle.std.proofs.lemmas.List.{get_or_default}
use Rattle.init_core.specs.declared.frames.Ending.TheVariants as ending
use Rattle.init_core.specs.Standing.{Standing}
use Rattle.init_core.specs.Stands.{ending_error}
use Rattle.init_world.specs.WorldState.{WorldState, thread_at, idle}
use Rattle.init_world.proofs.Turns.{leave_allowed, leave_turns}
use Rattle.init_world.proofs.world.World.leave.Goals as goal

pub new-requires-clause-kind : goal.new-requires-clause-kind
new-requires-clause-kind c = (leave_allowed c.self.inside.program.value _ _ _ (slice_index_or c.self.inside.procedures.items c.args.thread idle) (rw (← c.self.view_is) at c.requires.thread) (get_or_default _ _ _ _ (rw (← c.self.view_is) at c.requires.thread)) _ c.self.invariant c.args.class c.index_mut-record.result.now c.index_mut-record.ensures.value c.args.error (rw (← c.self.view_is) at c.requires.next) (rw (← c.self.view_is) at c.requires.body) (subst (λ (w : WorldState). ending_error (thread_at w c.args.thread) ≡ Some c.args.error) (sym c.self.view_is) c.requires.error)).2

pub add-requires : goal.add-requires
add-requires c = let way = leave_allowed c.self.inside.program.value _ _ _ (slice_index_or c.self.inside.procedures.items c.args.thread idle) (rw (← c.self.view_is) at c.requires.thread) (get_or_default _ _ _ _ (rw (← c.self.view_is) at c.requires.thread)) _ c.self.invariant c.args.class c.index_mut-record.result.now c.index_mut-record.ensures.value c.args.error (rw (← c.self.view_is) at c.requires.next) (rw (← c.self.view_is) at c.requires.body) (subst (λ (w : WorldState). ending_error (thread_at w c.args.thread) ≡ Some c.args.error) (sym c.self.view_is) c.requires.error) in record { thread = way.0; allowed = way.1 }

pub invariant_of-self-2 : goal.invariant_of-self-2
invariant_of-self-2 c =
    (leave_turns _ _ _ _ _ (rw (← c.self.view_is) at c.requires.thread) c.index_mut-procedure.ensures.value _ c.self.invariant c.args.class c.index_mut-record.result.now c.index_mut-record.ensures.value c.args.error (rw (← c.self.view_is) at c.requires.next) (rw (← c.self.view_is) at c.requires.body) (subst (λ (w : WorldState). ending_error (thread_at w c.args.thread) ≡ Some c.args.error) (sym c.self.view_is) c.requires.error) _ c.add.new.self c.push_reserved.new.self.items
    (λ f fs is. c.end_class.ensures.standing f.class (ending.Fails c.args.error) true fs (ap (λ (s : Standing). s.frames) (c.end_body.ensures.standing f fs is))) c.add.ensures.step (rw (c.push_reserved.ensures.items, c.reserve.ensures.items, c.new.ensures) refl)).0

pub returns-clause-turn : goal.returns-clause-turn
returns-clause-turn c =
    rw (← c.self.view_is)
    (leave_turns _ _ _ _ _ (rw (← c.self.view_is) at c.requires.thread) c.index_mut-procedure.ensures.value _ c.self.invariant c.args.class c.index_mut-record.result.now c.index_mut-record.ensures.value c.args.error (rw (← c.self.view_is) at c.requires.next) (rw (← c.self.view_is) at c.requires.body) (subst (λ (w : WorldState). ending_error (thread_at w c.args.thread) ≡ Some c.args.error) (sym c.self.view_is) c.requires.error) _ c.add.new.self c.push_reserved.new.self.items
    (λ f fs is. c.end_class.ensures.standing f.class (ending.Fails c.args.error) true fs (ap (λ (s : Standing). s.frames) (c.end_body.ensures.standing f fs is))) c.add.ensures.step (rw (c.push_reserved.ensures.items, c.reserve.ensures.items, c.new.ensures) refl)).1

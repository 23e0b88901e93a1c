use Rattle.std.proofs.Common.{◌≡◌, [], ◌∷◌, ◌++◌, map, length, refl, sym, ap, ◌∙◌, subst, arith, append_assoc, length-append}
use Rattle.std.specs.List.{AllByRecursion}
use Rattle.std.proofs.lemmas.List.{nil_from_length}
use Rattle.init_lock.specs.Known.{IsAway, view_of_pass}
use Rattle.init_lock.specs.Closing.{written}
use Rattle.init_lock.proofs.Lists.{all_given, length_map, map_snoc}
use Rattle.init_lock.proofs.Passes.{carries_none}
use Rattle.init_lock.proofs.Ends.{joins, all_middle}
use Rattle.init_lock.proofs.finish.gather.Goals as goal

pub join_seat-requires : goal.join_seat-requires
join_seat-requires g c =
    let i = c.loop-pass.invariant in
    let whole = sym i.7 ∙ ap (λ z. c.loop-pass.yielded ++ z) c.in-Some.ensures.steps.0 in (
      i.2 ∙ c.requires.table.0,
      ap (λ z. z.table) c.pass.view_is ∙ all_middle (λ p. p.table ≡ c.args.shared.now.table_id) c.loop-pass.yielded _ c.in-Some.pass (subst (AllByRecursion (λ p. p.table ≡ c.args.shared.now.table_id)) whole c.requires.table.2),
      carries_none _ _ _ _ _ _ c.pass.invariant (subst IsAway (ap (λ z. z.places) (sym c.pass.view_is)) (all_middle (λ p. IsAway p.places) c.loop-pass.yielded _ c.in-Some.pass (subst (AllByRecursion (λ p. IsAway p.places)) whole c.requires.away))),
      c.requires.table.1,
      joins g.R.Keeps.kept g.R.Keeps.may_draw g.R.Keeps.follows g.R.Keeps.settles g.R.Keeps.lawful g.R.Keeps.leans_on _ _ _ _ _,
    )

pub loop-pass-preserved : goal.loop-pass-preserved
loop-pass-preserved g c =
    let i = c.loop-pass.invariant in
    let ys = c.loop-pass.yielded in
    let p = c.in-Some.pass in
    let j = c.join_seat.ensures in
    let pushed = c.in-Ok.ensures in (
      tt,
      tt,
      j.0 ∙ i.2,
      j.1 ∙ i.3,
      j.2 ∙ (ap (λ z. (z.0 ++ c.pass.inside.seat.me.0, z.1)) i.4 ∙ (ap (λ z. (map view_of_pass ys ++ z, [])) (ap (λ z. z.0) c.pass.invariant.tied ∙ ap (λ z. view_of_pass z ∷ []) c.pass.view_is) ∙ ap (λ z. (z, [])) (sym (map_snoc view_of_pass ys p)))),
      pushed.items ∙ (ap (λ z. z ++ c.into_inner.result ∷ []) i.5 ∙ (ap (λ z. map written ys ++ z ∷ []) (c.into_inner.ensures ∙ ap written c.pass.view_is) ∙ sym (map_snoc written ys p))),
      (let a = i.6 in let b = pushed.capacity in omega arith),
      append_assoc ys (p ∷ []) c.next.new.self.rest.items ∙ (ap (λ z. ys ++ z) (sym c.in-Some.ensures.steps.0) ∙ i.7),
    )

pub unreachable-requires : goal.unreachable-requires
unreachable-requires g c =
    let i = c.loop-pass.invariant in
    let a = ap length i.5 ∙ length_map written c.loop-pass.yielded in
    let b = ap length i.7 in
    let d = ap length c.in-Some.ensures.steps.0 in
    let e = c.in_default.ensures.succeeds (omega (arith, length-append c.loop-pass.yielded c.loop-pass.pass-iterator.rest.items)) in cc

pub loop-pass-init : goal.loop-pass-init
loop-pass-init g c =
    let none = nil_from_length c.args.journals.now.items (sym c.args.journals.now.ok.0 ∙ c.requires.room.0) in
    (tt, tt, refl, refl, c.requires.new, none, omega arith, c.into_iter-pass-iterator.ensures.into_iter_gives.0)

pub returns-clause-seat : goal.returns-clause-seat
returns-clause-seat g c =
    let i = c.loop-pass.invariant in
    let rest = c.loop-pass.pass-iterator.rest in
    i.4 ∙ ap (λ z. (map view_of_pass z, []))
    (all_given c.loop-pass.yielded rest.items c.args.passes.items rest.len i.7 rest.ok.0 c.in-None.ensures.steps.0)

pub returns-clause-journals : goal.returns-clause-journals
returns-clause-journals g c =
    let i = c.loop-pass.invariant in
    let rest = c.loop-pass.pass-iterator.rest in
    i.5 ∙ ap (map written) (all_given c.loop-pass.yielded rest.items c.args.passes.items rest.len i.7 rest.ok.0 c.in-None.ensures.steps.0)

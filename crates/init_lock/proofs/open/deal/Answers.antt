use Rattle.std.proofs.Common.{◌≡◌, ◌-◌, [], ◌∷◌, ◌++◌, map, refl, sym, ap, ◌∙◌, subst, arith}
use Rattle.std.specs.List.{AllByRecursion}
use Rattle.init_lock.specs.Rule.{newcomers}
use Rattle.init_lock.specs.Known.{IsNewPass}
use Rattle.init_lock.specs.Closing.{numbers}
use Rattle.init_lock.proofs.Lists.{map_snoc}
use Rattle.init_lock.proofs.Ends.{splits, deal_one, numbers_snoc, all_snoc}
use Rattle.init_lock.proofs.Passes.{new_holds, is_new}
use Rattle.init_lock.proofs.open.deal.Goals as goal

pub loop-number-init : goal.loop-number-init
loop-number-init g c =
    let none = c.new-passes.ensures.items in
    let all : c.args.threads ≡ c.args.threads - 0 = omega arith in (
      refl,
      c.requires.seat ∙ ap (λ n. (newcomers 0 n c.args.shared.now.key.records.value.items, [])) all,
      ap (λ z. map (λ p. p.number) z) none,
      subst (λ z. AllByRecursion (IsNewPass c.args.shared.now.table_id c.args.shared.now.key.records.value.items) z) (sym none) tt,
    )

pub split_seat-own-requires : goal.split_seat-own-requires
split_seat-own-requires g c = let i = c.loop-number.invariant in (i.0 ∙ c.requires.table.0, c.requires.table.1, splits g.R.Keeps.kept g.R.Keeps.may_draw g.R.Keeps.follows g.R.Keeps.settles g.R.Keeps.lawful g.R.Keeps.leans_on _ _ _)

pub invariant_of-push : goal.invariant_of-push
invariant_of-push g c =
    let i = c.loop-number.invariant in
    let d = deal_one c.loop-number.seat.me.0 c.loop-number.number c.args.threads c.args.shared.now.key.records.value.items (ap (λ z. z.0) i.1) c.loop-number-test.true in
    let s = c.split_seat-own.ensures in
    let e = s.4 ∙ ap (λ z. (z, [])) d.0 in
    let slots = ap (λ z. z.slots) (s.3 ∙ (i.0 ∙ c.requires.table.0)) in
    let few = c.requires.few in
    new_holds _ _ _ _ c.args.shared.now.key.records.value.items _ e (ap (λ j. j.events) c.new-in-loop-number.ensures ∙ c.in_ok-new.ensures.events) (ap (λ j. j.room) c.new-in-loop-number.ensures ∙ c.in_ok-new.ensures.room) (let l = c.loop-number-test.true in omega arith) (sym c.requires.slots ∙ sym slots)

pub loop-number-preserved : goal.loop-number-preserved
loop-number-preserved g c =
    let i = c.loop-number.invariant in
    let rs = c.args.shared.now.key.records.value.items in
    let d = deal_one c.loop-number.seat.me.0 c.loop-number.number c.args.threads rs (ap (λ z. z.0) i.1) c.loop-number-test.true in
    let s = c.split_seat-own.ensures in
    let e = s.4 ∙ ap (λ z. (z, [])) d.0 in
    let p = c.in_ok-push.ensures.items in (
      s.0 ∙ i.0,
      s.2 ∙ (λ j. (d.1 j, (i.1 j).1)),
      ap (λ z. map (λ p. p.number) z) p ∙ (map_snoc (λ p. p.number) c.loop-number.passes.items _ ∙ (ap (λ z. z ++ c.loop-number.number ∷ []) i.2 ∙ sym (numbers_snoc c.loop-number.number))),
      subst (λ z. AllByRecursion (IsNewPass c.args.shared.now.table_id rs) z) (sym p)
          (all_snoc (IsNewPass c.args.shared.now.table_id rs) c.loop-number.passes.items _ i.3
          (is_new c.args.shared.now.table_id rs _ c.split_seat-own.result.me c.loop-number.number e (s.3 ∙ (i.0 ∙ c.requires.table.0)) (ap (λ j. j.events) c.new-in-loop-number.ensures ∙ c.in_ok-new.ensures.events) (ap (λ j. j.room) c.new-in-loop-number.ensures ∙ c.in_ok-new.ensures.room) refl refl refl)),
    )

pub returns-clause-numbers : goal.returns-clause-numbers
returns-clause-numbers g c =
    let most = c.loop-number.auto.number-end in
    let least = c.loop-number-test.false in
    let all : c.loop-number.number ≡ c.args.threads = omega arith in
    c.loop-number.invariant.2 ∙ ap (numbers 0) all

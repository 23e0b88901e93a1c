use Rattle.std.proofs.Common.{rules, ◌≡◌, ◌+◌, [], map, length, Some, sym, ap, ◌∙◌, subst, arith, ◌*◌}
use Rattle.std.specs.List.{AllByRecursion}
use Rattle.init_lock.specs.Rule.{newcomers}
use Rattle.init_lock.proofs.Lists.{length_map, zeros}
use Rattle.init_lock.proofs.Ends.{opens}
use Rattle.init_lock.proofs.open.lay.Goals as goal

pub new-requires : goal.new-requires
new-requires g c =
    let same = ap (λ v. v.items) c.of.ensures in
    let a = ap length c.in_ok-slots.ensures ∙ length_map Some c.args.records.items in
    let b = c.in_ok-words.ensures.len in
    let d = c.as_slice.ensures.len in
    opens g.R.Keeps.kept g.R.Keeps.may_draw g.R.Keeps.follows g.R.Keeps.settles g.R.Keeps.lawful g.R.Keeps.leans_on (record { threads = c.args.threads; records = c.of.result }) g.R.Keeps.follows_itself c.as_slice.result.now c.in_ok-slots.slots.items
    (let e = a in omega arith) (zeros (c.len.result * 9 + 8) c.as_slice.result.now (c.as_slice.ensures.value ∙ (search rules))) (c.in_ok-slots.ensures ∙ ap (λ z. map Some z) (sym same)) (subst (λ z. AllByRecursion (λ r. g.R.Keeps.kept r ≡ []) z) (sym same) c.requires.records) c.requires.threads g.R.Keeps.lawful_at_first

pub returns-in-Ok-clause-words : goal.returns-in-Ok-clause-words
returns-in-Ok-clause-words g c = c.in-Ok.ensures.ok.0 ∙ (c.as_slice.ensures.len ∙ (c.in_ok-words.ensures.len ∙ ap (λ z. z * 9 + 8) c.len.ensures))

pub returns-in-Ok-clause-slots : goal.returns-in-Ok-clause-slots
returns-in-Ok-clause-slots g c =
    let a = ap length c.in_ok-slots.ensures ∙ length_map Some c.args.records.items in
    let b = c.in-Ok.ensures.ok.1 in omega arith

pub returns-in-Ok-clause-key : goal.returns-in-Ok-clause-key
returns-in-Ok-clause-key g c = let h = c.in-Ok.ensures.ok in (ap (λ z. z.threads) h.5, ap (λ z. z.records.value) h.5 ∙ c.of.ensures)

pub returns-in-Ok-clause-seat : goal.returns-in-Ok-clause-seat
returns-in-Ok-clause-seat g c = let h = c.in-Ok.ensures.ok in (h.2, h.4 ∙ ap (λ z. (newcomers 0 c.args.threads z.items, [])) c.of.ensures)

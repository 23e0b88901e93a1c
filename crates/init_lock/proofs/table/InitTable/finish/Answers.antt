use Rattle.std.proofs.Common.{rules, ◌≡◌, ℕ, Some, length, map, sym, ap, ◌∙◌, subst, arith}
use Rattle.std.specs.List.{AllByRecursion}
use Rattle.std.specs.List.Sorted.{IsPermutation}
use Rattle.std.proofs.lemmas.List.Sorted.{length_permutation}
use Rattle.std.specs.Mem.Slots.{slots_items, slots_counts}
use Rattle.atomic_table.specs.Table.{Final, Seen}
use Rattle.init_lock.specs.Log.{AllAllowed}
use Rattle.init_lock.specs.Rule.{RuleHolds}
use Rattle.init_lock.specs.Closing.{numbers}
use Rattle.init_lock.proofs.Lists.{length_map}
use Rattle.init_lock.proofs.Ends.{enters}
use Rattle.init_lock.proofs.Finals.{closes, all_some, records_are, follows_all, journals_are, looks_are, settled_first, length_numbers}
use Rattle.init_lock.proofs.table.InitTable.finish.Goals as goal

pub load_new_seat-found-requires : goal.load_new_seat-found-requires
load_new_seat-found-requires g c = (search rules, enters g.R.Keeps.kept g.R.Keeps.may_draw g.R.Keeps.follows g.R.Keeps.settles g.R.Keeps.lawful g.R.Keeps.leans_on _ _ _)

pub gather-requires-clause-table : goal.gather-requires-clause-table
gather-requires-clause-table g c = (c.load_new_seat-found.ensures.0, (let w = c.self.invariant.0 in omega arith), subst (λ z. AllByRecursion (λ p. p.table ≡ z.id) c.args.passes.items) (sym c.self.view_is) c.requires.table)

pub gather-requires-clause-room : goal.gather-requires-clause-room
gather-requires-clause-room g c =
    let a = length_permutation (numbers 0 c.args.self.threads) (map (λ p. p.number) c.args.passes.items) c.requires.passes in
    let b = length_map (λ p. p.number) c.args.passes.items in
    let d = length_numbers 0 c.args.self.threads in
    let e = ap (λ z. z.threads) c.self.view_is in
    let r = c.self.invariant in
    (r.5, (let room = r.6 in grind arith))

pub unload-requires-clause-some : goal.unload-requires-clause-some
unload-requires-clause-some g c =
    let same = ap (λ z. z.0) c.gather.ensures.seat in
    let last = subst (λ z. Final (Seen (RuleHolds g.R.Keeps.kept g.R.Keeps.may_draw g.R.Keeps.follows g.R.Keeps.settles g.R.Keeps.lawful g.R.Keeps.leans_on c.self.inside.table.shared.key) c.gather.new.seat.id z) (slots_items c.close_with-closed.result.words) (slots_items c.close_with-closed.result.slots)) same c.close_with-closed.ensures.values.2 in
    let threads = c.self.invariant.2 ∙ ap (λ z. z.threads) c.self.view_is in
    let all = subst (λ n. IsPermutation (numbers 0 n) (map (λ p. p.number) c.args.passes.items)) (sym threads) c.requires.passes in
    let end = closes g.R.Keeps.kept g.R.Keeps.may_draw g.R.Keeps.follows g.R.Keeps.settles g.R.Keeps.lawful g.R.Keeps.leans_on c.self.inside.table.shared.key c.gather.new.seat.id c.args.passes.items (slots_items c.close_with-closed.result.words) (slots_items c.close_with-closed.result.slots) last all c.requires.away in
    all_some g.R.Keeps.kept g.R.Keeps.may_draw g.R.Keeps.follows end.log end.now 0 (slots_items c.close_with-closed.result.slots) end.shelved

pub returns-clause-log : goal.returns-clause-log
returns-clause-log g c =
    let same = ap (λ z. z.0) c.gather.ensures.seat in
    let last = subst (λ z. Final (Seen (RuleHolds g.R.Keeps.kept g.R.Keeps.may_draw g.R.Keeps.follows g.R.Keeps.settles g.R.Keeps.lawful g.R.Keeps.leans_on c.self.inside.table.shared.key) c.gather.new.seat.id z) (slots_items c.close_with-closed.result.words) (slots_items c.close_with-closed.result.slots)) same c.close_with-closed.ensures.values.2 in
    let threads = c.self.invariant.2 ∙ ap (λ z. z.threads) c.self.view_is in
    let all = subst (λ n. IsPermutation (numbers 0 n) (map (λ p. p.number) c.args.passes.items)) (sym threads) c.requires.passes in
    let end = closes g.R.Keeps.kept g.R.Keeps.may_draw g.R.Keeps.follows g.R.Keeps.settles g.R.Keeps.lawful g.R.Keeps.leans_on c.self.inside.table.shared.key c.gather.new.seat.id c.args.passes.items (slots_items c.close_with-closed.result.words) (slots_items c.close_with-closed.result.slots) last all c.requires.away in
    let places = sym (slots_counts c.close_with-closed.result.slots).0 ∙ (c.close_with-closed.ensures.counts.1 ∙ (c.self.invariant.1 ∙ ap (λ z. z.places) c.self.view_is)) in (
      end.log,
      subst (λ (z : ℕ × ℕ). AllAllowed z.0 z.1 g.R.Keeps.may_draw end.log) (λ i. (threads i, places i)) end.allowed,
      journals_are g.R.Keeps.kept g.R.Keeps.may_draw g.R.Keeps.follows end.log end.now c.args.passes.items end.passes,
      looks_are g.R.Keeps.kept g.R.Keeps.may_draw g.R.Keeps.follows end.log end.now c.args.passes.items end.passes,
      records_are g.R.Keeps.kept g.R.Keeps.may_draw g.R.Keeps.follows end.log end.now 0 c.unload.new.records.items (slots_items c.close_with-closed.result.slots) c.unload.ensures.records end.shelved,
      end.backed,
      settled_first g.R.Keeps.kept g.R.Keeps.may_draw g.R.Keeps.follows g.R.Keeps.settles end.log end.now c.args.passes.items end.passes,
    )

pub returns-clause-follows : goal.returns-clause-follows
returns-clause-follows g c =
    let same = ap (λ z. z.0) c.gather.ensures.seat in
    let last = subst (λ z. Final (Seen (RuleHolds g.R.Keeps.kept g.R.Keeps.may_draw g.R.Keeps.follows g.R.Keeps.settles g.R.Keeps.lawful g.R.Keeps.leans_on c.self.inside.table.shared.key) c.gather.new.seat.id z) (slots_items c.close_with-closed.result.words) (slots_items c.close_with-closed.result.slots)) same c.close_with-closed.ensures.values.2 in
    let threads = c.self.invariant.2 ∙ ap (λ z. z.threads) c.self.view_is in
    let all = subst (λ n. IsPermutation (numbers 0 n) (map (λ p. p.number) c.args.passes.items)) (sym threads) c.requires.passes in
    let end = closes g.R.Keeps.kept g.R.Keeps.may_draw g.R.Keeps.follows g.R.Keeps.settles g.R.Keeps.lawful g.R.Keeps.leans_on c.self.inside.table.shared.key c.gather.new.seat.id c.args.passes.items (slots_items c.close_with-closed.result.words) (slots_items c.close_with-closed.result.slots) last all c.requires.away in
    follows_all g.R.Keeps.kept g.R.Keeps.may_draw g.R.Keeps.follows end.log end.now c.args.passes.items c.unload.new.records.items (slots_items c.close_with-closed.result.slots) c.unload.ensures.records end.shelved end.passes

pub returns-clause-places : goal.returns-clause-places
returns-clause-places g c =
    let counts = sym (slots_counts c.close_with-closed.result.slots).0 ∙ c.close_with-closed.ensures.counts.1 in
    let places = counts ∙ (c.self.invariant.1 ∙ ap (λ z. z.places) c.self.view_is) in
    c.unload.new.records.ok.0 ∙ (sym (length_map Some c.unload.new.records.items) ∙ (ap length c.unload.ensures.records ∙ places))

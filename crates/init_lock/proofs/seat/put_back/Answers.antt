use Rattle.std.proofs.Common.{rules, ◌∷◌, Some, None, ap, sym, ◌∙◌}
use Rattle.atomic_table.specs.Table.{rest}
use Rattle.init_lock.specs.Steps.{slots_of, without}
use Rattle.init_lock.proofs.Seats.{free_allowed, freed, swapped}
use Rattle.init_lock.proofs.seat.put_back.Goals as goal

pub fetch-requires-clause-out : goal.fetch-requires-clause-out
fetch-requires-clause-out g c = c.requires.held.has

pub exchange-empty-requires-clause-taken : goal.exchange-empty-requires-clause-taken
exchange-empty-requires-clause-taken g c =
    let fetched = c.fetch.ensures.fetched in
    (None, ap (λ z. z.1) fetched ∙ ap (λ z. (c.args.place, None) ∷ z) (sym (ap (λ z. rest z.1) fetched)))

pub store-requires : goal.store-requires
store-requires g c =
    let b = swapped g.R.Keeps.kept g.R.Keeps.may_draw g.R.Keeps.follows g.R.Keeps.settles g.R.Keeps.lawful g.R.Keeps.leans_on g.R.Keeps.follows_on g.R.Keeps.follows_itself c.args.shared.now.key _ (slots_of (without c.args.place c.args.carried)) c.args.place None (Some c.args.back) _ _ _ c.fetch.ensures.fetched c.exchange-empty.ensures.found c.exchange-empty.ensures.seat in
    (c.exchange-empty.ensures.table.0 ∙ (c.fetch.ensures.table.0 ∙ c.requires.table), search rules, free_allowed g.R.Keeps.kept g.R.Keeps.may_draw g.R.Keeps.follows g.R.Keeps.settles g.R.Keeps.lawful g.R.Keeps.leans_on g.R.Keeps.follows_on g.R.Keeps.follows_itself c.args.shared.now.key _ _ c.args.carried (slots_of (without c.args.place c.args.carried)) c.args.seat.now.me _ c.args.place _ c.args.back c.requires.held b.1 c.lock_word.ensures c.requires.place.0)

pub returns-clause-freed : goal.returns-clause-freed
returns-clause-freed g c =
    let b = swapped g.R.Keeps.kept g.R.Keeps.may_draw g.R.Keeps.follows g.R.Keeps.settles g.R.Keeps.lawful g.R.Keeps.leans_on g.R.Keeps.follows_on g.R.Keeps.follows_itself c.args.shared.now.key _ (slots_of (without c.args.place c.args.carried)) c.args.place None (Some c.args.back) _ _ _ c.fetch.ensures.fetched c.exchange-empty.ensures.found c.exchange-empty.ensures.seat in
    freed g.R.Keeps.kept g.R.Keeps.may_draw g.R.Keeps.follows g.R.Keeps.settles g.R.Keeps.lawful g.R.Keeps.leans_on g.R.Keeps.follows_on g.R.Keeps.follows_itself c.args.shared.now.key c.args.shared.now.table_id.slots c.args.carried (slots_of (without c.args.place c.args.carried)) c.args.seat.now.me _ c.args.place c.lock_word.result c.args.back _ c.requires.held.has b.1 c.lock_word.ensures c.store.ensures.2

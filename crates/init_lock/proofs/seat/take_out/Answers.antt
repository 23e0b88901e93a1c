use Rattle.std.proofs.Common.{rules, ◌+◌, List, [], ◌∷◌, map, Some, None, sym, ap, ◌∙◌, subst, arith}
use Rattle.std.specs.Option.{option_or}
use Rattle.atomic_table.specs.Table.{rest}
use Rattle.init_lock.specs.declared.views.PassView.{PassView}
use Rattle.init_lock.specs.declared.views.Custody.TheVariants.{Carried}
use Rattle.init_lock.specs.Rule.{Each}
use Rattle.init_lock.specs.Steps.{Found, took, slots_of, custody_beside}
use Rattle.init_lock.proofs.Seats.{take_allowed, took_one, swapped, took_out}
use Rattle.init_lock.proofs.Lists.{said_is}
use Rattle.init_lock.proofs.seat.take_out.Goals as goal

pub compare_exchange-found-requires : goal.compare_exchange-found-requires
compare_exchange-found-requires g c = let one = c.requires.pass.1 in (c.requires.table, search rules, take_allowed g.R.Keeps.kept g.R.Keeps.may_draw g.R.Keeps.follows g.R.Keeps.settles g.R.Keeps.lawful g.R.Keeps.leans_on g.R.Keeps.follows_on g.R.Keeps.follows_itself c.args.shared.now.key _ _ one.pass _ _ c.args.place _ _ one.is c.lock_word-word.ensures (let n = one.numbered in omega arith) c.requires.place.0)

pub exchange-requires-clause-taken : goal.exchange-requires-clause-taken
exchange-requires-clause-taken g c =
    let one = c.requires.pass.1 in
    let a = took_one g.R.Keeps.kept g.R.Keeps.may_draw g.R.Keeps.follows g.R.Keeps.settles g.R.Keeps.lawful g.R.Keeps.leans_on g.R.Keeps.follows_on g.R.Keeps.follows_itself c.args.shared.now.key c.args.shared.now.table_id.slots one.pass (slots_of c.args.carried) c.args.seat.now.me c.args.place c.lock_word-word.result (c.args.number + 1) _ _ one.is c.lock_word-word.ensures c.if-found-ne0.false c.compare_exchange-found.ensures.2 in
    (Some a.0, ap (λ z. z.1) a.1 ∙ ap (λ z. (c.args.place, Some a.0) ∷ z) (sym (ap (λ z. rest z.1) a.1)))

pub park-requires-clause-taken : goal.park-requires-clause-taken
park-requires-clause-taken g c =
    let one = c.requires.pass.1 in
    let a = took_one g.R.Keeps.kept g.R.Keeps.may_draw g.R.Keeps.follows g.R.Keeps.settles g.R.Keeps.lawful g.R.Keeps.leans_on g.R.Keeps.follows_on g.R.Keeps.follows_itself c.args.shared.now.key c.args.shared.now.table_id.slots one.pass (slots_of c.args.carried) c.args.seat.now.me c.args.place c.lock_word-word.result (c.args.number + 1) _ _ one.is c.lock_word-word.ensures c.if-found-ne0.false c.compare_exchange-found.ensures.2 in
    let b = swapped g.R.Keeps.kept g.R.Keeps.may_draw g.R.Keeps.follows g.R.Keeps.settles g.R.Keeps.lawful g.R.Keeps.leans_on g.R.Keeps.follows_on g.R.Keeps.follows_itself c.args.shared.now.key (took g.R.Keeps.kept c.args.place a.0 Carried one.pass ∷ []) (slots_of c.args.carried) c.args.place (Some a.0) None _ _ _ a.1 c.exchange.ensures.found c.exchange.ensures.seat in
    let same = said_is a.0 c.in-Some.block (sym b.0 ∙ c.in-Some.is) in
    record {
      pass = one.pass;
      is = b.1 ∙ ap (λ (r : g.row.R.Denot). (took g.R.Keeps.kept c.args.place r Carried one.pass ∷ [], (c.args.place, None) ∷ slots_of c.args.carried)) same;
      inside = a.2.inside;
    }

pub returns-clause-some : goal.returns-clause-some
returns-clause-some g c =
    let one = c.requires.pass.1 in
    let a = took_one g.R.Keeps.kept g.R.Keeps.may_draw g.R.Keeps.follows g.R.Keeps.settles g.R.Keeps.lawful g.R.Keeps.leans_on g.R.Keeps.follows_on g.R.Keeps.follows_itself c.args.shared.now.key c.args.shared.now.table_id.slots one.pass (slots_of c.args.carried) c.args.seat.now.me c.args.place c.lock_word-word.result (c.args.number + 1) _ _ one.is c.lock_word-word.ensures c.if-found-ne0.false c.compare_exchange-found.ensures.2 in
    let b = swapped g.R.Keeps.kept g.R.Keeps.may_draw g.R.Keeps.follows g.R.Keeps.settles g.R.Keeps.lawful g.R.Keeps.leans_on g.R.Keeps.follows_on g.R.Keeps.follows_itself c.args.shared.now.key (took g.R.Keeps.kept c.args.place a.0 Carried one.pass ∷ []) (slots_of c.args.carried) c.args.place (Some a.0) None _ _ _ a.1 c.exchange.ensures.found c.exchange.ensures.seat in
    let same = said_is a.0 c.in-Some.block (sym b.0 ∙ c.in-Some.is) in
    let done = took_out g.R.Keeps.kept g.R.Keeps.may_draw g.R.Keeps.follows g.R.Keeps.settles g.R.Keeps.lawful g.R.Keeps.leans_on g.R.Keeps.follows_on g.R.Keeps.follows_itself c.args.shared.now.key c.args.carried one.pass _ _ _ c.args.place a.0 b.1 c.park.ensures.parked in (
      done ∙ (ap (λ z. (map (took g.R.Keeps.kept c.args.place a.0 (custody_beside c.args.carried)) z.0, slots_of (option_or c.args.carried (Some c.args.place)))) (sym one.is)
          ∙ ap (λ (r : g.row.R.Denot). (map (took g.R.Keeps.kept c.args.place r (custody_beside c.args.carried)) c.args.seat.now.me.0, slots_of (option_or c.args.carried (Some c.args.place)))) same),
      subst (λ (z : g.row.R.Denot × List (PassView g.row.R.Denot g.row.R-Event.Denot)). Each (Found g.R.Keeps.kept g.R.Keeps.may_draw g.R.Keeps.follows c.args.place z.0) z.1) (λ i. (same i, (sym one.is i).0)) (a.2, tt),
    )

use Rattle.std.proofs.Common.{rules, ◌≡◌, ◌+◌, ◌∷◌, [], subst, arith}
use Rattle.std.proofs.lemmas.Grind.{common_steps}
use Rattle.std.specs.List.{AllByRecursion}
use Rattle.init_core.specs.declared.event.Event.{Event}
use Rattle.init_lock.specs.Known.{PassFacts, IsNewPass}
use Rattle.guest_threads.specs.declared.guarded.Guarded.{Guarded}
use Rattle.library_tests.proofs.OneRecord.{and_last, may_begin, may_begin_on}
use Rattle.library_tests.proofs.elided.table_of_one.Goals as goal

pub returns-clause-first : goal.returns-clause-first
returns-clause-first c =
    let IsNew : PassFacts Guarded Event → Type 0 = IsNewPass c.in_ok-table.table.id c.in_ok-records.records.items in
    let one : Guarded = record { «record» = c.in_ok-record.record; sleepers = 0 } in
    let is : c.in_ok-records.records.items ≡ one ∷ [] = search rules in
    let all = and_last IsNew c.pop.new.self.items c.in-Some.second (subst (AllByRecursion IsNew) c.in-Some.ensures.items c.in_ok-table.ensures.passes) in
    let new = (and_last IsNew c.pop-2.new.self.items c.in-Some-pop.first (subst (AllByRecursion IsNew) c.in-Some-pop.ensures.items all.0)).1 in
    let number : c.in-Some-pop.first.number ≡ 0 = grind (arith, common_steps) in
    let places : c.in_ok-table.table.places ≡ 1 = search rules in
    let made : c.reserve.new.self ≡ record c.in-Some-pop.first { room = c.in-Some-pop.first.room + 3 } = search rules in (
      search rules,
      search rules,
      may_begin_on c.args.program.now c.in_ok-table.table c.in-Some-pop.first c.reserve.new.self (c.in-Some-pop.first.room + 3) made
          (may_begin c.args.program.now c.in_ok-table.table one c.in_ok-records.records.items c.in-Some-pop.first is c.requires places c.in_ok-table.ensures.threads (omega arith) c.in_ok-record.ensures.class c.in_ok-record.ensures.fields c.in_ok-record.ensures.events new),
    )

pub returns-clause-second : goal.returns-clause-second
returns-clause-second c =
    let IsNew : PassFacts Guarded Event → Type 0 = IsNewPass c.in_ok-table.table.id c.in_ok-records.records.items in
    let one : Guarded = record { «record» = c.in_ok-record.record; sleepers = 0 } in
    let is : c.in_ok-records.records.items ≡ one ∷ [] = search rules in
    let new = (and_last IsNew c.pop.new.self.items c.in-Some.second (subst (AllByRecursion IsNew) c.in-Some.ensures.items c.in_ok-table.ensures.passes)).1 in
    let number : c.in-Some.second.number ≡ 1 = grind (arith, common_steps) in
    let places : c.in_ok-table.table.places ≡ 1 = search rules in
    (number, may_begin c.args.program.now c.in_ok-table.table one c.in_ok-records.records.items c.in-Some.second is c.requires places c.in_ok-table.ensures.threads (omega arith) c.in_ok-record.ensures.class c.in_ok-record.ensures.fields c.in_ok-record.ensures.events new)

use Rattle.std.proofs.Common.{rules, ◌≡◌, ◌+◌, [], ◌∷◌, ◌++◌, map, take, Some, None, slice_index_or, false, IsTrue, refl, sym, ap, ◌∙◌, subst, arith}
use Rattle.std.proofs.Common.{IsSome}
use lib.ListN.{get_elem?}
use mathlib.Core.Option.{some}
use Rattle.std.specs.Mem.Slots.{slots_items, slots_filled}
use Rattle.init_lock.proofs.Ends.{all_at}
use Rattle.init_lock.proofs.Lists.{map_snoc, got_or, cleared, at_low}
use Rattle.std.proofs.lemmas.List.{nil_from_length, take_all, take_more, get_or-set_other}
use Rattle.init_lock.proofs.finish.unload.Goals as goal

pub unreachable-requires : goal.unreachable-requires
unreachable-requires g c =
    let i = c.loop-place.invariant in
    let h = all_at (λ x. IsSome x) (slots_items c.args.closed.now.slots) c.loop-place.place c.take.result c.requires.some (subst (λ z. get_elem? z c.loop-place.place ≡ some c.take.result) i.0 c.take.ensures.value) in
    search rules

pub loop-place-preserved : goal.loop-place-preserved
loop-place-preserved g c =
    let i = c.loop-place.invariant in
    let t = c.take.ensures.others in
    let p = c.in-Ok.ensures in
    let w = c.requires.full.1 in
    let here = got_or (slots_items c.loop-place.closed.slots) c.loop-place.place c.take.result None c.take.ensures.value ∙ (sym c.into_block.ensures ∙ c.in-Some.is) in (
      t.0 ∙ i.0,
      t.2 ∙ i.1,
      p.len ∙ (let a = i.2 in omega arith),
      (let a = i.3 in let b = p.capacity in omega arith),
      ap (λ z. map Some z) p.items ∙ (ap (λ z. map Some (c.loop-place.records.items ++ z ∷ [])) c.into_record.ensures ∙ (map_snoc Some c.loop-place.records.items c.in-Some.block ∙ (ap (λ z. z ++ Some c.in-Some.block ∷ []) i.4 ∙ (ap (λ z. take c.loop-place.place (slots_items c.loop-place.closed.slots) ++ z ∷ []) (sym here)
          ∙ (sym (take_more (slots_items c.loop-place.closed.slots) c.loop-place.place None (at_low (slots_items c.loop-place.closed.slots) c.loop-place.place c.take.result c.take.ensures.value)) ∙ ap (λ z. take (c.loop-place.place + 1) z) (sym t.0)))))),
      (λ k l. ap (λ z. slice_index_or z k false) t.1 ∙ cleared (slots_filled c.loop-place.closed.slots) c.loop-place.place i.5 k l),
      (λ k l m. subst (λ z. IsTrue z) (sym (ap (λ z. slice_index_or z k false) t.1 ∙ get_or-set_other (slots_filled c.loop-place.closed.slots) c.loop-place.place k false false (λ e. absurd (omega arith)))) (i.6 k (omega arith) m)),
    )

pub loop-place-init : goal.loop-place-init
loop-place-init g c =
    let full = c.requires.full in
    let none = nil_from_length c.args.records.now.items (sym c.args.records.now.ok.0 ∙ c.requires.room.0) in (
      refl,
      full.1,
      c.requires.room.0,
      c.requires.room.1,
      ap (map Some) none,
      λ k low. absurd (omega arith),
      λ k low high. full.0 k low (let few = full.1 in omega arith),
    )

pub returns-clause-records : goal.returns-clause-records
returns-clause-records g c =
    let i = c.loop-place.invariant in
    i.4 ∙ take_all c.loop-place.place (slots_items c.loop-place.closed.slots) (let few = i.1 in omega arith) ∙ i.0

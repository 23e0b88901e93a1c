use Rattle.std.proofs.Common.{[], ◌∷◌, ◌++◌, map, Some, sym, ap, ◌∙◌, append_assoc}
use Rattle.init_lock.proofs.Lists.{all_given, map_snoc}
use Rattle.init_lock.proofs.open.shelve.Goals as goal

pub loop-record-preserved : goal.loop-record-preserved
loop-record-preserved g c =
    let i = c.loop-record.invariant in
    let rs = c.loop-record.yielded in
    let r = c.in-Some.record in (
      tt,
      tt,
      c.in_ok-push.ensures.items ∙ (ap (λ z. c.loop-record.slots.items ++ z ∷ []) c.new-in-loop-record.ensures ∙ (ap (λ z. z ++ Some c.in_ok-block.block ∷ []) i.2
          ∙ (ap (λ z. map Some rs ++ Some z ∷ []) c.in_ok-block.ensures ∙ sym (map_snoc Some rs r)))),
      append_assoc rs (r ∷ []) c.next.new.self.rest.items ∙ (ap (λ z. rs ++ z) (sym c.in-Some.ensures.steps.0) ∙ i.3),
    )

pub returns : goal.returns
returns g c =
    let i = c.loop-record.invariant in
    let rest = c.loop-record.record-iterator.rest in
    i.2 ∙ ap (map Some) (all_given c.loop-record.yielded rest.items c.args.records.items rest.len i.3 rest.ok.0 c.in-None.ensures.steps.0)

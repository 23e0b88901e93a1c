use Rattle.std.proofs.Common.{◌-◌, ◌<◌, ◌≤◌, sym, subst, ◌∙◌, arith, length, slice_set, length-set}
use Rattle.init_lock.proofs.Merges.{Emptied, one_out, not_empty, all_out}
use Rattle.init_lock.proofs.merging.empty.Goals as goal

pub places-preserved-in-Some : goal.places-preserved-in-Some
places-preserved-in-Some g c =
    let i = c.places.invariant in
    let more : 0 < c.places.left = let h = c.places-test.true in omega arith in
    let wide : c.places.left ≤ length c.places.window = let a = i.0 in let b = i.1 in let d = c.requires.count in omega arith in
    let pushed = c.push_reserved.ensures in (
      (let a = i.0 in omega arith),
      length-set c.places.window (c.places.left - 1) c.take.new.self ∙ i.1,
      (let a = i.2 in let b = pushed.len in omega arith),
      pushed.capacity ∙ i.3,
      λ events e. subst (λ z. Emptied events (c.places.left - 1) (slice_set c.places.window (c.places.left - 1) z) c.args.merged.now.items c.push_reserved.new.self.items) (sym c.take.ensures.after)
          (one_out events c.places.left c.places.window c.args.merged.now.items c.places.merged.items (i.4 events e) more wide c.index-window-left.result c.in-Some.event c.push_reserved.new.self.items
          (sym c.take.ensures.value ∙ c.in-Some.is) pushed.items),
    )

pub places-preserved : goal.places-preserved
places-preserved g c =
    let i = c.places.invariant in
    let more : 0 < c.places.left = let h = c.places-test.true in omega arith in
    let wide : c.places.left ≤ length c.places.window = let a = i.0 in let b = i.1 in let d = c.requires.count in omega arith in (
      (let a = i.0 in omega arith),
      length-set c.places.window (c.places.left - 1) c.take.new.self ∙ i.1,
      (let a = i.2 in omega arith),
      i.3,
      λ events e. absurd (not_empty events c.places.left c.places.window c.args.merged.now.items c.places.merged.items (i.4 events e) more wide c.index-window-left.result
          (sym c.take.ensures.value ∙ c.in_default.is)),
    )

pub returns-clause-events : goal.returns-clause-events
returns-clause-events g c events e = all_out events c.places.left c.places.window c.args.merged.now.items c.places.merged.items (c.places.invariant.4 events e) (let h = c.places-test.false in omega arith)

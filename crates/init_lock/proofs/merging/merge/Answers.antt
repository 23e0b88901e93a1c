use Rattle.std.proofs.Common.{ℕ, ◌-◌, ◌≤◌, ◌++◌, take, sym, ap, subst, ◌∙◌, arith}
use Rattle.std.specs.List.{All}
use Rattle.init_lock.specs.Merging.{AreJournals, end_of}
use Rattle.init_lock.proofs.Merges.{IsLeft, begun, one_window, written_back}
use Rattle.init_lock.proofs.merging.merge.Goals as goal

pub windows-init : goal.windows-init
windows-init g c = (
  (let a = c.in_ok-merged.ensures.exact in let b = c.in_ok-merged.ensures.len in omega arith),
  (let a = c.in_ok-resize_with.ensures.len in let b = c.min.ensures in omega arith),
  λ log are. subst (IsLeft log c.end_of_all-left.result c.args.journals.items) (sym c.in_ok-merged.ensures.items)
      (begun log c.end_of_all-left.result c.args.journals.items are
      (subst (All (λ j. end_of j.events ≤ c.end_of_all-left.result)) c.as_slice.ensures.value c.end_of_all-left.ensures.above)
      (subst (λ z. (bound : ℕ) → All (λ j. end_of j.events ≤ bound) z → c.end_of_all-left.result ≤ bound) c.as_slice.ensures.value c.end_of_all-left.ensures.least)),
)

pub windows-preserved : goal.windows-preserved
windows-preserved g c =
    let i = c.windows.invariant in
    let start = c.saturating_sub-start.ensures in
    let few = c.empty.ensures.few in
    let capacity = c.empty.ensures.capacity in (
      (let a = i.0 in omega arith),
      (let a = i.1 in omega arith),
      λ log are. subst (λ z. IsLeft log c.saturating_sub-start.result z c.empty.new.merged.items) (sym (written_back c.windows.journals.len c.fill.new.journals _ (let a = c.fill.auto.journals in let b = c.as_mut_slice-in-windows.ensures.len in omega arith)))
          (one_window log c.windows.left c.saturating_sub-start.result c.windows.journals.items c.fill.new.journals c.fill.new.window c.windows.merged.items c.empty.new.merged.items (i.2 log are) (omega arith)
          (λ before after low long all. c.fill.ensures.filled before after low (let a = i.1 in let b = c.as_mut_slice.ensures.len in omega arith) (subst (AreJournals (before ++ after)) (sym c.as_mut_slice-in-windows.ensures.value) all))
          (λ events e. c.empty.ensures.events events (ap (take (c.windows.left - c.saturating_sub-start.result)) (c.as_mut_slice-in-windows-2.ensures.value ∙ written_back _ c.fill.new.window _ (let a = c.fill.ensures.len in let b = c.as_mut_slice.ensures.len in omega arith)) ∙ e))),
    )

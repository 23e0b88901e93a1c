use Rattle.std.proofs.Common.{◌≡◌, ◌<◌, ◌≤◌, [], drop, length, sym, subst, ap, append-nil, ◌∙◌}
use Rattle.std.specs.Prelude.{slice_index_or}
use Rattle.std.proofs.lemmas.List.{drop_all}
use Rattle.replayer.proofs.ordered.outcomes.Goals as goal

pub unreachable-requires : goal.unreachable-requires
unreachable-requires g c =
    let n = c.threads.thread-index in
    let w = c.thread-item.result in
    let value = c.deref-thread-items.ensures.value in
    let d = c.requires n w (subst (λ ts. n < length ts) value c.threads-test.true) in
    c.in_default.not-Some d.0 (ap (λ v. v.done) (c.thread-item.is ∙ ap (λ ts. slice_index_or ts n w) value) ∙ d.1)

pub returns : goal.returns
returns g c =
    let past : drop c.threads.thread-index c.args.run.now.threads.items ≡ [] = drop_all _ _ (subst (λ ts. length ts ≤ c.threads.thread-index) c.deref-thread-items.ensures.value c.threads-test.false) in
    sym (append-nil c.threads.outcomes) ∙ (rw past at c.threads.invariant)

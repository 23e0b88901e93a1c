use Rattle.std.proofs.Common.{rules, ◌≡◌, List, [], ◌++◌, sym, subst, append-nil, arith}
use Rattle.std.proofs.lemmas.Grind.{common_steps}
use Rattle.std.proofs.lemmas.List.{nil_from_length}
use Rattle.guest_threads.specs.declared.work.Worked.{Worked}
use Rattle.guest_threads.specs.AllWork.{Did, Pairs}
use Rattle.guest_threads.proofs.launch.join_all.Goals as goal

pub returns : goal.returns
returns g c =
    let none_left : c.joining.child-iterator.rest.items ≡ [] = nil_from_length c.joining.child-iterator.rest.items (let a = c.in-None.ensures.steps.0 in let o = c.joining.child-iterator.rest.ok in search rules) in
    let given : c.into_iter-child-iterator.result.rest.items ≡ c.args.children.items = search rules in
    let kept : Pairs (λ h w. Did g.B.Bodies.making h.promise.plan.now h.promise.job.value w) c.into_iter-child-iterator.result.rest.items (c.joining.done.items ++ []) = c.joining.invariant.0 [] (subst (λ xs. Pairs (λ h w. Did g.B.Bodies.making h.promise.plan.now h.promise.job.value w) xs []) (sym none_left) tt) in
    subst (λ (ws : List Worked). Pairs (λ h w. Did g.B.Bodies.making h.promise.plan.now h.promise.job.value w) c.args.children.items ws) (append-nil c.joining.done.items)
    (subst (λ xs. Pairs (λ h w. Did g.B.Bodies.making h.promise.plan.now h.promise.job.value w) xs (c.joining.done.items ++ [])) given kept)

pub joining-preserved : goal.joining-preserved
joining-preserved g c = grind (arith, common_steps)

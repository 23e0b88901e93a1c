use Rattle.std.proofs.Common.{◌≡◌, Some, None, sym, ◌∙◌, subst}
use Rattle.frames.specs.Activations.{place_of}
use Rattle.frames.specs.Unwinding.{Unwinds}
use Rattle.frames.proofs.Unwound.{Answers, caught_here, left_last, left_on, none_left}
use Rattle.frames.proofs.frames.Frames.catch.Goals as goal

pub returns-in-Some-handler_in : goal.returns-in-Some-handler_in
returns-in-Some-handler_in c =
    let at : place_of c.loop-at.self ≡ Some c.in-Some.at = sym c.at.ensures ∙ c.in-Some.is in
    let to : Answers c.args.program.now c.args.thrown c.in-Some.at (Some c.in-Some-handler_in.handler) = subst (Answers c.args.program.now c.args.thrown c.in-Some.at) c.in-Some-handler_in.is c.handler_in.ensures in
    c.loop-at.invariant _ _ (rw c.go_to_handler.ensures (caught_here _ _ _ _ _ at to))

pub returns-then-at : goal.returns-then-at
returns-then-at c =
    let at : place_of c.loop-at.self ≡ Some c.in-Some.at = sym c.at.ensures ∙ c.in-Some.is in
    let to : Answers c.args.program.now c.args.thrown c.in-Some.at None = subst (Answers c.args.program.now c.args.thrown c.in-Some.at) c.in_default-handler_in.is c.handler_in.ensures in
    c.loop-at.invariant _ _ (rw c.leave.ensures (left_last _ _ _ _ at to c.if-at.true))

pub loop-at-preserved : goal.loop-at-preserved
loop-at-preserved c = λ rest caught more.
    let at : place_of c.loop-at.self ≡ Some c.in-Some.at = sym c.at.ensures ∙ c.in-Some.is in
    let to : Answers c.args.program.now c.args.thrown c.in-Some.at None = subst (Answers c.args.program.now c.args.thrown c.in-Some.at) c.in_default-handler_in.is c.handler_in.ensures in
    let on : Unwinds c.args.program.now c.args.thrown _ rest caught = rw c.leave.ensures at more in
    c.loop-at.invariant rest caught (left_on _ _ _ _ _ _ at to c.if-at.false on)

pub returns : goal.returns
returns c =
    let at : place_of c.loop-at.self ≡ None = sym c.at.ensures ∙ c.in_default.is in
    c.loop-at.invariant _ _ (none_left _ _ _ at)

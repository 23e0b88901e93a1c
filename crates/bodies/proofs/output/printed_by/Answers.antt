use Rattle.std.proofs.Common.{◌≡◌, ℕ, ◌+◌, ◌<◌, List, ◌∷◌, ◌++◌, length, get_or, drop, sym, ap, append_assoc, append-nil, ◌∙◌}
use Rattle.std.proofs.lemmas.List.{drop_all, drop_more}
use Rattle.init_core.specs.declared.event.Event.{Event}
use Rattle.bodies.specs.Output.{output_in, output_of}
use Rattle.bodies.proofs.output.printed_by.Goals as goal

-- one event's output added to that of the events before it
one_more : (out new : List ℕ) (e : Event) (es : List Event) (i : ℕ) → i < length es → e ≡ get_or es i e
    → out ++ output_of (drop i es) ≡ output_of es → new ≡ out ++ output_in e.kind → new ++ output_of (drop (i + 1) es) ≡ output_of es
one_more out new e es i within is before written =
    ap (λ (z : List ℕ). z ++ output_of (drop (i + 1) es)) written ∙ append_assoc out (output_in e.kind) (output_of (drop (i + 1) es))
    ∙ ap (λ (z : List Event). out ++ output_of z) (sym (drop_more es i e within ∙ ap (λ x. x ∷ drop (i + 1) es) (sym is))) ∙ before

pub loop-event-preserved : goal.loop-event-preserved
loop-event-preserved c =
    let es = c.args.events.now in
    let i = c.loop-event.event-index in
    one_more c.loop-event.output.items _ c.event-item.result es i c.loop-event-test.true c.event-item.is c.loop-event.invariant
    c.in_ok-add_output.ensures

pub loop-event-init : goal.loop-event-init
loop-event-init c = ap (λ (z : List ℕ). z ++ output_of c.args.events.now) c.new-output.ensures.items

pub returns : goal.returns
returns c =
    let items = c.loop-event.output.items in
    let rest = drop_all c.loop-event.event-index c.args.events.now c.loop-event-test.false in
    c.from_vec.ensures ∙ sym (append-nil items) ∙ ap (λ (z : List Event). items ++ output_of z) (sym rest) ∙ c.loop-event.invariant

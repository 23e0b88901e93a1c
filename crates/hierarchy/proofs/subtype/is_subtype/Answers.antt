use Rattle.std.proofs.Common.{rules, ◌∙◌, ◌≤◌, sym, ap, length, arith, option_copied, false}
use Rattle.hierarchy.proofs.Searches.{length-get_none}
use Rattle.hierarchy.proofs.Subtypes.{subtype_stored, subtype_other, below_built_in, below_unknown}
use Rattle.hierarchy.proofs.subtype.is_subtype.Goals as goal

pub returns-in-Some : goal.returns-in-Some
returns-in-Some c =
    subtype_stored c.args.classes.now c.args.id c.args.other c.in-Some.order.now c.contains.result c.requires.acyclic
    (c.requires.orders.are c.args.id.number c.in-Some.order.now (sym c.list_at.ensures ∙ ap option_copied c.in-Some.is)) c.contains.ensures

pub returns-in-Some-at : goal.returns-in-Some-at
returns-in-Some-at c =
    let past : length c.args.classes.now ≤ c.args.id.number = omega (arith, length-get_none c.args.field_orders.now c.args.id.number (sym (sym c.list_at.ensures ∙ ap option_copied c.in-None.is)), c.requires.orders.count_is) in
    subtype_other c.args.classes.now c.args.id c.args.other c.is_built_in_below.result (λ e. search rules)
    (below_built_in c.args.classes.now c.args.id c.args.other c.in-Some-at.class c.is_built_in_below.result past (sym c.at.ensures ∙ c.in-Some-at.is) c.is_built_in_below.ensures)

pub returns-in-None-at : goal.returns-in-None-at
returns-in-None-at c =
    let past : length c.args.classes.now ≤ c.args.id.number = omega (arith, length-get_none c.args.field_orders.now c.args.id.number (sym (sym c.list_at.ensures ∙ ap option_copied c.in-None.is)), c.requires.orders.count_is) in
    subtype_other c.args.classes.now c.args.id c.args.other false (λ e. search rules)
    (below_unknown c.args.classes.now c.args.id c.args.other past (sym c.at.ensures ∙ c.in-None-at.is))

use Rattle.std.proofs.Common.{[], ◌∷◌, ◌∙◌, ap}
use Rattle.std.specs.Prelude.{filter}
use Rattle.std.proofs.lemmas.Result.{IfOk-weaker}
use Rattle.hierarchy.specs.ClassLists.{add_all}
use Rattle.hierarchy.specs.Hierarchy.{interfaces_of}
use Rattle.init_core.specs.Needs.{is_in_file}
use Rattle.init_core.proofs.NeedsByKind.{distinct-one, needed}
use Rattle.init_core.proofs.order.gather_needs.Goals as goal

pub returns : goal.returns
returns c =
    let p = c.args.program.now in
    let first = filter (is_in_file p) (c.args.superclass ∷ []) in
    let superclass = c.in_ok-add_superclass.ensures ∙ ap (λ keys. add_all keys first) c.requires
    ∙ distinct-one (is_in_file p) c.args.superclass in
    let whole = needed p c.args.superclass (interfaces_of p.classes c.args.id) c.add_superclass.new.found.keys c.add_interfaces.new.found.keys superclass c.in_ok-add_interfaces.ensures in
    IfOk-weaker c.from_slice.result _ _ (λ made is. is ∙ c.as_slice.ensures.keys ∙ whole) c.from_slice.ensures.items

use Rattle.std.proofs.Common.{◌≡◌, ◌∙◌, ap, sym}
use Rattle.std.specs.Prelude.{filter}
use Rattle.std.proofs.lemmas.Result.{on_ok_weaker}
use Rattle.hierarchy.specs.declared.edition.Edition.TheVariants as edition
use Rattle.hierarchy.specs.ClassLists.{add_all}
use Rattle.init_core.specs.Needs.{declares_default}
use Rattle.init_core.proofs.NeedsByKind.{interfaces_by_default}
use Rattle.init_core.proofs.order.add_interfaces.Goals as goal

pub returns-in-Eight : goal.returns-in-Eight
returns-in-Eight c =
    let p = c.args.program.now in
    let found = c.args.found.now.keys in
    let eight : p.edition ≡ edition.Eight = sym c.edition.ensures ∙ c.in-Eight.is in
    on_ok_weaker c.add_defaults.result (λ added. interfaces_by_default p c.args.id found c.add_defaults.new.found.keys eight (added
    ∙ ap (λ classes. add_all found (filter (declares_default p) classes)) c.superinterfaces.ensures)) c.add_defaults.ensures

use Rattle.std.proofs.Common.{rules, ap}
use Rattle.std.proofs.lemmas.Option.{slice_get_read}
use Rattle.hierarchy.specs.FirstFault.{name_in_class}
use Rattle.hierarchy.proofs.linking.name_of_class.Goals as goal

pub returns : goal.returns
returns c = ap name_in_class (slice_get_read c.args.classes.items _ c.args.place c.swap_remove.result (search rules) c.requires c.swap_remove.ensures.value)

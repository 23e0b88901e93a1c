use Rattle.std.proofs.Common.{◌∙◌, sym, ap}
use Rattle.std.specs.Option.{option_copied}
use Rattle.hierarchy.proofs.Searches.{length-get_none}
use Rattle.hierarchy.proofs.program.Program.declared_field.Goals as goal

pub field_among-requires : goal.field_among-requires
field_among-requires c =
    let are = c.member_places.ensures c.in-Some.class.now (sym c.class.ensures ∙ ap option_copied c.in-Some.is) in
    record { places = rw (c.as_slice.ensures, c.deref.ensures.value) are.fields }

pub built_in_at-requires : goal.built_in_at-requires
built_in_at-requires c = length-get_none c.args.self.now.classes c.args.id.number (ap option_copied (sym c.in-None.is) ∙ c.class.ensures)

use Rattle.std.proofs.Common.{sym, rules, arith, slice_index_or}
use Rattle.std.proofs.lemmas.Grind.{common_steps}
use Rattle.std.proofs.lemmas.Option.{gets}
use Rattle.std.proofs.lemmas.Fn.{always_returns_same}
use Rattle.hierarchy.specs.Fields.{is_field, field_at}
use Rattle.hierarchy.specs.MemberOrder.{field_key, key_of_field, key_at, key_cmp}
use Rattle.hierarchy.proofs.MemberOrder.{field_tells}
use Rattle.hierarchy.proofs.MemberPlaces.{searchable, found_first, found_none, not_beyond}
use Rattle.hierarchy.proofs.fields.field_among.Goals as goal

pub returns-in_default : goal.returns-in_default
returns-in_default c =
    let xs = c.args.fields.now in
    let places = c.args.places.now in
    let name = c.args.name.now in
    let type = c.args.field_type.now in
    let wanted = field_key name type in
    let search_of = c.in_default.ensures.position (λ k. key_cmp (key_at key_of_field xs k) wanted) (always_returns_same _ _ _ (λ a r f h. search rules)) in
    sym (found_none key_of_field xs places c.requires.places wanted (is_field name type) (field_tells name type) (field_at c.args.class) _ (search_of (searchable key_of_field xs places c.requires.places wanted (is_field name type) (field_tells name type))))

pub returns-in_default-get : goal.returns-in_default-get
returns-in_default-get c =
    let xs = c.args.fields.now in
    let wanted = field_key c.args.name.now c.args.field_type.now in
    let found = c.in-Ok.ensures.position (λ k. key_cmp (key_at key_of_field xs k) wanted) (always_returns_same _ _ _ (λ a r f h. search rules)) 0 in
    absurd (not_beyond key_of_field xs (slice_index_or c.args.places.now c.in-Ok.found 0) c.args.name.now _ (grind (arith, common_steps, gets)) found)

pub returns : goal.returns
returns c =
    let xs = c.args.fields.now in
    let name = c.args.name.now in
    let type = c.args.field_type.now in
    let wanted = field_key name type in
    let found = c.in-Ok.ensures.position (λ k. key_cmp (key_at key_of_field xs k) wanted) (always_returns_same _ _ _ (λ a r f h. search rules)) 0 in
    sym (found_first key_of_field xs c.args.places.now c.requires.places wanted (is_field name type) (field_tells name type) (field_at c.args.class) (slice_index_or c.args.places.now c.in-Ok.found 0) c.in-Some.field.now (grind (arith, common_steps, gets)) found)

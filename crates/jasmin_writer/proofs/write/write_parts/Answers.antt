use Rattle.std.proofs.Common.{◌≡◌, Result, Ok, Err, IfOk, append_assoc, ◌∙◌}
use Rattle.std.proofs.lemmas.Grind.{flat_map-append}
use Rattle.jasmin_writer.specs.Canonical.{class_lines, canonical_text}
use Rattle.jasmin_writer.proofs.write.write_parts.Goals as goal

-- of what holds twice over
if_both : {T E : Type 0} (r : Result T E) (P Q R : T → Type 0) → ((x : T) → P x → Q x → R x) → IfOk r P → IfOk r Q → IfOk r R
if_both (Ok x) P Q R f p q = f x p q
if_both (Err e) P Q R f p q = tt

pub returns : goal.returns
unfolding class_lines
returns c =
    if_both c.into_text.result _ (λ text. text.items ≡ c.push_methods.new.text.text) (λ text. text.items ≡ canonical_text c.args.class.now)
    (λ text whole is.
    let methods = c.push_methods.ensures whole in
    let fields = c.push_fields.ensures methods.0 in
    let interfaces = c.push_interfaces.ensures fields.0 in
    let superclass = c.push_super_line.ensures interfaces.0 in
    let class = c.push_class_line.ensures superclass.0 in
    is ∙ methods.1
    ∙ rw (fields.1, interfaces.1, superclass.1, class.1, c.new-text.ensures.text)
    (rw (c.as_slice.ensures, c.as_slice-2.ensures, c.as_slice-3.ensures) (simp (class_lines, flat_map-append, append_assoc))))
    c.into_text.ensures.whole c.into_text.ensures.text

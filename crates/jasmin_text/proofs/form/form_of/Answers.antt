use Rattle.std.proofs.Common.{◌≡◌, ◌≢◌, ◌∙◌, Option, Some, None, refl, sym, ap}
use Rattle.std.specs.Option.{option_or}
use Rattle.jasmin_text.specs.Tables.{find_row}
use Rattle.jasmin_text.specs.Forms.{form_at, forms, common_forms, other_forms}
use Rattle.jasmin_text.proofs.Tables.{find_after}
use Rattle.jasmin_text.proofs.form.form_of.Goals as goal

kept : {T : Type 0} (o others : Option T) → o ≢ None → o ≡ option_or o others
kept None others some = absurd (some refl)
kept (Some x) others some = refl

pub returns-in-None : goal.returns-in-None
unfolding form_at forms
returns-in-None c =
    let others = find_row c.args.word.now other_forms in
    c.find-in-None.ensures ∙ sym (find_after c.args.word.now common_forms other_forms ∙ ap (λ o. option_or o others) (sym c.find.ensures ∙ c.in-None.is))

pub returns-in_default : goal.returns-in_default
unfolding form_at forms
returns-in_default c =
    let others = find_row c.args.word.now other_forms in
    kept c.find.result others c.in_default.not-None ∙ (ap (λ o. option_or o others) c.find.ensures ∙ sym (find_after c.args.word.now common_forms other_forms))

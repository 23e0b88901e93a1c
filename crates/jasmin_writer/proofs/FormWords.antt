-- The word of an instruction is read as its form.
use Rattle.std.proofs.Common.{◌≡◌, Some, refl}
use Rattle.jasmin_text.specs.Forms.{form_at, forms}
use Rattle.jasmin_writer.specs.CanonicalWords.{word_of}
use Rattle.jasmin_text.specs.declared.form.Form.TheVariants as form
use Rattle.jasmin_text.specs.declared.instruction.Plain.{Plain}
use Rattle.jasmin_text.specs.declared.instruction.Plain.TheVariants as v_plain
use Rattle.jasmin_text.specs.declared.instruction.Local.{Local}
use Rattle.jasmin_text.specs.declared.instruction.Local.TheVariants as v_local
use Rattle.jasmin_text.specs.declared.instruction.Jump.{Jump}
use Rattle.jasmin_text.specs.declared.instruction.Jump.TheVariants as v_jump
use Rattle.jasmin_text.specs.declared.instruction.FieldAccess.{FieldAccess}
use Rattle.jasmin_text.specs.declared.instruction.FieldAccess.TheVariants as v_field
use Rattle.jasmin_text.specs.declared.instruction.Call.{Call}
use Rattle.jasmin_text.specs.declared.instruction.Call.TheVariants as v_call
use Rattle.jasmin_text.specs.declared.instruction.TypeUse.{TypeUse}
use Rattle.jasmin_text.specs.declared.instruction.TypeUse.TheVariants as v_types

pub plain_again : (w : Plain) → form_at (word_of (form.Plain w)) ≡ Some (form.Plain w)
unfolding form_at forms word_of
plain_again v_plain.Nop = refl
plain_again w = refl

pub local_again : (w : Local) → form_at (word_of (form.Local w)) ≡ Some (form.Local w)
unfolding form_at forms word_of
local_again v_local.ILoad = refl
local_again w = refl

pub jump_again : (w : Jump) → form_at (word_of (form.Jump w)) ≡ Some (form.Jump w)
unfolding form_at forms word_of
jump_again v_jump.IfEq = refl
jump_again w = refl

pub field_again : (w : FieldAccess) → form_at (word_of (form.Field w)) ≡ Some (form.Field w)
unfolding form_at forms word_of
field_again v_field.GetStatic = refl
field_again w = refl

pub call_again : (w : Call) → form_at (word_of (form.Call w)) ≡ Some (form.Call w)
unfolding form_at forms word_of
call_again v_call.InvokeStatic = refl
call_again w = refl

pub types_again : (w : TypeUse) → form_at (word_of (form.TypeUse w)) ≡ Some (form.TypeUse w)
unfolding form_at forms word_of
types_again v_types.ANewArray = refl
types_again w = refl

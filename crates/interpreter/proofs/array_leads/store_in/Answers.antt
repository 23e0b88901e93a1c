use Rattle.std.proofs.Common.{◌≡◌, ℕ, Bool, true, Option, sym, ap, ◌∙◌}
use Rattle.std.specs.Prelude.{◌&&◌, if◌then◌else◌}
use Rattle.code.specs.declared.class_code.ResolvedType.{ResolvedType}
use Rattle.code.specs.declared.op.ElementKind.{ElementKind}
use Rattle.hierarchy.specs.declared.value.Value.{Value}
use Rattle.frames.specs.declared.cell.Cell.{Cell}
use Rattle.interpreter.specs.declared.index.Index.{Index}
use Rattle.interpreter.specs.declared.lead.Lead.{Lead}
use Rattle.interpreter.specs.ArrayLeads.{is_stored, serves, stored}
use Rattle.interpreter.specs.Fitting.{verify}
use Rattle.interpreter.proofs.array_leads.store_in.Goals as goal

is_written : (k : ElementKind) (r : ℕ) (i : Index) (v : Cell) (fits kind served : Bool) (held type : Option ResolvedType) (old value : Option Value) (l : Lead) → held ≡ type → old ≡ value → kind ≡ is_stored k v → kind ≡ true → served ≡ serves k held → served ≡ true → l ≡ stored fits r i old v →
    l ≡ (if is_stored k v && serves k type then stored fits r i value v else verify)
is_written k r i v fits kind served held type old value l of there is kept does too said =
    let both : (is_stored k v && serves k type) ≡ true = ap (λ t. t && serves k type) (sym is ∙ kept) ∙ (ap (serves k) (sym of) ∙ (sym does ∙ too)) in
    said ∙ (ap (λ o. stored fits r i o v) there ∙ sym (ap (λ t. if t then stored fits r i value v else verify) both))

pub returns-then-serves : goal.returns-then-serves
returns-then-serves c = (
  c.is_storable-fits.result,
  c.is_storable-fits.ensures,
  is_written c.args.kind c.args.array c.args.index c.args.value c.is_storable-fits.result c.is_stored.result c.serves.result c.typed_element-held.result.0 _ c.typed_element-held.result.1 _ c.stored.result
      c.typed_element-held.ensures.held c.typed_element-held.ensures.element c.is_stored.ensures c.if-is_stored.true c.serves.ensures c.if-serves.true c.stored.ensures,
)

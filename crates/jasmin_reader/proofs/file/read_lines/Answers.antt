use Rattle.std.proofs.Common.{rules, sym, ◌∙◌, refl, subst, arith, Result}
use Rattle.jasmin_text.specs.declared.class_text.ClassParts.{ClassParts}
use Rattle.jasmin_reader.specs.declared.fault.ReadFault.{ReadFault}
use Rattle.jasmin_reader.specs.File.{class_at, Reads, Tells}
use Rattle.jasmin_reader.proofs.ClassRows.{read_is_spellable}
use Rattle.jasmin_reader.proofs.Lines.{goes_on, fails, is_done}
use Rattle.jasmin_reader.proofs.file.read_lines.Goals as goal

pub loop-rest-init : goal.loop-rest-init
unfolding class_at
loop-rest-init c = rw (c.requires) (refl, omega arith)

pub loop-rest-preserved : goal.loop-rest-preserved
loop-rest-preserved c = (goes_on c.loop-rest.last c.loop-rest.reader c.add_line.new.reader c.loop-rest.rest.now c.cut.result.0.now c.cut.result.1.now (class_at c.args.bytes.now) c.cut.ensures.lines (search rules) c.loop-rest.invariant.0, omega (arith, c.loop-rest.invariant.1, c.cut.ensures.shorter))

pub finish-requires : goal.finish-requires
finish-requires c = λ parts e. read_is_spellable c.args.bytes.now parts (sym (is_done c.loop-rest.last c.loop-rest.reader c.loop-rest.rest.now (class_at c.args.bytes.now) (search rules) c.loop-rest.invariant.0) ∙ e)

pub returns : goal.returns
returns c = let e = is_done c.loop-rest.last c.loop-rest.reader c.loop-rest.rest.now (class_at c.args.bytes.now) (search rules) c.loop-rest.invariant.0 in subst (λ (t : Result ClassParts ReadFault). Reads c.finish.result t) e c.finish.ensures

pub returns-in-Err : goal.returns-in-Err
returns-in-Err c = subst (λ (f : ReadFault). Tells f (class_at c.args.bytes.now)) (sym c.fault_on.ensures) (fails c.loop-rest.last c.loop-rest.reader c.loop-rest.rest.now c.cut.result.0.now c.cut.result.1.now (class_at c.args.bytes.now) c.in-Err.error c.cut.ensures.lines c.in-Err.ensures c.loop-rest.invariant.0)

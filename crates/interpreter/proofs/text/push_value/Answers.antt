use Rattle.std.proofs.Common.{Some, rules, ap, sym, subst, ◌∙◌, w32}
use Rattle.std.proofs.lemmas.Int.{to_z-of_z, ints}
use Rattle.sequence.specs.Written.{Adds}
use Rattle.frames.specs.declared.cell.Cell.{Cell}
use Rattle.frames.specs.declared.cell.Cell.TheVariants.{Int}
use Rattle.interpreter.specs.Printing.{text_of}
use Rattle.interpreter.proofs.text.push_value.Goals as goal

pub returns-in-Int : goal.returns-in-Int
returns-in-Int c =
    let same = to_z-of_z w32 c.in-Int.number (search (rules, ints)) in
    rw c.in-Some.is (subst (λ (v : Cell). Adds c.args.text.now (text_of c.args.program.now c.args.printed (Some v)) c.push_int.new.text) (ap Int same ∙ sym c.in-Int.is) (c.push_int.ensures c.args.program.now))

pub returns-in-Null : goal.returns-in-Null
returns-in-Null c =
    rw c.in-Some.is (subst (λ (v : Cell). Adds c.args.text.now (text_of c.args.program.now c.args.printed (Some v)) c.push_null.new.text) (sym c.in-Null.is) (c.push_null.ensures c.args.program.now))

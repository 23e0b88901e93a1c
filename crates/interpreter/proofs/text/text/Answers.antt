use Rattle.std.proofs.Common.{◌≡◌, rules}
use Rattle.interpreter.specs.Printing.{text_by}
use Rattle.interpreter.proofs.PrintedTexts.{printed_is_utf8}
use Rattle.interpreter.proofs.text.text.Goals as goal

pub returns-clause-utf8 : goal.returns-clause-utf8
returns-clause-utf8 c =
    let same : c.from_vec.result ≡ text_by c.args.program.now c.args.method c.args.value = search rules in
    rw same (printed_is_utf8 c.args.program.now c.is_linked.ensures.linked c.args.method c.args.value)

use Rattle.std.proofs.Common.{◌∙◌, ◌-◌, arith, drop, length, ap, sym}
use Rattle.std.proofs.lemmas.List.{take_all, length-drop, nil_from_length}
use Rattle.jasmin_reader.proofs.Lines.{lines_are}
use Rattle.jasmin_reader.proofs.file.cut.Goals as goal

pub returns-in-empty-clause-lines : goal.returns-in-empty-clause-lines
returns-in-empty-clause-lines c =
    let none = nil_from_length c.split_at.result.1.now (omega arith) in
    rw (c.split_at.ensures.front, ← (ap (drop 1) none ∙ sym none), c.split_at.ensures.back, c.line_length.ensures.value)
    (lines_are c.args.bytes.now c.requires)

pub returns-in-len1-up-clause-lines : goal.returns-in-len1-up-clause-lines
returns-in-len1-up-clause-lines c =
    let l = length-drop 1 c.split_at.result.1.now in
    let all = take_all (length c.split_at.result.1.now - 1) (drop 1 c.split_at.result.1.now) (omega arith) in
    rw (all, c.split_at.ensures.front, c.split_at.ensures.back, c.line_length.ensures.value)
    (lines_are c.args.bytes.now c.requires)

use Rattle.std.proofs.Common.{◌≡◌, arith, rules}
use Rattle.cli.specs.CutShort.{unread, unshown, untold}
use Rattle.cli.specs.FaultText.{fault_line}
use Rattle.cli.specs.declared.fault.Fault.TheVariants.{Memory, Output}
use Rattle.cli.proofs.Emitted.{told_front}
use Rattle.cli.proofs.KnownOutput.{keeps_same}
use Rattle.cli.proofs.serving.tell_words.Goals as goal

pub returns-then-not-is_shown-clause-cut : goal.returns-then-not-is_shown-clause-cut
returns-then-not-is_shown-clause-cut g c = λ three. unshown (search rules)
    (told_front (g.E.Write.contents c.args.err.now) (g.E.Write.contents c.tell-then-not-is_shown.new.err) (fault_line Output) c.tell-then-not-is_shown.result c.tell-then-not-is_shown.ensures.whole c.tell-then-not-is_shown.ensures.short)

pub returns-in-OutOfMemory-clause-cut : goal.returns-in-OutOfMemory-clause-cut
returns-in-OutOfMemory-clause-cut g c = λ three. unread (search rules) (search rules) (told_front (g.E.Write.contents c.args.err.now) (g.E.Write.contents c.tell.new.err) (fault_line Memory) c.tell.result c.tell.ensures.whole c.tell.ensures.short)

pub returns-then-is_err : goal.returns-then-is_err
returns-then-is_err g c = record {
  status = search rules;
  shown = λ low. absurd (omega (arith, low));
  quiet = λ low. absurd (omega (arith, low));
  untouched = λ two. let no : 3 ≡ 2 = two in absurd (omega (arith, no));
  wrong = λ two. let no : 3 ≡ 2 = two in absurd (omega (arith, no));
  cut = λ three. untold (search rules) (search rules) (search rules) (keeps_same (g.O.Write.contents c.args.out.now));
}

use Rattle.std.proofs.Common.{◌≡◌, Option, Some, None, sym, subst, ◌∙◌}
use Rattle.std.specs.Prelude.{ℤ, IfSome}
use Rattle.jasmin_words.specs.Integers.{integer_of, IsInteger}
use Rattle.sequence.proofs.Results.{HoldsIn}
use Rattle.jasmin_words.proofs.Numbers.{integer_is, integer_again}
use Rattle.jasmin_words.proofs.integer.parse_integer.Goals as goal

if_of : (P : ℤ → Type 0) (o : Option ℤ) → HoldsIn P o → IfSome o P
if_of P (Some x) h = h
if_of P None h = tt

as_if : (P : ℤ → Type 0) (o r : Option ℤ) → r ≡ o → HoldsIn P o → IfSome r P
as_if P o r e h = subst (λ (z : Option ℤ). IfSome z P) (sym e) (if_of P o h)

pub returns-clause-found : goal.returns-clause-found
returns-clause-found c = as_if (IsInteger c.args.word.now) (integer_of c.args.word.now) c.integer_in.result c.integer_in.ensures (integer_is c.args.word.now)

pub returns-clause-only : goal.returns-clause-only
returns-clause-only c n h = c.integer_in.ensures ∙ integer_again c.args.word.now n h

use Rattle.std.proofs.Common.{◌≡◌, true, false, sym, ◌∙◌}
use Rattle.interpreter.proofs.Saying.{class_same, left_is_answer, none_is_answer, other_is_answer, same_class}
use Rattle.interpreter.proofs.says.answer.Goals as goal
use Rattle.interpreter.proofs.says.answer.Goals.{else-eq-via-then-eq+else-is_throwable, else-eq-via-else-eq}

pub returns-then-is_throwable : goal.returns-then-is_throwable
returns-then-is_throwable c = left_is_answer _ _ _ _ _ c.in-Some.is (same_class _ _ _ c.eq.ensures c.if-eq.true) c.is_throwable.ensures c.if-is_throwable.true

pub returns-else-eq : goal.returns-else-eq
returns-else-eq c = elim c.else-eq.branch [
  | else-eq-via-then-eq+else-is_throwable w ↦ other_is_answer _ _ _ c.in-Some.thrown _ c.in-Some.is (λ same h. let q : true ≡ false = sym (w.is_throwable.ensures.1 h) ∙ w.if-is_throwable.false in cc) c.no_class.ensures
  | else-eq-via-else-eq w ↦ other_is_answer _ _ _ c.in-Some.thrown _ c.in-Some.is (λ same h. let q : true ≡ false = sym (class_same _ _ _ c.eq.ensures same) ∙ w.if-eq.false in cc) c.no_class.ensures
]

pub returns-in-None : goal.returns-in-None
returns-in-None c = none_is_answer _ _ _ _ c.in-None.is c.no_class-in-None.ensures

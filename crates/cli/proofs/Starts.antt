-- What runs the code of several threads.
use Rattle.std.proofs.Common.{◌≡◌, ℕ, suc, ◌+◌, List, [], ◌∷◌, ◌++◌, length, ap, sym, ◌∙◌, arith}
use Rattle.std.proofs.lemmas.List.{length-append}
use Rattle.interpreter.specs.declared.interpreter.Interpreter.{Interpreter}
use Rattle.interpreter.specs.CodeRun.{interpreter_at_start}
use Rattle.cli.specs.Running.{starts_below}

-- one thread more
pub one_more : (xs : List Interpreter) (x : Interpreter) (steps n : ℕ) → xs ≡ starts_below (length xs) steps → x ≡ interpreter_at_start n steps → n ≡ length xs → xs ++ x ∷ [] ≡ starts_below (length (xs ++ x ∷ [])) steps
one_more xs x steps n e is same =
    let one : length (xs ++ x ∷ []) ≡ length xs + 1 = length-append xs (x ∷ []) in
    let count : length (xs ++ x ∷ []) ≡ suc (length xs) = omega (arith, one) in
    ap (λ (ys : List Interpreter). ys ++ x ∷ []) e ∙ ap (λ (y : Interpreter). starts_below (length xs) steps ++ y ∷ []) (is ∙ ap (λ k. interpreter_at_start k steps) same) ∙ ap (λ k. starts_below k steps) (sym count)

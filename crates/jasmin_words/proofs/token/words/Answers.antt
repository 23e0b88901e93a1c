use Rattle.std.proofs.Common.{◌≡◌, true, List, Result, Ok, Err, sym, subst}
use Rattle.std.specs.Prelude.{IfOk}
use Rattle.jasmin_words.specs.Lexing.{Item, words_of}
use Rattle.jasmin_words.specs.Spelling.{IsSpelled, AreWords, AreLexed}
use Rattle.jasmin_words.proofs.Spelled.{spelled_again}
use Rattle.jasmin_words.proofs.Taken.{spelled_taken}
use Rattle.jasmin_words.proofs.Lexed.{are_lexed}
use Rattle.jasmin_words.proofs.token.words.Goals as goal

-- what holds of the words of the line holds of what was read
moved : {A E : Type 0} (view : A → List Item) (P : List Item → Type 0) (words : List Item) (r : Result A E) → P words → IfOk r (λ x. view x ≡ words) → IfOk r (λ x. P (view x))
moved view P words (Ok x) p h = subst P (sym h) p
moved view P words (Err e) p h = tt

pub returns-clause-found : goal.returns-clause-found
returns-clause-found c = moved _ (λ (items : List Item). AreWords items → IsSpelled true c.args.line.now items) (words_of c.args.line.now) c.all_words.result (spelled_taken true c.args.line.now) c.all_words.ensures

pub returns-clause-only : goal.returns-clause-only
returns-clause-only c items h = moved _ (λ (found : List Item). found ≡ items) (words_of c.args.line.now) c.all_words.result (spelled_again true c.args.line.now items h) c.all_words.ensures

pub returns-clause-lexed : goal.returns-clause-lexed
returns-clause-lexed c = moved _ AreLexed (words_of c.args.line.now) c.all_words.result (are_lexed true c.args.line.now) c.all_words.ensures

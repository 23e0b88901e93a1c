use Rattle.std.proofs.Common.{◌≡◌, ℕ, List, Result, Ok, Err, sym, ◌∙◌}
use Rattle.std.proofs.lemmas.Bool.{false_from_ne_true}
use Rattle.std.specs.Prelude.{MatchResult, is_ok}
use Rattle.std.specs.Str.{IsUtf8, is_utf8}
use Rattle.std.proofs.lemmas.Str.{is_utf8-from_IsUtf8, IsUtf8-from_is_utf8}
use Rattle.jasmin_words.proofs.token.is_text.Goals as goal

test : {A E : Type 0} (P : A → Type 0) (Q : E → Type 0) (bs : List ℕ) (r : Result A E) → MatchResult r P Q → ((x : A) → P x → IsUtf8 bs) → ((e : E) → Q e → IsUtf8 bs → ⊥) → is_ok r ≡ is_utf8 bs
test P Q bs (Ok x) h up down = sym (is_utf8-from_IsUtf8 bs (up x h))
test P Q bs (Err e) h up down = sym (false_from_ne_true (is_utf8 bs) (λ t. down e h (IsUtf8-from_is_utf8 bs t)))

pub returns : goal.returns
returns c = c.is_ok.ensures.value ∙ test _ _ c.args.bytes.now c.from_utf8.result c.from_utf8.ensures.cases (λ x h. h.1) (λ e h. h.0)

use Rattle.std.proofs.Common.{◌≡◌, ℕ, ◌-◌, ◌<◌, ◌≤◌, true, false, List, [], ◌∷◌, Some, None, length, get_or, take, drop, refl, sym, ap, arith, ◌∙◌}
use Rattle.std.specs.Borrow.{Bor}
use Rattle.std.specs.Str.{bytes_eq}
use Rattle.std.proofs.lemmas.List.{take_all}
use Rattle.jasmin_text.specs.Tables.{find_row, rows}
use Rattle.jasmin_text.proofs.table.find.Goals as goal

-- the first row has the word
first_fits : {T : Type 0} (w : List ℕ) (rest : List (Bor (List ℕ) × T)) (d e : Bor (List ℕ) × T) → 1 ≤ length rest
    → true ≡ bytes_eq w (get_or rest 0 d).0.now → Some (get_or rest 0 e).1 ≡ find_row w (rows rest)
first_fits w [] d e some same = absurd (omega arith)
first_fits w (r ∷ rest) d e some same = rw (← same) refl

-- the first row has another word
passes_first : {T : Type 0} (w : List ℕ) (rest : List (Bor (List ℕ) × T)) (d : Bor (List ℕ) × T) → 1 ≤ length rest
    → false ≡ bytes_eq w (get_or rest 0 d).0.now → find_row w (rows (take (length rest - 1) (drop 1 rest))) ≡ find_row w (rows rest)
passes_first w [] d some other = absurd (omega arith)
passes_first w (r ∷ rest) d some other =
    rw (← other) (ap (λ (z : List (Bor (List ℕ) × _)). find_row w (rows z)) (take_all (length (r ∷ rest) - 1) rest (omega arith)))

none_left : {T : Type 0} (w : List ℕ) (rest : List (Bor (List ℕ) × T)) → length rest < 1 → find_row w (rows rest) ≡ None
none_left w [] none = refl
none_left w (r ∷ rest) none = absurd (omega arith)

pub returns-then-same : goal.returns-then-same
returns-then-same g c =
    let w = c.args.word.now in
    first_fits w c.loop-rest.rest.now c.index-rest-0.result c.index-rest-0-in-loop-rest.result c.in-len1-up.len_at_least c.if-same.ensures
    ∙ c.loop-rest.invariant

pub loop-rest-preserved : goal.loop-rest-preserved
loop-rest-preserved g c =
    let w = c.args.word.now in
    passes_first w c.loop-rest.rest.now c.index-rest-0.result c.in-len1-up.len_at_least c.if-same.ensures ∙ c.loop-rest.invariant

pub returns : goal.returns
returns g c = sym (none_left c.args.word.now c.loop-rest.rest.now c.in_default.len_below) ∙ c.loop-rest.invariant

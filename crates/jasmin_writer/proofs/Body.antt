-- A body, instruction by instruction.
use Rattle.std.proofs.Common.{◌≡◌, ℕ, ◌+◌, Bool, List, [], ◌∷◌, ◌++◌, ◌<◌, ◌≤◌, suc, length, get_or, drop, sym, ap, subst, ◌∙◌, append_assoc, add-one, drop-cons}
use Rattle.std.proofs.Math.ListN.{drop_of_length-le}
use Rattle.std.proofs.lemmas.Grind.{flat_map-append}
use Rattle.jasmin_text.specs.declared.instruction.Instruction.{Instruction}
use Rattle.jasmin_writer.specs.Canonical.{ended, ended_all, lines_if, is_named, label_line, instruction_lines, place_lines, body_lines}

pub goes_on : (ps : List ℕ) (place : ℕ) (i : Instruction ℕ) (rest : List (Instruction ℕ)) (before labelled after total : List ℕ) (b : Bool) → b ≡ is_named ps place
    → labelled ≡ before ++ ended_all (lines_if b (label_line place)) → after ≡ labelled ++ ended_all (instruction_lines i)
    → before ++ ended_all (body_lines ps place (i ∷ rest)) ≡ total → after ++ ended_all (body_lines ps (place + 1) rest) ≡ total
unfolding body_lines
goes_on ps place i rest before labelled after total b named e f so_far =
    let same : labelled ≡ before ++ ended_all (place_lines ps place) = e ∙ ap (λ (t : Bool). before ++ ended_all (lines_if t (label_line place))) named in
    let split : ended_all (body_lines ps place (i ∷ rest)) ≡ (ended_all (place_lines ps place) ++ ended_all (instruction_lines i)) ++ ended_all (body_lines ps (place + 1) rest) =
    flat_map-append ended (place_lines ps place ++ instruction_lines i) (body_lines ps (place + 1) rest) ∙ ap (λ (z : List ℕ). z ++ ended_all (body_lines ps (place + 1) rest)) (flat_map-append ended (place_lines ps place) (instruction_lines i)) in
    let whole : after ≡ before ++ (ended_all (place_lines ps place) ++ ended_all (instruction_lines i)) = f ∙ ap (λ (z : List ℕ). z ++ ended_all (instruction_lines i)) same ∙ append_assoc before (ended_all (place_lines ps place)) (ended_all (instruction_lines i)) in
    ap (λ (z : List ℕ). z ++ ended_all (body_lines ps (place + 1) rest)) whole ∙ append_assoc before (ended_all (place_lines ps place) ++ ended_all (instruction_lines i)) (ended_all (body_lines ps (place + 1) rest)) ∙ ap (λ (z : List ℕ). before ++ z) (sym split) ∙ so_far

pub is_done : (ps : List ℕ) (place : ℕ) (before after total : List ℕ) (b : Bool) → b ≡ is_named ps place
    → after ≡ before ++ ended_all (lines_if b (label_line place)) → before ++ ended_all (body_lines ps place []) ≡ total → after ≡ total
unfolding body_lines
is_done ps place before after total b named e so_far = e ∙ ap (λ (t : Bool). before ++ ended_all (lines_if t (label_line place))) named ∙ so_far

pub next : {A : Type 0} (xs ys : List A) (i : ℕ) (x : A) → ys ≡ xs → i < length ys → x ≡ get_or ys i x → drop i xs ≡ x ∷ drop (i + 1) xs
next xs ys i x e less is =
    let within : i < length xs = subst (λ (z : List _). i < length z) e less in
    let same : get_or xs i x ≡ x = ap (λ (z : List _). get_or z i x) (sym e) ∙ sym is in
    drop-cons xs i x within ∙ ap (λ (z : _). z ∷ drop (suc i) xs) same ∙ ap (λ (n : ℕ). x ∷ drop n xs) (sym (add-one i))

pub drop_all : {A : Type 0} (xs ys : List A) (i : ℕ) → ys ≡ xs → length ys ≤ i → drop i xs ≡ []
drop_all xs ys i e past = drop_of_length-le xs (subst (λ (z : List _). length z ≤ i) e past)

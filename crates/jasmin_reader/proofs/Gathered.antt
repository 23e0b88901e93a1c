-- Loops that gather what each element gives, up to the first fault.
use Rattle.std.proofs.Common.{◌≡◌, List, [], ◌∷◌, ◌++◌, Result, Ok, Err, refl, ap}
use Rattle.std.proofs.lemmas.List.{append_assoc, append-nil}
use Rattle.sequence.specs.Gives.{◌>>=◌}
use Rattle.jasmin_words.specs.declared.fault.FaultKind.{FaultKind}

-- what is gathered, and then what the rest gives
abbrev pub behind : {A : Type 0} → List A → Result (List A) FaultKind → Result (List A) FaultKind
behind done read = read >>= λ rest. Ok (done ++ rest)

pub behind-none : {A : Type 0} (read : Result (List A) FaultKind) → behind [] read ≡ read
behind-none (Ok xs) = refl
behind-none (Err k) = refl

pub behind-more : {A : Type 0} (done : List A) (x : A) (read : Result (List A) FaultKind) → behind (done ++ x ∷ []) read ≡ behind done (read >>= λ rest. Ok (x ∷ rest))
behind-more done x (Ok xs) = ap Ok (append_assoc done (x ∷ []) xs)
behind-more done x (Err k) = refl

pub behind-end : {A : Type 0} (done : List A) → behind done (Ok []) ≡ Ok done
behind-end done = ap Ok (append-nil done)

pub ruleset gathering = (behind-none, behind-more, behind-end)

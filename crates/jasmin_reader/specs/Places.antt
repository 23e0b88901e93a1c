-- The places of a line: what may be there, and which fault is met where something else is.
use Rattle.std.specs.Prelude.{◌≡◌, ℕ, Bool, List, [], ◌∷◌, Result, Ok, Err, if◌then◌else◌, nat_le}
use Rattle.jasmin_words.specs.declared.fault.FaultKind.{FaultKind}
use Rattle.jasmin_words.specs.declared.fault.FaultKind.TheVariants as fault
use Rattle.sequence.specs.declared.refusal.Refusal.{Refusal}
use Rattle.sequence.specs.declared.refusal.Refusal.TheVariants as refusal
use Rattle.jasmin_words.specs.Fault.{number_of}
use Rattle.sequence.specs.Gives.{◌>>=◌}
use Rattle.jasmin_words.specs.Lexing.{Item, Word, BadWord, Text, BadText, fits}

-- this fault, unless what is wanted holds
abbrev pub wanted_or : Bool → FaultKind → Result (Unit {0}) FaultKind
wanted_or b k = if b then Ok tt else Err k

-- the fault of what isn't allowed in its place; other, where it has none of its own
abbrev pub fault_in : FaultKind → Item → FaultKind
fault_in other BadWord = fault.BadByte
fault_in other (BadText fault.BadByte) = fault.BadByte
fault_in other _ = other

abbrev pub misplaced : Item → FaultKind
misplaced t = fault_in fault.BadOperand t

-- the bytes of a word; other is the fault where there is no word
abbrev pub first_word : FaultKind → Item → Result (List ℕ) FaultKind
first_word other (Word w) = Ok w
first_word other t = Err (fault_in other t)

abbrev pub word_of : Item → Result (List ℕ) FaultKind
word_of t = first_word fault.BadOperand t

-- a word's length is looked at where nothing lower is wrong with it
abbrev pub within_limit : List ℕ → Result (Unit {0}) FaultKind
within_limit w = wanted_or (fits w) fault.LimitExceeded

-- the next word, and what follows it; at the line's end an operand is missing
abbrev pub next_word : List Item → Result (List ℕ × List Item) FaultKind
next_word [] = Err fault.BadOperand
next_word (t ∷ rest) = word_of t >>= λ w. Ok (w, rest)

-- an operand that is one word: what it represents, and what follows it
abbrev pub operand : {A : Type 0} → (List ℕ → Result A FaultKind) → List Item → Result (A × List Item) FaultKind
operand read items = next_word items >>= λ w. read w.0 >>= λ x. within_limit w.0 >>= λ _. Ok (x, w.1)

-- the characters of a string, and what follows it
abbrev pub string_from : List Item → Result (List ℕ × List Item) FaultKind
string_from [] = Err fault.BadOperand
string_from (Text t ∷ rest) = Ok (t, rest)
string_from (BadText k ∷ rest) = Err k
string_from (other ∷ rest) = Err (misplaced other)

-- nothing more is on the line
abbrev pub ended_at : List Item → Result (Unit {0}) FaultKind
ended_at [] = Ok tt
ended_at (other ∷ rest) = Err (misplaced other)

-- the lower of two kinds
abbrev pub lowest : FaultKind → FaultKind → FaultKind
lowest j k = if nat_le (number_of j) (number_of k) then j else k

-- the lower kind, where the other reading has a fault too
abbrev pub lowest_with : {A : Type 0} → FaultKind → Result A FaultKind → FaultKind
lowest_with j (Ok a) = j
lowest_with j (Err k) = lowest j k

-- two readings of one word: of two faults the lowest kind
abbrev pub both : {A B : Type 0} → Result A FaultKind → Result B FaultKind → Result (A × B) FaultKind
both (Ok a) (Ok b) = Ok (a, b)
both (Ok a) (Err k) = Err k
both (Err j) (Ok b) = Err j
both (Err j) (Err k) = Err (lowest j k)

-- the fault is this one, unless memory ran out
abbrev pub IsFaultOr : Refusal FaultKind → FaultKind → Type 0
IsFaultOr refusal.Memory k = Unit {0}
IsFaultOr (refusal.Fault j) k = j ≡ k

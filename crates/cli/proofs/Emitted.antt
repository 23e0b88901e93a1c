-- What several writes made, one after the other.
use Rattle.std.proofs.Common.{◌≡◌, ◌∙◌, ◌+◌, ◌-◌, ◌<◌, ◌≤◌, Bool, true, false, nat_le, ℕ, zero, suc, List, [], ◌∷◌, ◌++◌, Option, Some, None, Result, Ok, Err, Bor, ap, append-nil, append_assoc, arith, drop, length, length-append, length-drop, refl, slice_index_or, subst, sym, take}
use Rattle.std.proofs.Math.Seq.{take-add, take-append-add}
use Rattle.std.proofs.lemmas.Bool.Decides.{nat_tests}
use Rattle.std.proofs.lemmas.List.{take-append-drop, take-append-le, take_all, take_more}
use Rattle.std.specs.Prelude.{OnErr, OnOk}
use Rattle.std.specs.Io.KnownBytes.{Appends, Keeps}
use Rattle.cli.proofs.KnownOutput.{appends_then}
use Rattle.cli.specs.Sinks.{AppendsFront, AppendsShort, failures_after, joined}

-- a write after what wrote nothing
pub kept_appends : (before middle after : Option (List ℕ)) (bytes : List ℕ) → Keeps before middle → Appends middle after bytes → Appends before after bytes
kept_appends None middle after bytes kept appended = tt
kept_appends (Some xs) None after bytes kept appended = absurd kept
kept_appends (Some xs) (Some ys) None bytes kept appended = absurd appended
kept_appends (Some xs) (Some ys) (Some zs) bytes kept appended = appended ∙ ap (λ all. all ++ bytes) kept

-- what is left of a piece after its first n bytes
tail_all : (piece : List ℕ) (n : ℕ) → take (length piece - n) (drop n piece) ≡ drop n piece
tail_all piece n =
    let left : length (drop n piece) ≡ length piece - n = length-drop n piece in
    take_all (length piece - n) (drop n piece) (omega (arith, left))

pub stays_within : (piece : List ℕ) (n m : ℕ) → n ≤ length piece → m ≤ length (take (length piece - n) (drop n piece)) → n + m ≤ length piece
stays_within piece n m within most =
    let same : length (take (length piece - n) (drop n piece)) ≡ length (drop n piece) = ap length (tail_all piece n) in
    let left : length (drop n piece) ≡ length piece - n = length-drop n piece in
    omega (arith, within, most, same, left)

-- further bytes of a piece
pub writes_on : (before middle after : Option (List ℕ)) (piece : List ℕ) (n m : ℕ) → Appends before middle (take n piece) → Appends middle after (take m (take (length piece - n) (drop n piece))) → Appends before after (take (n + m) piece)
writes_on before middle after piece n m one two =
    let further : Appends middle after (take m (drop n piece)) = subst (λ tail. Appends middle after (take m tail)) (tail_all piece n) two in
    subst (Appends before after) (sym (take-add n m piece)) (appends_then before middle after (take n piece) (take m (drop n piece)) one further)

-- no byte
pub appends_none : (known : Option (List ℕ)) → Appends known known []
appends_none None = tt
appends_none (Some xs) = sym (append-nil xs)

-- all of these bytes are a front of them
pub whole_front : (before after : Option (List ℕ)) (bytes : List ℕ) → Appends before after bytes → AppendsFront before after bytes
whole_front before after bytes one = (length bytes, subst (Appends before after) (sym (take_all (length bytes) bytes (omega arith))) one)

-- fewer than all are a front of them
pub short_front : (before after : Option (List ℕ)) (bytes : List ℕ) → AppendsShort before after bytes → AppendsFront before after bytes
short_front before after bytes (n, low, one) = (n, one)

-- fewer than all of what comes after a whole
pub short_then : (before middle after : Option (List ℕ)) (first second : List ℕ) → Appends before middle first → AppendsShort middle after second → AppendsShort before after (first ++ second)
short_then before middle after first second one (n, low, two) =
    let all = length-append first second in
    (length first + n, omega (arith, low, all), subst (Appends before after) (sym (take-append-add first second n)) (appends_then before middle after first (take n second) one two))

-- fewer than all of a beginning
pub short_of_first : (before after : Option (List ℕ)) (first second : List ℕ) → AppendsShort before after first → AppendsShort before after (first ++ second)
short_of_first before after first second (n, low, one) =
    let all = length-append first second in
    let within : n ≤ length first = omega (arith, low) in
    (n, omega (arith, low, all), subst (Appends before after) (sym (take-append-le n first second within)) one)

-- a write that took something didn't fail
pub took_some : (failures count : ℕ) (piece : List ℕ) → 0 < count → failures_after failures (Some count) piece ≡ failures
took_some failures zero piece some = absurd (omega (arith, some))
took_some failures (suc count) [] some = refl
took_some failures (suc count) (byte ∷ rest) some = refl

joined_append : (xs ys : List (Bor (List ℕ))) → joined (xs ++ ys) ≡ joined xs ++ joined ys
joined_append [] ys = refl
joined_append (x ∷ xs) ys = ap (λ rest. x.now ++ rest) (joined_append xs ys) ∙ sym (append_assoc x.now (joined xs) (joined ys))

one_more : (pieces : List (Bor (List ℕ))) (i : ℕ) (d : Bor (List ℕ)) → i < length pieces → joined (take (i + 1) pieces) ≡ joined (take i pieces) ++ (slice_index_or pieces i d).now
one_more pieces i d lt =
    ap joined (take_more pieces i d lt) ∙ (joined_append (take i pieces) (slice_index_or pieces i d ∷ []) ∙ ap (λ end. joined (take i pieces) ++ end) (append-nil (slice_index_or pieces i d).now))

in_two : (pieces : List (Bor (List ℕ))) (n : ℕ) → joined (take n pieces) ++ joined (drop n pieces) ≡ joined pieces
in_two pieces n = sym (joined_append (take n pieces) (drop n pieces)) ∙ ap joined (take-append-drop n pieces)

-- one more of several pieces
pub more_joined : (before middle after : Option (List ℕ)) (pieces : List (Bor (List ℕ))) (i : ℕ) (d : Bor (List ℕ)) → i < length pieces → Appends before middle (joined (take i pieces))
    → Appends middle after (slice_index_or pieces i d).now → Appends before after (joined (take (i + 1) pieces))
more_joined before middle after pieces i d lt one two =
    subst (Appends before after) (sym (one_more pieces i d lt)) (appends_then before middle after (joined (take i pieces)) (slice_index_or pieces i d).now one two)

-- fewer than all of one more
pub short_joined : (before middle after : Option (List ℕ)) (pieces : List (Bor (List ℕ))) (i : ℕ) (d : Bor (List ℕ)) → i < length pieces → Appends before middle (joined (take i pieces))
    → AppendsShort middle after (slice_index_or pieces i d).now → AppendsShort before after (joined pieces)
short_joined before middle after pieces i d lt one two =
    let cut : AppendsShort before after (joined (take i pieces) ++ (slice_index_or pieces i d).now) = short_then before middle after (joined (take i pieces)) (slice_index_or pieces i d).now one two in
    let begun : AppendsShort before after (joined (take (i + 1) pieces)) = subst (AppendsShort before after) (sym (one_more pieces i d lt)) cut in
    subst (AppendsShort before after) (in_two pieces (i + 1)) (short_of_first before after (joined (take (i + 1) pieces)) (joined (drop (i + 1) pieces)) begun)

-- all of them
pub all_joined : (before after : Option (List ℕ)) (pieces : List (Bor (List ℕ))) (i : ℕ) → length pieces ≤ i → Appends before after (joined (take i pieces)) → Appends before after (joined pieces)
all_joined before after pieces i over one = subst (λ ps. Appends before after (joined ps)) (take_all i pieces over) one

-- what is written of a text, whether the write failed or not
pub told_front : {T E : Type 0} (before after : Option (List ℕ)) (bytes : List ℕ) (r : Result T E) → OnOk r (Appends before after bytes) → OnErr r (AppendsShort before after bytes) → AppendsFront before after bytes
told_front before after bytes (Ok done) whole short = whole_front before after bytes whole
told_front before after bytes (Err e) whole short = short_front before after bytes short

-- what is shown of a failure
pub on_err : {T E P : Type 0} (r : Result T E) → P → OnErr r P
on_err (Ok done) p = tt
on_err (Err e) p = p

-- a front of a beginning
pub front_of_first : (before after : Option (List ℕ)) (first second : List ℕ) → AppendsFront before after first → AppendsFront before after (first ++ second)
front_of_first before after first second (n, one) = go (nat_le n (length first)) refl
  where
    go : (b : Bool) → b ≡ nat_le n (length first) → AppendsFront before after (first ++ second)
    go true is =
        let within : n ≤ length first = grind (arith, nat_tests, sym is) in
        (n, subst (Appends before after) (sym (take-append-le n first second within)) one)
    go false is =
        let over : length first ≤ n = grind (arith, nat_tests, sym is) in
        let same : take n first ≡ take (length first) (first ++ second) = take_all n first over ∙ sym (take-append-le (length first) first second (omega arith) ∙ take_all (length first) first (omega arith)) in
        (length first, subst (Appends before after) same one)

-- a front of what comes after a whole
pub front_then : (before middle after : Option (List ℕ)) (first second : List ℕ) → Appends before middle first → AppendsFront middle after second → AppendsFront before after (first ++ second)
front_then before middle after first second one (n, two) =
    (length first + n, subst (Appends before after) (sym (take-append-add first second n)) (appends_then before middle after first (take n second) one two))

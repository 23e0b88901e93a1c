-- The text of an order, read from the left.
use Rattle.std.proofs.Common.{◌≡◌, ◌∙◌, ◌++◌, ◌+◌, ◌-◌, ◌*◌, ◌&&◌, ◌<◌, ◌≤◌, ℕ, Bool, true, false, List, [], ◌∷◌, Option, Some, None, ap, drop, get_or, option_and_then, option_map, if◌then◌else◌, length, nat_le, nat_lt, refl, arith, sym, take}
use Rattle.std.specs.Char.{digit_value, is_digit}
use Rattle.std.specs.List.{AllByRecursion, list_all}
use Rattle.std.specs.Str.Parse.{digits_value_after}
use Rattle.std.proofs.lemmas.Bool.{and_parts}
use Rattle.std.proofs.lemmas.Bool.Decides.{nat_tests}
use Rattle.std.proofs.lemmas.List.{take_all}
use Rattle.cli.specs.Orders.{number_up_to, number_with_digit, numbers_from, numbers_in}

-- these numbers, and after them further ones, where those are there
abbrev pub before_further : List ℕ → Option (List ℕ) → Option (List ℕ)
before_further first o = option_map (λ ns. first ++ ns) o

-- the number that the digits go on from n, where it is at most this one
abbrev pub goes_on : ℕ → ℕ → List ℕ → Option ℕ
goes_on most n ds = if list_all (λ c. is_digit c 10) ds && nat_le (digits_value_after 10 n ds) most then Some (digits_value_after 10 n ds) else None

pub begins : (most : ℕ) (ds : List ℕ) → 1 ≤ length ds → number_up_to most ds ≡ goes_on most 0 ds
begins most [] some = absurd (omega arith)
begins most (d ∷ ds) some = refl

-- further digits make no number smaller
grows : (n : ℕ) (ds : List ℕ) → n ≤ digits_value_after 10 n ds
grows n [] = omega arith
grows n (d ∷ ds) = let more = grows (n * 10 + digit_value d) ds in omega arith

and_false : (b : Bool) → (b && false) ≡ false
and_false true = refl
and_false false = refl

by_digit : (b l : Bool) (most n : ℕ) (ds : List ℕ) → l ≡ nat_le n most
    → (if (b && list_all (λ c. is_digit c 10) ds) && nat_le (digits_value_after 10 n ds) most then Some (digits_value_after 10 n ds) else None) ≡ option_and_then (λ m. goes_on most m ds) (if b && l then Some n else None)
by_digit false l most n ds is = refl
by_digit true true most n ds is = refl
by_digit true false most n ds is =
    let more = grows n ds in
    let large : most < n = grind (arith, nat_tests, sym is) in
    let no : nat_le (digits_value_after 10 n ds) most ≡ false = grind (arith, nat_tests) in
    rw no (rw (and_false (list_all (λ c. is_digit c 10) ds)) refl)

-- the first digit, and what it leaves
pub one_digit : (most n d : ℕ) (ds : List ℕ) → goes_on most n (d ∷ ds) ≡ option_and_then (λ m. goes_on most m ds) (number_with_digit most n d)
one_digit most n d ds = by_digit (is_digit d 10) (nat_le (n * 10 + digit_value d) most) most (n * 10 + digit_value d) ds refl

pub from_the_first : (most : ℕ) (text : List ℕ) → 1 ≤ length text → numbers_in most text ≡ numbers_from most [] text
from_the_first most [] some = absurd (omega arith)
from_the_first most (byte ∷ rest) some = refl

pub are_threads : (threads : ℕ) (order : List ℕ) → list_all (λ t. nat_lt t threads) order ≡ true → AllByRecursion (λ t. t < threads) order
are_threads threads [] all = tt
are_threads threads (t ∷ ts) all =
    let parts = and_parts (nat_lt t threads) (list_all (λ u. nat_lt u threads) ts) all in
    (grind (arith, nat_tests), are_threads threads ts parts.1)

-- one digit more was read
pub next_digit : (most n m : ℕ) (digits rest : List ℕ) → 1 ≤ length rest → number_up_to most digits ≡ goes_on most n rest → Some m ≡ number_with_digit most n (get_or rest 0 0)
    → number_up_to most digits ≡ goes_on most m (take (length rest - 1) (drop 1 rest))
next_digit most n m digits [] some before next = absurd (omega arith)
next_digit most n m digits (d ∷ ds) some before next =
    let all : take (length (d ∷ ds) - 1) ds ≡ ds = take_all _ ds (omega arith) in
    before ∙ (one_digit most n d ds ∙ (ap (option_and_then (λ k. goes_on most k ds)) (sym next) ∙ ap (goes_on most m) (sym all)))

-- The order of the threads, as the command line says it.
use Rattle.std.specs.Prelude.{◌≡◌, ℕ, ◌+◌, ◌*◌, ◌&&◌, Bool, List, [], ◌∷◌, ◌++◌, Option, Some, None, if◌then◌else◌, nat_eq, nat_le, nat_lt, option_map, true}
use Rattle.std.specs.Borrow.{Bor}
use Rattle.std.specs.Char.{digit_value, is_digit}
use Rattle.std.specs.List.{list_all}
use Rattle.std.specs.Str.Parse.{digits_value}
use Rattle.cli.specs.declared.fault.Fault.{Fault}
use Rattle.cli.specs.declared.fault.Fault.TheVariants.{Memory, Order}

-- the number that these digits write, where it is at most this one: decimal digits alone, at least one; zeros may lead
abbrev pub number_up_to : ℕ → List ℕ → Option ℕ
number_up_to most [] = None
number_up_to most (d ∷ ds) = if list_all (λ c. is_digit c 10) (d ∷ ds) && nat_le (digits_value 10 (d ∷ ds)) most then Some (digits_value 10 (d ∷ ds)) else None

-- a number with one decimal digit more, where it is at most this one
abbrev pub number_with_digit : ℕ → ℕ → ℕ → Option ℕ
number_with_digit most n d = if is_digit d 10 && nat_le (n * 10 + digit_value d) most then Some (n * 10 + digit_value d) else None

-- a number and further ones, where all are there
abbrev pub with_number : Option ℕ → Option (List ℕ) → Option (List ℕ)
with_number (Some n) (Some ns) = Some (n ∷ ns)
with_number _ _ = None

-- the numbers between commas (44), each at most this one, where this much of the first was read before
abbrev pub numbers_from : ℕ → List ℕ → List ℕ → Option (List ℕ)
numbers_from most entry [] = with_number (number_up_to most entry) (Some [])
numbers_from most entry (byte ∷ rest) = if nat_eq byte 44 then with_number (number_up_to most entry) (numbers_from most [] rest) else numbers_from most (entry ++ byte ∷ []) rest

-- the numbers that a text has, each at most this one; the empty text has none
abbrev pub numbers_in : ℕ → List ℕ → Option (List ℕ)
numbers_in most [] = Some []
numbers_in most (byte ∷ rest) = numbers_from most [] (byte ∷ rest)

-- the commas of a text: the number of its last name, where names are numbered from 0
abbrev pub commas_in : List ℕ → ℕ
commas_in [] = 0
commas_in (byte ∷ rest) = if nat_eq byte 44 then commas_in rest + 1 else commas_in rest

-- Whether the texts of `--mains` and `--order` ask for an order of the threads, and for which: each number of it is that of a name in
-- the text of `--mains`. None where `--order` is given and says no such order.
abbrev pub order_in : Option (List ℕ) → Option (List ℕ) → Option (Option (List ℕ))
order_in mains None = Some None
order_in None (Some order) = None
order_in (Some mains) (Some order) = option_map (λ numbers. Some numbers) (numbers_in (commas_in mains) order)

-- why the texts of `--mains` and `--order` say nothing of an order
pub data IsOrderRefusal (mains order : Option (List ℕ)) : Fault → Type 0 where
  no_order : order_in mains order ≡ None → IsOrderRefusal mains order Order
  no_memory : IsOrderRefusal mains order Memory

-- the numbers of an order
abbrev pub numbers_of : Option (Bor (List ℕ)) → Option (List ℕ)
numbers_of o = option_map (λ s. s.now) o

-- whether each number of an order is that of one of so many threads
abbrev pub is_of_threads : ℕ → Option (List ℕ) → Bool
is_of_threads threads None = true
is_of_threads threads (Some order) = list_all (λ t. nat_lt t threads) order

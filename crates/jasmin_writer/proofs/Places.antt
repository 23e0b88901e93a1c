-- The places that a body names are places of the body.
use Rattle.std.proofs.Common.{◌≡◌, ℕ, ◌-◌, ◌≤◌, Bool, true, not, ◌&&◌, eqb, List, [], ◌∷◌, ◌++◌, map, length, inl, inr, refl, arith, ◌∙◌}
use Rattle.std.specs.Prelude.{ℤ, nat_le}
use Rattle.std.specs.List.{list_all, flat_map}
use Rattle.std.proofs.lemmas.Bool.{and_parts, and_from, or_cases, leb-true, eqb-true}
use Rattle.std.proofs.lemmas.List.Folds.{list_all-append, list_all-map}
use Rattle.jasmin_writer.specs.Canonical.{handler_places, instruction_places, code_places, is_named}
use Rattle.jasmin_text.specs.Spellable.{is_int, is_caught, is_handler, is_instruction, rises, instruction_size, have_room, is_code}
use Rattle.jasmin_text.specs.declared.class_text.Code.{Code}
use Rattle.jasmin_text.specs.declared.class_text.Handler.{Handler}
use Rattle.jasmin_text.specs.declared.instruction.Instruction.{Instruction}
use Rattle.jasmin_text.specs.declared.instruction.Instruction.TheVariants as instruction
use Rattle.jasmin_text.proofs.Conditions.{three, four, six, all_weaker}

abbrev AllWithin : ℕ → List ℕ → Type 0
AllWithin n ps = list_all (λ p. nat_le p n) ps ≡ true

within : (n : ℕ) (ps : List ℕ) (p : ℕ) → AllWithin n ps → is_named ps p ≡ true → p ≤ n
within n [] p h e = absurd cc
within n (q ∷ qs) p h e =
    let both = and_parts (nat_le q n) (list_all (λ p. nat_le p n) qs) h in
    elim (or_cases (eqb q p) (is_named qs p) e) as (λ _. p ≤ n) [
      | inl same ↦ let is : q ≡ p = eqb-true q p same in let low = leb-true q n both.0 in omega arith
      | inr later ↦ within n qs p both.1 later
    ]

joined_within : (n : ℕ) (ps qs : List ℕ) → AllWithin n ps → AllWithin n qs → AllWithin n (ps ++ qs)
joined_within n ps qs h k = list_all-append (λ p. nat_le p n) ps qs ∙ and_from (list_all (λ p. nat_le p n) ps) (list_all (λ p. nat_le p n) qs) h k

all_within : {A : Type 0} (n : ℕ) (places : A → List ℕ) (test : A → Bool) (xs : List A) → ((x : A) → test x ≡ true → AllWithin n (places x)) → list_all test xs ≡ true → AllWithin n (flat_map places xs)
all_within n places test [] f h = refl
all_within n places test (x ∷ xs) f h =
    let both = and_parts (test x) (list_all test xs) h in
    joined_within n (places x) (flat_map places xs) (f x both.0) (all_within n places test xs f both.1)

cases_within : (n : ℕ) (cs : List (ℤ × ℕ)) → list_all (λ c. is_int c.0 && nat_le c.1 n) cs ≡ true → AllWithin n (map (λ c. c.1) cs)
cases_within n cs h =
    list_all-map (λ p. nat_le p n) (λ c. c.1) cs
    ∙ all_weaker (λ c. is_int c.0 && nat_le c.1 n) (λ c. nat_le c.1 n) cs (λ c e. (and_parts (is_int c.0) (nat_le c.1 n) e).1) h

instruction_within : (n : ℕ) (i : Instruction ℕ) → is_instruction n i ≡ true → AllWithin n (instruction_places i)
unfolding is_instruction
instruction_within n (instruction.Jump j place) h = and_from (nat_le place n) true h refl
instruction_within n (instruction.TableSwitch low places default) h =
    let p = three (is_int low) (list_all (λ p. nat_le p n) places) (nat_le default n) h in
    joined_within n places (default ∷ []) p.1 (and_from (nat_le default n) true p.2 refl)
instruction_within n (instruction.LookupSwitch cases default) h =
    let p = three (list_all (λ c. is_int c.0 && nat_le c.1 n) cases) (rises cases) (nat_le default n) h in
    joined_within n (map (λ c. c.1) cases) (default ∷ []) (cases_within n cases p.0) (and_from (nat_le default n) true p.2 refl)
instruction_within n other h = refl

handler_within : (n : ℕ) (h : Handler) → is_handler n h ≡ true → AllWithin n (handler_places h)
unfolding is_handler
handler_within n h e =
    let p = four (is_caught h.class) (nat_le h.from n) (nat_le h.to n) (nat_le h.handler n) e in
    and_from (nat_le h.from n) (nat_le h.to n && (nat_le h.handler n && true)) p.1 (and_from (nat_le h.to n) (nat_le h.handler n && true) p.2 (and_from (nat_le h.handler n) true p.3 refl))

-- ---- of a body

size_one : (i : Instruction ℕ) → 1 ≤ instruction_size i
size_one (instruction.TableSwitch low places default) = omega arith
size_one other = omega arith

room : (n : ℕ) (is : List (Instruction ℕ)) → have_room n is ≡ true → length is ≤ n
room n [] h = omega arith
room n (i ∷ is) h =
    let p = and_parts (nat_le (instruction_size i) n) (have_room (n - instruction_size i) is) h in
    let one = size_one i in
    let size = leb-true (instruction_size i) n p.0 in
    let rest = room (n - instruction_size i) is p.1 in
    omega arith

-- what the conditions on a body say
pub record IsGoodCode (c : Code) : Type 0 where
  pub stack : c.stack ≤ 1024
  pub locals : c.locals ≤ 1024
  pub few : length c.instructions ≤ 16384
  pub handlers : list_all (is_handler (length c.instructions)) c.handlers ≡ true
  pub instructions : list_all (is_instruction (length c.instructions)) c.instructions ≡ true
  pub places : (p : ℕ) → is_named (code_places c) p ≡ true → p ≤ length c.instructions

pub good_code : (c : Code) → is_code c ≡ true → IsGoodCode c
unfolding is_code
good_code c h =
    let n : ℕ = length c.instructions in
    let p = six (nat_le c.stack 1024) (nat_le c.locals 1024) (not (eqb n 0)) (have_room 16384 c.instructions) (list_all (is_handler n) c.handlers) (list_all (is_instruction n) c.instructions) h in
    let all = joined_within n (flat_map handler_places c.handlers) (flat_map instruction_places c.instructions)
    (all_within n handler_places (is_handler n) c.handlers (handler_within n) p.4) (all_within n instruction_places (is_instruction n) c.instructions (instruction_within n) p.5) in
    record {
      stack = leb-true c.stack 1024 p.0;
      locals = leb-true c.locals 1024 p.1;
      few = room 16384 c.instructions p.3;
      handlers = p.4;
      instructions = p.5;
      places = λ q e. within n (code_places c) q all e;
    }

use Rattle.std.proofs.Common.{◌≡◌, ℤ, ◌+ℤ◌, ◌-ℤ◌, true, false, arith, refl, ◌∙◌, w32, FitsSigned}
use Rattle.std.specs.Prelude.{int_lt}
use Rattle.std.specs.Int.{int_rem_euclid}
use Rattle.std.proofs.lemmas.Int.{ints, to_z-of_z}
use Rattle.statics.specs.Statics.{signed_low}
use Rattle.statics.proofs.static_field.signed_low_bits.Goals as goal

low_kept : (half n low : ℤ) → low ≡ int_rem_euclid n (half +ℤ half) → int_lt low half ≡ true → low ≡ signed_low half n
low_kept half n low e t = rw (← e, t) refl

low_moved : (half n low : ℤ) → low ≡ int_rem_euclid n (half +ℤ half) → int_lt low half ≡ false → low -ℤ (half +ℤ half) ≡ signed_low half n
low_moved half n low e t = rw (← e, t) refl

pub overflow_add-whole : goal.overflow_add-whole
overflow_add-whole c = omega (arith, ints)

pub rem_euclid-low-requires-clause-nonzero : goal.rem_euclid-low-requires-clause-nonzero
rem_euclid-low-requires-clause-nonzero c = omega (arith, ints)

pub rem_euclid-low-requires-clause-no_overflow : goal.rem_euclid-low-requires-clause-no_overflow
rem_euclid-low-requires-clause-no_overflow c = λ e f. omega (arith, ints)

pub overflow_sub-result : goal.overflow_sub-result
overflow_sub-result c = omega (arith, ints)

pub returns-then-low-half : goal.returns-then-low-half
returns-then-low-half c =
    let half = c.args.half in
    let low = c.rem_euclid-low.result in
    let of_number : FitsSigned w32 c.args.number = c.ranges.number in
    let of_half : FitsSigned w32 half = c.ranges.half in
    let of_low : FitsSigned w32 low = record { sfits = c.rem_euclid-low.type_inv } in
    let of_whole : FitsSigned w32 (half +ℤ half) = omega (arith, ints) in
    to_z-of_z w32 low of_low ∙ low_kept half c.args.number low (simp to_z-of_z at c.rem_euclid-low.ensures.value) (simp to_z-of_z at c.if-low-half.true)

pub returns-else-low-half : goal.returns-else-low-half
returns-else-low-half c =
    let half = c.args.half in
    let low = c.rem_euclid-low.result in
    let of_number : FitsSigned w32 c.args.number = c.ranges.number in
    let of_half : FitsSigned w32 half = c.ranges.half in
    let of_low : FitsSigned w32 low = record { sfits = c.rem_euclid-low.type_inv } in
    let of_whole : FitsSigned w32 (half +ℤ half) = omega (arith, ints) in
    let of_rest : FitsSigned w32 (low -ℤ (half +ℤ half)) = omega (arith, ints) in
    simp to_z-of_z (low_moved half c.args.number low (simp to_z-of_z at c.rem_euclid-low.ensures.value) (simp to_z-of_z at c.if-low-half.false))

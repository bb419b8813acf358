-- What the answer of a limit rule tells. Assumes nothing.
use Rattle.std.proofs.Common.{◌≡◌, ℕ, ◌*◌, ◌/◌, ◌≤◌, ℤ, pos, negsuc, ◌≤ℤ◌, Ok, Result, refl, ap, mul-le-mul_right, div-mul-le_self, le_of_mul-le-mul_right, arith}
use native.Mathlib.Nat.{div-le_of_le-mul}
use Rattle.limits.specs.Capital.{unless_below, bins_of, all_of}
use Rattle.limits.specs.Rules.{Counts, counted_answer}
use Rattle.modules.specs.declared.sheet.Sheet.{Sheet}
use Rattle.refusals.specs.declared.Refusal.{Refusal}
use Rattle.std.proofs.lemmas.Nat.{le-div}
use Rattle.std.proofs.lemmas.Int.{ints}

-- an answer that is no refusal
pub answered : {A : Type 0} (z : ℤ) (x y : A) → ◌≡◌ {A = Result A Refusal} (Ok y) (unless_below z x) → (pos 0 ≤ℤ z) × (y ≡ x)
answered z x y e = grind (arith, ints)

-- no more is answered than all bins together
pub counted_most : (s : Sheet) (scale : ℕ) (c : ℕ → ℕ → ℕ) (w n : ℕ) → (pos 0 ≤ℤ s.uncapped → Counts scale s c) → Ok n ≡ counted_answer s scale (c w 1) → n ≤ all_of (bins_of s)
counted_most s scale c w n counts e =
    let told = answered s.uncapped (c w 1 / scale) n e in
    omega (arith, told.1, div-le_of_le-mul scale {m = c w 1} {n = all_of (bins_of s)} (omega (arith, (counts told.0).within w 1 (omega arith))))

floor_under : (c g d h : ℕ) → 1 ≤ g → 1 ≤ h → c * h ≡ d * g → c / g ≤ d / h
floor_under c g d h i j e =
    let under : c / g * h * g ≤ d * g = omega (arith, mul-le-mul_right h (div-mul-le_self c g)) in
    le-div (c / g) d h j (le_of_mul-le-mul_right {m = c / g * h} {n = d} {k = g} under i)

-- equal fractions, rounded down
pub same_floor : (c g d h : ℕ) → 1 ≤ g → 1 ≤ h → c * h ≡ d * g → c / g ≡ d / h
same_floor c g d h i j e = omega (arith, floor_under c g d h i j e, floor_under d h c g j i (omega arith))

-- what is answered where bin 1 is not below 0 is all that matters
pub unless_alike : {A : Type 0} (z : ℤ) (x y : A) → (pos 0 ≤ℤ z → x ≡ y) → unless_below z x ≡ unless_below z y
unless_alike (pos total) x y same = ap Ok (same (omega (arith, ints)))
unless_alike (negsuc total) x y same = refl

-- Required capital in whole units is not below the exact figure at the same charge, and at most 4 above it.
-- Assumes nothing.
use Rattle.std.proofs.Common.{◌≡◌, ℕ, ◌+◌, ◌-◌, ◌*◌, ◌≤◌, min, ap, mul-le-mul_right, arith}
use Rattle.required.specs.Exact.{figure_unit, exact_operational, exact_sum, exact_tax, exact_figure}
use Rattle.required.specs.Figures.{operational_charge_of, charge_sum, tax_rate_of, most_tax_effect, recoverable_tax_of, tax_effect_of, required_capital_of}
use Rattle.required.specs.Ranges.{most_rate}
use Rattle.required.specs.declared.settings.Settings.{Settings}

-- O rounded up: the whole sum is not below the exact one, and less than a unit above it
sum_not_below : (s : Settings) (a : ℕ) → exact_sum s a 1 ≤ 100000 * charge_sum s a
unfolding exact_sum exact_operational operational_charge_of
sum_not_below s a = omega arith

sum_near : (s : Settings) (a : ℕ) → 100000 * charge_sum s a ≤ exact_sum s a 1 + 99999
unfolding exact_sum exact_operational operational_charge_of
sum_near s a = omega arith

-- the whole tax effect of a sum that is d more: not above the exact one by more than 80% of d
tax_not_above : (s : Settings) → tax_rate_of s ≤ most_rate → (whole sum d : ℕ) → 100000 * whole ≡ sum + d → figure_unit * min (most_tax_effect s whole) (recoverable_tax_of s whole) ≤ exact_tax s sum 1 + 80000 * d
unfolding exact_tax
tax_not_above s rate whole sum d is = omega (arith, mul-le-mul_right d rate, ap (λ x. tax_rate_of s * x) is)

-- and at most two units and 15% of d below it
tax_near : (s : Settings) (whole sum d : ℕ) → 100000 * whole ≡ sum + d → exact_tax s sum 1 ≤ figure_unit * min (most_tax_effect s whole) (recoverable_tax_of s whole) + 2 * figure_unit + 15000 * d
unfolding exact_tax
tax_near s whole sum d is = omega (arith, ap (λ x. tax_rate_of s * x) is)

-- what the whole sum is more
more_sum : Settings → ℕ → ℕ
more_sum s a = 100000 * charge_sum s a - exact_sum s a 1

more_is : (s : Settings) (a : ℕ) → 100000 * charge_sum s a ≡ exact_sum s a 1 + more_sum s a
unfolding more_sum
more_is s a = omega (arith, sum_not_below s a)

pub not_below_exact : (s : Settings) → tax_rate_of s ≤ most_rate → (a : ℕ) → exact_figure s a 1 ≤ figure_unit * required_capital_of s a
unfolding exact_figure tax_effect_of
not_below_exact s rate a = omega (arith, more_is s a, tax_not_above s rate (charge_sum s a) (exact_sum s a 1) (more_sum s a) (more_is s a))

pub near_exact : (s : Settings) (a : ℕ) → figure_unit * required_capital_of s a ≤ exact_figure s a 1 + 4 * figure_unit
unfolding exact_figure tax_effect_of
near_exact s a = omega (arith, more_is s a, sum_near s a, tax_near s (charge_sum s a) (exact_sum s a 1) (more_sum s a) (more_is s a))

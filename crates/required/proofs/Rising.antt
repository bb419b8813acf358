-- How the exact figure moves with the charge. Assumes nothing.
use Rattle.std.proofs.Common.{◌≡◌, ℕ, ◌+◌, ◌-◌, ◌*◌, ◌≤◌, refl, ap, mul-le-mul_right, arith}
use Rattle.required.specs.Exact.{figure_unit, exact_operational, exact_sum, exact_tax, exact_figure}
use Rattle.required.specs.Figures.{tax_rate_of, deduction}
use Rattle.required.specs.Ranges.{most_rate}
use Rattle.required.specs.declared.settings.Settings.{Settings}

-- with the charge the sum rises at least as much, and at most 1.2 times as much
sum_not_less : (s : Settings) (w d k : ℕ) → exact_sum s w k + 100000 * d ≤ exact_sum s (w + d) k
unfolding exact_sum exact_operational
sum_not_less s w d k = omega arith

sum_not_more : (s : Settings) (w d k : ℕ) → exact_sum s (w + d) k ≤ exact_sum s w k + 120000 * d
unfolding exact_sum exact_operational
sum_not_more s w d k = omega arith

-- with the sum the tax effect rises by at most 80% of the rise, and falls by at most 15% of it
tax_not_more : (s : Settings) → tax_rate_of s ≤ most_rate → (sum d k : ℕ) → exact_tax s (sum + d) k ≤ exact_tax s sum k + 80000 * d
unfolding exact_tax
tax_not_more s rate sum d k = omega (arith, mul-le-mul_right d rate)

tax_not_less : (s : Settings) (sum d k : ℕ) → exact_tax s sum k ≤ exact_tax s (sum + d) k + 15000 * d
unfolding exact_tax
tax_not_less s sum d k = omega arith

-- the figure by the sum
by_sum : Settings → (sum k : ℕ) → ℕ
by_sum s sum k = 100000 * sum - k * (figure_unit * deduction s) - exact_tax s sum k

by_sum_not_less : (s : Settings) → tax_rate_of s ≤ most_rate → (sum d k : ℕ) → by_sum s sum k ≤ by_sum s (sum + d) k
unfolding by_sum
by_sum_not_less s rate sum d k = omega (arith, tax_not_more s rate sum d k)

by_sum_not_more : (s : Settings) (sum d k : ℕ) → by_sum s (sum + d) k ≤ by_sum s sum k + 115000 * d
unfolding by_sum
by_sum_not_more s sum d k = omega (arith, tax_not_less s sum d k)

figure_by_sum : (s : Settings) (w k : ℕ) → exact_figure s w k ≡ by_sum s (exact_sum s w k) k
unfolding exact_figure by_sum
figure_by_sum s w k = refl

-- with the charge the figure does not fall
pub figure_not_less : (s : Settings) → tax_rate_of s ≤ most_rate → (w d k : ℕ) → exact_figure s w k ≤ exact_figure s (w + d) k
figure_not_less s rate w d k =
    let low = exact_sum s w k in
    let high = exact_sum s (w + d) k in
    let is : low + (high - low) ≡ high = omega (arith, sum_not_less s w d k) in
    omega (arith, figure_by_sum s w k, figure_by_sum s (w + d) k, by_sum_not_less s rate low (high - low) k, ap (λ x. by_sum s x k) is)

-- and it rises at most 1.38 times as much
pub figure_not_more : (s : Settings) (w d k : ℕ) → exact_figure s (w + d) k ≤ exact_figure s w k + 13800000000 * d
figure_not_more s w d k =
    let low = exact_sum s w k in
    let high = exact_sum s (w + d) k in
    let is : low + (high - low) ≡ high = omega (arith, sum_not_less s w d k) in
    omega (arith, figure_by_sum s w k, figure_by_sum s (w + d) k, by_sum_not_more s low (high - low) k, ap (λ x. by_sum s x k) is, sum_not_more s w d k)

-- The exact figure at c·w over c·k is that at w over k, in parts as much smaller. Assumes nothing.
use Rattle.std.proofs.Common.{◌≡◌, ℕ, ◌+◌, ◌-◌, ◌*◌, min, sym, ap, ◌∙◌, mul-le-mul_left, arith}
use native.Mathlib.Nat.{mul-sub}
use Rattle.required.specs.Exact.{figure_unit, exact_operational, exact_sum, exact_tax, exact_figure}
use Rattle.required.specs.Figures.{raw_charge_of, tax_rate_of, refund, profit, net_liabilities, net_assets, deduction}
use Rattle.required.specs.declared.settings.Settings.{Settings}

mul_min : (c a b : ℕ) → c * min a b ≡ min (c * a) (c * b)
mul_min c a b = grind (arith, mul-le-mul_left)

operational_scales : (s : Settings) (c w k : ℕ) → exact_operational s (c * w) (c * k) ≡ c * exact_operational s w k
unfolding exact_operational
operational_scales s c w k = omega (arith, mul_min c (k * raw_charge_of s) (20000 * w))

sum_scales : (s : Settings) (c w k : ℕ) → exact_sum s (c * w) (c * k) ≡ c * exact_sum s w k
unfolding exact_sum
sum_scales s c w k = omega (arith, operational_scales s c w k)

lesser_scales : (c x g l q : ℕ) → min (c * x) (c * g - min (c * l) (c * q)) ≡ c * min x (g - min l q)
lesser_scales c x g l q =
    sym (mul_min c x (g - min l q) ∙ ap (λ y. min (c * x) y) (mul-sub c g (min l q) ∙ ap (λ y. c * g - y) (mul_min c l q)))

-- what is multiplied by c on the way may as well be multiplied at the end
tax_scales : (s : Settings) (c sum k : ℕ) → exact_tax s (c * sum) (c * k) ≡ c * exact_tax s sum k
unfolding exact_tax
tax_scales s c sum k = omega (arith, lesser_scales c (8 * tax_rate_of s * sum) (k * (figure_unit * refund s + 500000 * (profit s * tax_rate_of s) + figure_unit * net_liabilities s)) (k * (figure_unit * net_assets s)) (15000 * sum))

pub figure_scales : (s : Settings) (c w k : ℕ) → exact_figure s (c * w) (c * k) ≡ c * exact_figure s w k
unfolding exact_figure
figure_scales s c w k =
    let sum = exact_sum s w k in
    let tax = exact_tax s sum k in
    let less = k * (figure_unit * deduction s) in
    let tax_is = ap (λ x. exact_tax s x (c * k)) (sum_scales s c w k) ∙ tax_scales s c sum k in
    omega (arith, sum_scales s c w k, tax_is, mul-sub c (100000 * sum - less) tax, mul-sub c (100000 * sum) less)

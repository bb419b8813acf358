-- The exact figure of required capital: the charge is a fraction w/k, and nothing is rounded anywhere.
use Rattle.std.specs.Prelude.{ℕ, ◌+◌, ◌-◌, ◌*◌, min}
use Rattle.required.specs.Figures.{raw_charge_of, tax_rate_of, refund, profit, net_liabilities, net_assets, deduction}
use Rattle.required.specs.declared.settings.Settings.{Settings}

-- The figure is told in parts, in which all that it is made of is whole. So many of them make a unit.
abbrev pub figure_unit : ℕ
figure_unit = 10000000000

-- O: the lesser of the raw charge and a fifth of w/k, in hundred-thousandths of a unit, over k
unfoldable pub exact_operational : Settings → (w k : ℕ) → ℕ
exact_operational s w k = min (k * raw_charge_of s) (20000 * w)

-- S: the charge and O together, in hundred-thousandths of a unit, over k
unfoldable pub exact_sum : Settings → (w k : ℕ) → ℕ
exact_sum s w k = 100000 * w + exact_operational s w k

-- Below, sum is S as above, of which each hundred-thousandth has 100,000 parts; all else is in parts over k.

-- X: 8·t·S/100,000
abbrev pub exact_most_tax : Settings → (sum : ℕ) → ℕ
exact_most_tax s sum = 8 * tax_rate_of s * sum

-- Y: the refund, p·t/20,000 and the net liabilities, less the lesser of the net assets and 15% of S
abbrev pub exact_recoverable_tax : Settings → (sum k : ℕ) → ℕ
exact_recoverable_tax s sum k =
    k * (figure_unit * refund s + 500000 * (profit s * tax_rate_of s) + figure_unit * net_liabilities s)
    - min (k * (figure_unit * net_assets s)) (15000 * sum)

-- T: the lesser of both
unfoldable pub exact_tax : Settings → (sum k : ℕ) → ℕ
exact_tax s sum k = min (exact_most_tax s sum) (exact_recoverable_tax s sum k)

-- the charge and O, less M and T
unfoldable pub exact_figure : Settings → (w k : ℕ) → ℕ
exact_figure s w k = 100000 * exact_sum s w k - k * (figure_unit * deduction s) - exact_tax s (exact_sum s w k) k

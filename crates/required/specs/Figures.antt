-- Required capital and its parts, in whole units. A difference stops at 0.
use Rattle.std.specs.Prelude.{ℕ, suc, ◌+◌, ◌-◌, ◌*◌, ◌/◌, min, max, ℤ, pos, negsuc}
use Rattle.required.specs.declared.settings.Business.{Business}
use Rattle.required.specs.declared.settings.Settings.{Settings}

-- a number, or 0 where it is negative
abbrev pub at_least_0 : ℤ → ℕ
at_least_0 (pos n) = n
at_least_0 (negsuc n) = 0

-- how far a number is below 0
abbrev pub below_zero : ℤ → ℕ
below_zero (pos n) = 0
below_zero (negsuc n) = suc n

-- the least whole number that is not below n/d
abbrev pub rounded_up : ℕ → ℕ → ℕ
rounded_up n d = (n + (d - 1)) / d

-- What a business adds to the raw operational charge, in hundred-thousandths of a unit, at rates in ten-thousandths:
-- the greatest of a rate of the premium, a rate of the estimate and 0, and the first rate of any excess of the premium
-- over 120% of last year's.
unfoldable pub business_part : (premium-rate estimate-rate : ℕ) → Business → ℕ
business_part p e b =
    10 * max (p * at_least_0 b.premium) (e * at_least_0 b.estimate)
    + p * (10 * at_least_0 b.premium - 12 * at_least_0 b.last_premium)

-- the raw operational charge, in hundred-thousandths of a unit
unfoldable pub raw_charge_of : Settings → ℕ
raw_charge_of s =
    -- life with risk at 4% and 0.45%
    business_part 400 45 s.life
    -- life without at 0.40%
    + 10 * (40 * at_least_0 s.life_without_risk)
    -- non-life at 2.75%
    + business_part 275 275 s.non_life

-- O: the lesser of the raw charge and a fifth of the charge, rounded up
unfoldable pub operational_charge_of : Settings → (charge : ℕ) → ℕ
operational_charge_of s a = rounded_up (min (raw_charge_of s) (20000 * a)) 100000

-- S: the charge and O together
abbrev pub charge_sum : Settings → (charge : ℕ) → ℕ
charge_sum s a = a + operational_charge_of s a

-- the settings of the tax effect: t, b, p, n where it is positive, −n where that is, and M
abbrev pub tax_rate_of : Settings → ℕ
tax_rate_of s = at_least_0 s.tax_rate

abbrev pub refund : Settings → ℕ
refund s = at_least_0 s.carry_back_refund

abbrev pub profit : Settings → ℕ
profit s = at_least_0 s.profit

abbrev pub net_liabilities : Settings → ℕ
net_liabilities s = at_least_0 s.net_deferred_tax

abbrev pub net_assets : Settings → ℕ
net_assets s = below_zero s.net_deferred_tax

abbrev pub deduction : Settings → ℕ
deduction s = at_least_0 s.management_deduction

-- X: 80% of the tax on S, rounded down
abbrev pub most_tax_effect : Settings → (sum : ℕ) → ℕ
most_tax_effect s sum = 8 * tax_rate_of s * sum / 100000

-- the tax on half the profit, rounded down
abbrev pub profit_share : Settings → ℕ
profit_share s = profit s * tax_rate_of s / 20000

-- the lesser of the net assets and 15% of S, rounded up
abbrev pub asset_share : Settings → (sum : ℕ) → ℕ
asset_share s sum = min (net_assets s) (rounded_up (15 * sum) 100)

-- Y: what can be recovered
abbrev pub recoverable_tax_of : Settings → (sum : ℕ) → ℕ
recoverable_tax_of s sum = refund s + profit_share s + net_liabilities s - asset_share s sum

-- T: the lesser of both
unfoldable pub tax_effect_of : Settings → (charge : ℕ) → ℕ
tax_effect_of s a = min (most_tax_effect s (charge_sum s a)) (recoverable_tax_of s (charge_sum s a))

-- the charge and O, less M and T
abbrev pub required_capital_of : Settings → (charge : ℕ) → ℕ
required_capital_of s a = a + operational_charge_of s a - deduction s - tax_effect_of s a

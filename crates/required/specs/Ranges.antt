-- Which settings are in range.
use Rattle.std.specs.Prelude.{ℕ, Bool, ◌&&◌, ℤ, pos, neg_ℤ, int_le}
use Rattle.required.specs.declared.settings.Business.{Business}
use Rattle.required.specs.declared.settings.Settings.{Settings}

-- no amount is larger, either way
abbrev pub most : ℕ
most = 1000000000

abbrev pub most_rate : ℕ
most_rate = 10000

abbrev pub within : ℤ → ℤ → ℤ → Bool
within low high z = int_le low z && int_le z high

-- an amount that is not below 0
abbrev pub amount_in : ℤ → Bool
amount_in z = within (pos 0) (pos most) z

-- an amount of either sign
abbrev pub signed_in : ℤ → Bool
signed_in z = within (neg_ℤ (pos most)) (pos most) z

abbrev pub business_in : Business → Bool
business_in b = amount_in b.premium && (amount_in b.last_premium && signed_in b.estimate)

-- those of the tax effect
abbrev pub tax_in : Settings → Bool
tax_in s =
    within (pos 0) (pos most_rate) s.tax_rate
    && (amount_in s.carry_back_refund && (signed_in s.profit && signed_in s.net_deferred_tax))

-- each of the twelve numbers is in its range
abbrev pub settings_in : Settings → Bool
settings_in s =
    business_in s.life
    && (signed_in s.life_without_risk && (business_in s.non_life && (tax_in s && amount_in s.management_deduction)))

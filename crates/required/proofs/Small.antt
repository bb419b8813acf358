-- How large settings in range can be. Assumes nothing.
use Rattle.std.proofs.Common.{◌≡◌, ℕ, ◌≤◌, true, ◌&&◌, ℤ, ap, ◌∙◌, arith, w64, SFits, to_z, of_z}
use Rattle.std.proofs.lemmas.Bool.{and_parts}
use Rattle.std.proofs.lemmas.Grind.{common_steps}
use Rattle.std.proofs.lemmas.Int.{to_z-of_z}
use Rattle.required.specs.Figures.{at_least_0, tax_rate_of, profit}
use Rattle.required.specs.Ranges.{most, most_rate, business_in, signed_in, tax_in, amount_in, settings_in}
use Rattle.required.specs.declared.settings.Business.{Business}
use Rattle.required.specs.declared.settings.Settings.{Settings}

pub premium_small : (b : Business) → business_in b ≡ true → at_least_0 b.premium ≤ most
premium_small b h = grind (arith, common_steps)

pub estimate_small : (b : Business) → business_in b ≡ true → at_least_0 b.estimate ≤ most
estimate_small b h = grind (arith, common_steps)

pub rate_small : (s : Settings) → settings_in s ≡ true → tax_rate_of s ≤ most_rate
rate_small s h = grind (arith, common_steps)

-- what stands behind the life business
behind_life : (s : Settings) → settings_in s ≡ true → (business_in s.non_life && (tax_in s && amount_in s.management_deduction)) ≡ true
behind_life s h =
    let behind = business_in s.non_life && (tax_in s && amount_in s.management_deduction) in
    (and_parts (signed_in s.life_without_risk) behind (and_parts (business_in s.life) (signed_in s.life_without_risk && behind) h).1).1

pub non_life_in : (s : Settings) → settings_in s ≡ true → business_in s.non_life ≡ true
non_life_in s h = (and_parts (business_in s.non_life) (tax_in s && amount_in s.management_deduction) (behind_life s h)).0

taxed_profit : (s : Settings) → (tax_in s && amount_in s.management_deduction) ≡ true → profit s ≤ most
taxed_profit s h = grind (arith, common_steps)

pub profit_small : (s : Settings) → settings_in s ≡ true → profit s ≤ most
profit_small s h = taxed_profit s (and_parts (business_in s.non_life) (tax_in s && amount_in s.management_deduction) (behind_life s h)).1

-- what is read of a setting
pub told : {z : ℤ} {r : ℕ} → SFits w64 z → r ≡ at_least_0 (to_z w64 (of_z w64 z)) → r ≡ at_least_0 z
told {z} fits is = is ∙ ap at_least_0 (to_z-of_z w64 z fits)

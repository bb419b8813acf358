-- The stock and the mutual rule count as a limit rule must. Assumes nothing.
use Rattle.std.specs.Prelude.{ℕ, ◌+◌, ◌*◌, min, Bool}
use Rattle.std.proofs.Common.{arith}
use Rattle.limits.specs.Capital.{bins_of}
use Rattle.limits.specs.Limits.{basket, tier_one_counted, tier_two_counted, stock_limit, stock_capital, mutual_capital}
use Rattle.limits.specs.Rules.{Tapers, Counts}
use Rattle.limits.specs.declared.bins.Bins.{Bins}
use Rattle.modules.specs.declared.sheet.Sheet.{Sheet}
use Rattle.limits.specs.Tapering.{fixed, share, added, lesser, same}

pub basket_tapers : (b : Bins) → Tapers (basket b)
basket_tapers b = lesser (fixed (50 * b.pension + 100 * b.deferred + 10 * b.software)) (share 15)

pub tier_one_tapers : (percent : ℕ) (b : Bins) → Tapers (tier_one_counted percent b)
tier_one_tapers percent b = lesser (fixed (100 * b.limited)) (share percent)

pub tier_two_tapers : (b : Bins) → Tapers (tier_two_counted b)
tier_two_tapers b = added (fixed (100 * b.paid)) (lesser (fixed (100 * b.unpaid)) (share 10))

-- what both rules count besides Tier 1 and Tier 2, which together taper
beside : (b : Bins) (f : ℕ → ℕ → ℕ) → Tapers f → Tapers (λ w k. k * (100 * b.uncapped) + f w k + basket b w k)
beside b f e = added (added (fixed (100 * b.uncapped)) e) (basket_tapers b)

pub stock_tapers : (absorbs : Bool) (b : Bins) → Tapers (stock_capital absorbs b)
stock_tapers absorbs b =
    same (λ w k. omega arith)
    (beside b (λ w k. tier_one_counted (stock_limit absorbs) b w k + min (tier_two_counted b w k) (50 * w)) (added (tier_one_tapers (stock_limit absorbs) b) (lesser (tier_two_tapers b) (share 50))))

-- limited Tier 1 and Tier 2 of a mutual company, together up to 60%
pub mutual_tapers : (b : Bins) → Tapers (mutual_capital b)
mutual_tapers b =
    same (λ w k. omega arith)
    (beside b (λ w k. min (tier_one_counted 30 b w k + tier_two_counted b w k) (60 * w)) (lesser (added (tier_one_tapers 30 b) (tier_two_tapers b)) (share 60)))

pub stock_counts : (absorbs : Bool) (s : Sheet) → Counts 100 s (stock_capital absorbs (bins_of s))
stock_counts absorbs s = record { tapered = stock_tapers absorbs (bins_of s); within = λ w k one. omega arith }

pub mutual_counts : (s : Sheet) → Counts 100 s (mutual_capital (bins_of s))
mutual_counts s = record { tapered = mutual_tapers (bins_of s); within = λ w k one. omega arith }

-- The stock and the mutual rule: the capital that they count of the bins b where required capital is w/k.
-- It is given in hundredths of a unit, over k: x units are k · 100 · x of these, and p percent of required capital are p · w.
use Rattle.std.specs.Prelude.{ℕ, ◌+◌, ◌-◌, ◌*◌, min, Bool, cond}
use Rattle.limits.specs.declared.bins.Bins.{Bins}

-- 50% of pension assets, deferred tax assets and 10% of software, up to 15% of required capital
abbrev pub basket : Bins → ℕ → ℕ → ℕ
basket b w k = min (k * (50 * b.pension + 100 * b.deferred + 10 * b.software)) (15 * w)

-- limited Tier 1 up to so many percent of required capital
abbrev pub tier_one_counted : ℕ → Bins → ℕ → ℕ → ℕ
tier_one_counted percent b w k = min (k * (100 * b.limited)) (percent * w)

-- paid Tier 2, with unpaid Tier 2 up to 10% of required capital
abbrev pub tier_two_counted : Bins → ℕ → ℕ → ℕ
tier_two_counted b w k = k * (100 * b.paid) + min (k * (100 * b.unpaid)) (10 * w)

-- limited Tier 1 up to 10%, or 15% with loss absorption; Tier 2 up to 50%
abbrev pub stock_limit : Bool → ℕ
stock_limit absorbs = cond absorbs 15 10

abbrev pub stock_capital : Bool → Bins → ℕ → ℕ → ℕ
stock_capital absorbs b w k = k * (100 * b.uncapped) + tier_one_counted (stock_limit absorbs) b w k + min (tier_two_counted b w k) (50 * w) + basket b w k

-- limited Tier 1 up to 30%; Tier 2 up to 60% less the limited Tier 1 that counts
abbrev pub mutual_capital : Bins → ℕ → ℕ → ℕ
mutual_capital b w k = k * (100 * b.uncapped) + tier_one_counted 30 b w k + min (tier_two_counted b w k) (60 * w - tier_one_counted 30 b w k) + basket b w k

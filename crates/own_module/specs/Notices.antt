-- The capital that the regulator's notice counts of the bins b where required capital is w/k, in hundredths of a unit over k.
use Rattle.std.specs.Prelude.{ℕ, ◌+◌, ◌-◌, ◌*◌, min}
use Rattle.limits.specs.Limits.{basket, tier_one_counted, tier_two_counted}
use Rattle.limits.specs.declared.bins.Bins.{Bins}
use Rattle.own_module.specs.declared.notice.Notice.{Notice}
use Rattle.own_module.specs.declared.notice.Notice.TheVariants.{Stock, Mutual}

-- limited Tier 1 above so many percent of required capital, which becomes Tier 2
abbrev pub excess : ℕ → Bins → ℕ → ℕ → ℕ
excess percent b w k = k * (100 * b.limited) - tier_one_counted percent b w k

abbrev pub notice_capital : Notice → Bins → ℕ → ℕ → ℕ
-- limited Tier 1 up to 10%; as Tier 2, up to 50%, paid Tier 2, the excess and the basket
notice_capital Stock b w k = k * (100 * b.uncapped) + tier_one_counted 10 b w k + min (k * (100 * b.paid) + excess 10 b w k + basket b w k) (50 * w)
-- limited Tier 1 up to 30%; as Tier 2, up to 60% less the limited Tier 1 that counts, also unpaid Tier 2 up to 10%
notice_capital Mutual b w k = k * (100 * b.uncapped) + tier_one_counted 30 b w k + min (tier_two_counted b w k + excess 30 b w k + basket b w k) (60 * w - tier_one_counted 30 b w k)

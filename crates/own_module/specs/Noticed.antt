-- What the notice counts is counted as by a limit rule. Assumes nothing.
use Rattle.std.specs.Prelude.{◌+◌, ◌*◌, min}
use Rattle.std.proofs.Common.{arith}
use Rattle.limits.specs.Counting.{basket_tapers, tier_one_tapers, tier_two_tapers}
use Rattle.limits.specs.Tapering.{fixed, share, added, lesser, same}
use Rattle.limits.specs.Capital.{bins_of}
use Rattle.limits.specs.Limits.{basket, tier_one_counted, tier_two_counted}
use Rattle.limits.specs.Rules.{Tapers, Counts}
use Rattle.limits.specs.declared.bins.Bins.{Bins}
use Rattle.modules.specs.declared.sheet.Sheet.{Sheet}
use Rattle.own_module.specs.Notices.{notice_capital}
use Rattle.own_module.specs.declared.notice.Notice.{Notice}
use Rattle.own_module.specs.declared.notice.Notice.TheVariants.{Stock, Mutual}

-- Limited Tier 1 counts in full, in one tier or the other, until the limit of Tier 2 binds.
noticed_tapers : (n : Notice) (b : Bins) → Tapers (notice_capital n b)
noticed_tapers Stock b =
    same {g = λ w k. k * (100 * b.uncapped) + min (k * (100 * b.paid) + k * (100 * b.limited) + basket b w k) (50 * w + tier_one_counted 10 b w k)} (λ w k. omega arith)
    (added (fixed (100 * b.uncapped)) (lesser (added (added (fixed (100 * b.paid)) (fixed (100 * b.limited))) (basket_tapers b)) (added (share 50) (tier_one_tapers 10 b))))
noticed_tapers Mutual b =
    same {g = λ w k. k * (100 * b.uncapped) + min (tier_two_counted b w k + k * (100 * b.limited) + basket b w k) (60 * w)} (λ w k. omega arith)
    (added (fixed (100 * b.uncapped)) (lesser (added (added (tier_two_tapers b) (fixed (100 * b.limited))) (basket_tapers b)) (share 60)))

pub noticed_counts : (n : Notice) (s : Sheet) → Counts 100 s (notice_capital n (bins_of s))
noticed_counts Stock s = record { tapered = noticed_tapers Stock (bins_of s); within = λ w k one. omega arith }
noticed_counts Mutual s = record { tapered = noticed_tapers Mutual (bins_of s); within = λ w k one. omega arith }

-- The ratio fits, since no more is counted than all bins together.
use Rattle.std.proofs.Common.{ℕ, get_or, arith, w64, Fits, SFits, rules}
use Rattle.limits.proofs.Answering.{counted_most}
use Rattle.ratio.proofs.Holding.{bins_small}
use Rattle.ratio.proofs.rating.rated.Goals as goal

pub overflow_mul-scaled : goal.overflow_mul-scaled
overflow_mul-scaled g c =
    let s = c.args.sheet in
    let m = c.args.rule.now in
    let most = counted_most s (g.R.LimitRule.scale m) (g.R.LimitRule.capital m s) c.args.required c.in_ok-counted.counted (g.met.R.LimitRule.counts m s) c.in_ok-counted.ensures in
    let uncapped : SFits w64 s.uncapped = search rules in
    let capped : (i : ℕ) → Fits w64 (get_or s.capped i 0) = λ i. search rules in
    record { fits = omega (arith, most, bins_small s uncapped capped) }

-- What is left to show of `RatedBusiness::part`.
use Rattle.std.proofs.Common.{◌+◌, ◌*◌, ◌≤◌, mul-le-mul, arith, rules}
use Rattle.required.specs.Ranges.{most}
use Rattle.required.proofs.Small.{premium_small, estimate_small, told}
use Rattle.required.proofs.business.RatedBusiness.part.Goals as goal

-- each of the two terms is at most 4% of ten times the largest amount
small : (c : goal.After-saturating_sub-excess) → 10 * c.max-volume.result + c.args.self.now.premium_rate * c.saturating_sub-excess.result ≤ 8000000000000
small c =
    let b = c.args.self.now.business in
    let in_range = c.args.self.now.in_range in
    let rates = c.args.self.now.rates in
    let premium : c.at_least_zero-premium.result ≤ most = omega (arith, premium_small b in_range, told {z = b.premium} (search rules) c.at_least_zero-premium.ensures) in
    let estimate : c.at_least_zero-estimate.result ≤ most = omega (arith, estimate_small b in_range, told {z = b.estimate} (search rules) c.at_least_zero-estimate.ensures) in
    let excess : c.saturating_sub-excess.result ≤ 10 * most = omega (arith, c.saturating_sub-excess.ensures) in
    omega (arith, c.max-volume.ensures, mul-le-mul rates.0 premium, mul-le-mul rates.1 estimate, mul-le-mul rates.0 excess)

pub overflow_mul-result-2 : goal.overflow_mul-result-2
overflow_mul-result-2 c = omega (arith, small c)

pub overflow_add-result : goal.overflow_add-result
overflow_add-result c = omega (arith, small c)

pub returns-clause-bound : goal.returns-clause-bound
returns-clause-bound c = small c

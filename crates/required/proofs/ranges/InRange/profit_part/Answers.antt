-- What is left to show of `InRange::profit_part`.
use Rattle.std.proofs.Common.{◌*◌, ◌≤◌, mul-le-mul, arith, rules}
use Rattle.required.specs.Ranges.{most, most_rate}
use Rattle.required.proofs.Small.{profit_small, rate_small, told}
use Rattle.required.proofs.ranges.InRange.profit_part.Goals as goal

small : (c : goal.After-at_least_zero-2) → c.at_least_zero.result * c.at_least_zero-2.result ≤ most * most_rate
small c =
    let s = c.args.self.now.settings in
    let in_range = c.args.self.now.in_range in
    let profit : c.at_least_zero.result ≤ most = omega (arith, profit_small s in_range, told {z = s.profit} (search rules) c.at_least_zero.ensures) in
    let rate : c.at_least_zero-2.result ≤ most_rate = omega (arith, rate_small s in_range, told {z = s.tax_rate} (search rules) c.at_least_zero-2.ensures) in
    mul-le-mul profit rate

pub overflow_mul-result : goal.overflow_mul-result
overflow_mul-result c = omega (arith, small c)

pub returns-clause-bound : goal.returns-clause-bound
returns-clause-bound c = omega (arith, small c)

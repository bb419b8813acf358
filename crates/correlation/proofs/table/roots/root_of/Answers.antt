-- What is left to show of `root_of`.
use Rattle.std.proofs.Common.{arith, rules}
use Rattle.correlation.proofs.Laws.{root_next, root_within}
use Rattle.correlation.proofs.table.roots.root_of.Goals as goal

pub returns-in_default : goal.returns-in_default
returns-in_default c = omega (arith, root_within c.args.q 0 (search rules))

pub returns : goal.returns
returns c = let next = root_next c.args.q c.isqrt.result in search rules

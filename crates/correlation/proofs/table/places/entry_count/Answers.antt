-- What is left to show of `entry_count`.
use Rattle.std.proofs.Common.{arith, rules}
use Rattle.correlation.proofs.Places.{count_is}
use Rattle.correlation.proofs.table.places.entry_count.Goals as goal

pub returns-in-1-to-8 : goal.returns-in-1-to-8
returns-in-1-to-8 c = let is = count_is c.args.size (omega arith) in search rules

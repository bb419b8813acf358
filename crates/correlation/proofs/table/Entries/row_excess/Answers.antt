-- What is left to show of `Entries::row_excess`.
use Rattle.std.proofs.Common.{◌+◌, sym, ◌∙◌, ap₂, arith}
use Rattle.correlation.proofs.Sums.{sum_next}
use Rattle.correlation.proofs.table.Entries.row_excess.Goals as goal

pub loop-k-preserved : goal.loop-k-preserved
loop-k-preserved c = (ap₂ ◌+◌ c.loop-k.invariant.0 c.excess_at-sum.ensures.value ∙ sym (sum_next c.loop-k.k _), omega arith)

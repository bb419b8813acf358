-- What is left to show of `Entries::weighted`.
use Rattle.std.proofs.Common.{◌+◌, ◌*◌, ◌^◌, ◌≤◌, sym, ◌∙◌, ap₂, arith}
use Rattle.std.proofs.lemmas.Nat.{mul-le}
use Rattle.correlation.proofs.Sums.{sum_next}
use Rattle.correlation.proofs.table.Entries.weighted.Goals as goal
use Rattle.correlation.proofs.table.Entries.weighted.Goals.{After-from-in-loop-j}

-- an entry times a charge
product : (c : After-from-in-loop-j) → c.from.result * c.from-in-loop-j.result ≤ 255 * 2 ^ 32
product c = mul-le _ _ 255 (2 ^ 32) (omega (arith, c.from.ensures, c.at.type_inv)) (omega (arith, c.from-in-loop-j.ensures, c.type_inv.charges c.loop-j.j))

pub overflow_add-sum : goal.overflow_add-sum
overflow_add-sum c = omega (arith, product c, c.loop-j.invariant.1, c.args.self.now.few, c.requires.each)

pub loop-j-preserved : goal.loop-j-preserved
loop-j-preserved c = (
  ap₂ ◌+◌ c.loop-j.invariant.0 (ap₂ ◌*◌ (c.from.ensures ∙ c.at.ensures) c.from-in-loop-j.ensures) ∙ sym (sum_next c.loop-j.j _),
  omega (arith, product c, c.loop-j.invariant.1),
)

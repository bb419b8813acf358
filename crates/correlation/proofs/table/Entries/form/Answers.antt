-- What is left to show of `Entries::form`.
use Rattle.std.proofs.Common.{◌+◌, ◌*◌, ◌^◌, ◌≤◌, sym, ◌∙◌, ap₂, arith}
use Rattle.std.proofs.lemmas.Nat.{mul-le}
use Rattle.correlation.specs.Answers.{charge_of_branch, entry_in}
use Rattle.correlation.proofs.Laws.{form_row}
use Rattle.correlation.proofs.Sums.{sum_next}
use Rattle.correlation.proofs.table.Entries.form.Goals as goal
use Rattle.correlation.proofs.table.Entries.form.Goals.{After-from-in-loop-i}

-- a charge times a weighted sum
product : (c : After-from-in-loop-i) → c.from.result * c.from-in-loop-i.result ≤ 2 ^ 32 * (255 * 2 ^ 32 * 8)
product c = mul-le _ _ (2 ^ 32) (255 * 2 ^ 32 * 8) (omega (arith, c.from.ensures, c.type_inv.charges c.loop-i.i)) (omega (arith, c.from-in-loop-i.ensures, c.weighted.ensures.bound, c.args.self.now.few))

pub overflow_add-sum : goal.overflow_add-sum
overflow_add-sum c = omega (arith, product c, c.loop-i.invariant.1, c.args.self.now.few, c.requires.each)

pub loop-i-preserved : goal.loop-i-preserved
loop-i-preserved c = (
  ap₂ ◌+◌ c.loop-i.invariant.0 (ap₂ ◌*◌ c.from.ensures (c.from-in-loop-i.ensures ∙ c.weighted.ensures.value) ∙ form_row c.args.self.now.size (entry_in c.args.self.now) (charge_of_branch c.args.charges.now) c.loop-i.i) ∙ sym (sum_next c.loop-i.i _),
  omega (arith, product c, c.loop-i.invariant.1),
)

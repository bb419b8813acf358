-- What the loop of `Entries::form` keeps.
use Rattle.std.proofs.Common.{◌≡◌, ◌*◌, ◌^◌, ◌≤◌}
use Rattle.correlation.specs.Answers.{charge_of_branch, entry_in}
use Rattle.correlation.specs.Sums.{sum_below}
use Rattle.correlation.proofs.table.Entries.form.Given as goal

abbrev pub invariant-loop-i : goal.invariant-loop-i
invariant-loop-i l = (l.sum ≡ sum_below l.i (λ i. sum_below l.self.size (λ j. entry_in l.self i j * charge_of_branch l.charges i * charge_of_branch l.charges j))) × (l.sum ≤ 2 ^ 32 * (255 * 2 ^ 32 * 8) * l.i)

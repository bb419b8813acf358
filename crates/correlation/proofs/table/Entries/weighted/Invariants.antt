-- What the loop of `Entries::weighted` keeps.
use Rattle.std.proofs.Common.{◌≡◌, ◌*◌, ◌^◌, ◌≤◌}
use Rattle.correlation.specs.Answers.{charge_of_branch, entry_in}
use Rattle.correlation.specs.Sums.{sum_below}
use Rattle.correlation.proofs.table.Entries.weighted.Given as goal

abbrev pub invariant-loop-j : goal.invariant-loop-j
invariant-loop-j l = (l.sum ≡ sum_below l.j (λ j. entry_in l.self l.i j * charge_of_branch l.charges j)) × (l.sum ≤ 255 * 2 ^ 32 * l.j)

-- What the loop of `Entries::row_excess` keeps.
use Rattle.std.proofs.Common.{◌≡◌, ◌-◌, ◌*◌, ◌≤◌}
use Rattle.correlation.specs.Sums.{sum_but}
use Rattle.correlation.specs.Answers.{entry_in}
use Rattle.correlation.proofs.table.Entries.row_excess.Given as goal

abbrev pub invariant-loop-k : goal.invariant-loop-k
invariant-loop-k l = (l.sum ≡ sum_but l.k l.i (λ k. entry_in l.self l.i l.j * entry_in l.self l.j k - 100 * entry_in l.self l.i k)) × (l.sum ≤ 65025 * l.k)

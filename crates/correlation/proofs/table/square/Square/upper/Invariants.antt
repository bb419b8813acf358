-- What the loop of `Square::upper` keeps.
use Rattle.std.proofs.Common.{◌≡◌, length}
use Rattle.correlation.specs.Tables.{start_of_row, Copied}
use Rattle.correlation.proofs.table.square.Square.upper.Given as goal

abbrev pub invariant-loop-i : goal.invariant-loop-i
invariant-loop-i l = (length l.above ≡ 28) × Copied l.self.size l.self.entries.now l.above (start_of_row l.self.size l.i)

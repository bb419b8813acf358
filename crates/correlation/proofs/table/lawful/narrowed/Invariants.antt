-- What the loop of `narrowed` keeps.
use Rattle.std.proofs.Common.{◌≡◌, length, take}
use Rattle.correlation.proofs.table.lawful.narrowed.Given as goal

abbrev pub invariant-loop-k : goal.invariant-loop-k
invariant-loop-k l = (length l.above ≡ 28) × (take l.k l.above ≡ take l.k l.entries)

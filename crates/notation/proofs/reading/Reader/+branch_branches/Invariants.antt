-- The levels fall; the branches so far are read, and where none are written in what is left, none are in the whole.
use Rattle.std.proofs.Common.{◌+◌, ◌*◌, length}
use Rattle.notation.specs.Sketches.{Sketches}
use Rattle.notation.proofs.Lists.{Sofar}
use Rattle.notation.proofs.reading.Reader.+branch_branches.Given as goal

abbrev pub decreases-branch : goal.decreases-branch
decreases-branch l = 2 * l.levels

abbrev pub decreases-branches : goal.decreases-branches
decreases-branches l = 2 * l.levels + 1

abbrev pub invariant-branches-loop-count : goal.invariant-branches-loop-count
invariant-branches-loop-count l = (f : Sketches) × Sofar l.levels l.fn.self.left.now l.self.left.now l.fn.self.words.items l.self.words.items l.count f

abbrev pub decreases-branches-loop-count : goal.decreases-branches-loop-count
decreases-branches-loop-count l = length l.self.left.now

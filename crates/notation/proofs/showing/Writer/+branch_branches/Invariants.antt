-- The words left are fewer.
use Rattle.std.proofs.Common.{◌+◌, ◌*◌, length}
use Rattle.notation.proofs.showing.Writer.+branch_branches.Given as goal

abbrev pub decreases-branch : goal.decreases-branch
decreases-branch l = 2 * length l.self.now.left.now

abbrev pub decreases-branches : goal.decreases-branches
decreases-branches l = 2 * length l.self.now.left.now + 1

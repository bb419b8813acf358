-- Fewer words are left with each branch, and a list comes before its first branch.
use Rattle.std.proofs.Common.{◌+◌, ◌*◌, length}
use Rattle.words.proofs.reader.+read_branch_read_branches.Given as goal

abbrev pub decreases-read_branch : goal.decreases-read_branch
decreases-read_branch l = 2 * length l.from.words.now

abbrev pub decreases-read_branches : goal.decreases-read_branches
decreases-read_branches l = 2 * length l.from.words.now + 1

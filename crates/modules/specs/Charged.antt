-- What the five kinds charge for a tree.
use Rattle.std.specs.Prelude.{ℕ, max, cond, List, [], ◌∷◌, sum}
use Rattle.correlation.specs.Answers.{charge_of_branch}
use Rattle.correlation.specs.Roots as roots
use Rattle.correlation.specs.Tables.{entry}
use Rattle.modules.specs.Sheets.{line_units}
use Rattle.modules.specs.Trees as trees
use Rattle.modules.specs.Trees.{Tree, Forest, line, greater, root, choice, none, more, branch_count, first_taken}
use Rattle.modules.specs.declared.sheet.Sheet.{Sheet}

abbrev mutual
  -- a line its rounded-up total, a sum its branches' sum, a greater the larger, a root the least whole root, a choice the branch taken
  pub charged : Tree → Sheet → ℕ
  charged (line n) s = line_units s n
  charged (trees.sum f) s = sum (charged_all f s)
  charged (greater t u) s = max (charged t s) (charged u s)
  charged (root above f) s = roots.root (branch_count f) (entry (branch_count f) above) (charge_of_branch (charged_all f s))
  charged (choice a b t u) s = cond (first_taken s a b) (charged t s) (charged u s)

  pub charged_all : Forest → Sheet → List ℕ
  charged_all none s = []
  charged_all (more t f) s = charged t s ∷ charged_all f s

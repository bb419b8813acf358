-- Trees over a sheet, with their gross and their roundings.
use Rattle.std.specs.Prelude.{ℕ, ◌+◌, ◌≤◌, Bool, cond, List, nat_le}
use Rattle.correlation.specs.Tables.{most_branches}
use Rattle.modules.specs.Sheets.{total_of, line_units}
use Rattle.modules.specs.declared.sheet.Sheet.{Sheet}

-- A line by its number; a sum; the greater of two; a root, with the entries of its table above the diagonal,
-- row by row; and a choice between two trees by the totals of two lines.
mutual
  pub data Tree : Type 0 where
    line : ℕ → Tree
    sum : Forest → Tree
    greater : Tree → Tree → Tree
    root : List ℕ → Forest → Tree
    choice : ℕ → ℕ → Tree → Tree → Tree

  -- branches in order
  pub data Forest : Type 0 where
    none : Forest
    more : Tree → Forest → Forest

-- how many branches there are
abbrev pub branch_count : Forest → ℕ
branch_count none = 0
branch_count (more t f) = 1 + branch_count f

-- a sum or a root has 1 to 8 branches
abbrev pub Few : Forest → Type 0
Few f = (1 ≤ branch_count f) × (branch_count f ≤ most_branches)

-- a choice takes its first branch when the first line's exact total is at least the second's
abbrev pub first_taken : Sheet → ℕ → ℕ → Bool
first_taken s a b = nat_le (total_of s b) (total_of s a)

-- each line's rounded-up total, as often as the tree names it; a choice counts only the branch that it takes
abbrev mutual
  pub gross : Tree → Sheet → ℕ
  gross (line n) s = line_units s n
  gross (sum f) s = gross_all f s
  gross (greater t u) s = gross t s + gross u s
  gross (root above f) s = gross_all f s
  gross (choice a b t u) s = cond (first_taken s a b) (gross t s) (gross u s)

  pub gross_all : Forest → Sheet → ℕ
  gross_all none s = 0
  gross_all (more t f) s = gross t s + gross_all f s

-- one for each line named and one for each root
abbrev mutual
  pub roundings : Tree → Sheet → ℕ
  roundings (line n) s = 1
  roundings (sum f) s = roundings_all f s
  roundings (greater t u) s = roundings t s + roundings u s
  roundings (root above f) s = roundings_all f s + 1
  roundings (choice a b t u) s = cond (first_taken s a b) (roundings t s) (roundings u s)

  pub roundings_all : Forest → Sheet → ℕ
  roundings_all none s = 0
  roundings_all (more t f) s = roundings t s + roundings_all f s

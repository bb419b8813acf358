-- What a correlation table is, and when it is lawful. Entries are in hundredths, and branches are counted from 0.
use Rattle.std.specs.Prelude.{◌≡◌, ℕ, zero, suc, ◌+◌, ◌-◌, ◌*◌, ◌<◌, ◌≤◌, min, max, cond, List, length, ◌==◌, slice_index}
use Rattle.correlation.specs.Sums.{sum_but}

-- how many branches a table may have at most
abbrev pub most_branches : ℕ
most_branches = 8

-- A table of n branches is given by its entries above the diagonal, row by row:
-- those of branch 0 with 1, 2, .., then those of branch 1 with 2, 3, .., and so on.
-- Row i begins at start_of_row n i and has n - (i + 1) entries.
abbrev pub start_of_row : ℕ → ℕ → ℕ
start_of_row n zero = 0
start_of_row n (suc i) = start_of_row n i + (n - suc i)

-- how many entries there are above the diagonal
abbrev pub above_count : ℕ → ℕ
above_count n = start_of_row n n

-- where the entry of branches i and j stands in that list, for i before j
abbrev pub place : ℕ → ℕ → ℕ → ℕ
place n i j = start_of_row n i + (j - suc i)

-- the entry of any two branches: 100 of a branch with itself, else the one above the diagonal
abbrev pub entry : ℕ → List ℕ → ℕ → ℕ → ℕ
entry n above i j = cond (i == j) 100 (slice_index above (place n (min i j) (max i j)))

-- the entry of a square that is given whole, row by row
abbrev pub square_entry : ℕ → List ℕ → ℕ → ℕ → ℕ
square_entry n square i j = slice_index square (i * n + j)

-- over every k other than i, how far r(i,j)·r(j,k) passes 100·r(i,k); `-` stops at 0
abbrev pub excess_of_row : ℕ → (ℕ → ℕ → ℕ) → ℕ → ℕ → ℕ
excess_of_row n r i j = sum_but n i (λ k. r i j * r j k - 100 * r i k)

-- the five parts of a lawful table of n branches with entries r
abbrev pub Branches : ℕ → Type 0
Branches n = (1 ≤ n) × (n ≤ most_branches)

-- two branches of n
abbrev pub Within : ℕ → ℕ → ℕ → Type 0
Within n i j = (i < n) × (j < n)

abbrev pub InRange : ℕ → (ℕ → ℕ → ℕ) → Type 0
InRange n r = (i j : ℕ) → Within n i j → r i j ≤ 100

abbrev pub Diagonal : ℕ → (ℕ → ℕ → ℕ) → Type 0
Diagonal n r = (i : ℕ) → i < n → r i i ≡ 100

abbrev pub Symmetric : ℕ → (ℕ → ℕ → ℕ) → Type 0
Symmetric n r = (i j : ℕ) → Within n i j → r i j ≡ r j i

-- 10,000 - r(i,j)² is at least the row's excess
abbrev pub RowCondition : ℕ → (ℕ → ℕ → ℕ) → Type 0
RowCondition n r = (i j : ℕ) → Within n i j → r i j * r i j + excess_of_row n r i j ≤ 10000

pub record Lawful (n : ℕ) (r : ℕ → ℕ → ℕ) : Type 0 where
  pub branches : Branches n
  pub range : InRange n r
  pub diagonal : Diagonal n r
  pub symmetric : Symmetric n r
  pub rows : RowCondition n r

-- the entries above the diagonal of a lawful table, no more and no fewer
pub record LawfulAbove (n : ℕ) (above : List ℕ) : Type 0 where
  pub count : length above ≡ above_count n
  pub lawful : Lawful n (entry n above)

-- the whole square of a lawful table, no more and no fewer
pub record LawfulSquare (n : ℕ) (square : List ℕ) : Type 0 where
  pub count : length square ≡ n * n
  pub lawful : Lawful n (square_entry n square)

-- the entries of a square that stand before the k-th above the diagonal are copied
abbrev pub Copied : ℕ → List ℕ → List ℕ → ℕ → Type 0
Copied n square above k = (i j : ℕ) → i < j → j < n → place n i j < k → slice_index above (place n i j) ≡ square_entry n square i j

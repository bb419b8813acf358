-- The standard tree over a non-life and a catastrophe tree, with its five tables.
use Rattle.std.specs.Prelude.{◌≡◌, List, [], ◌∷◌, ℕ, ◌+◌}
use Rattle.correlation.specs.Tables.{LawfulAbove}
use Rattle.modules.specs.Trees.{Tree, Forest, line, sum, greater, root, choice, none, more, roundings}
use Rattle.modules.specs.declared.sheet.Sheet.{Sheet}

-- The entries of each table above the diagonal, row by row, in hundredths.
-- T: life, non-life, catastrophe, market, credit
abbrev pub top_entries : List ℕ
top_entries =
    0 ∷ 25 ∷ 25 ∷ 25
    ∷ 25 ∷ 25 ∷ 25
    ∷ 25 ∷ 25
    ∷ 25 ∷ []

-- U: interest, spread up, equity, real estate, currency, concentration
abbrev pub up_entries : List ℕ
up_entries =
    25 ∷ 25 ∷ 25 ∷ 25 ∷ 0
    ∷ 75 ∷ 50 ∷ 25 ∷ 0
    ∷ 50 ∷ 25 ∷ 0
    ∷ 25 ∷ 0
    ∷ 0 ∷ []

-- D: the same with spread down
abbrev pub down_entries : List ℕ
down_entries =
    25 ∷ 25 ∷ 25 ∷ 25 ∷ 0
    ∷ 0 ∷ 0 ∷ 25 ∷ 0
    ∷ 50 ∷ 25 ∷ 0
    ∷ 25 ∷ 0
    ∷ 0 ∷ []

-- E: developed markets, emerging markets, hybrid bonds and preference shares, other shares
abbrev pub shares_entries : List ℕ
shares_entries =
    75 ∷ 100 ∷ 75
    ∷ 75 ∷ 75
    ∷ 75 ∷ []

-- M: the two lines of emerging markets
abbrev pub emerging_entries : List ℕ
emerging_entries = 75 ∷ []

-- all five are lawful, at the sizes that the tree has them at
pub record TablesLawful : Type 0 where
  pub top : LawfulAbove 5 top_entries
  pub up : LawfulAbove 6 up_entries
  pub down : LawfulAbove 6 down_entries
  pub shares : LawfulAbove 4 shares_entries
  pub emerging : LawfulAbove 2 emerging_entries

-- branches in order
abbrev pub forest_of : List Tree → Forest
forest_of [] = none
forest_of (t ∷ ts) = more t (forest_of ts)

abbrev pub shares_tree : Tree
shares_tree = root shares_entries (forest_of (
    sum (forest_of (line 17 ∷ line 18 ∷ []))
    ∷ root emerging_entries (forest_of (line 19 ∷ line 20 ∷ []))
    ∷ line 21
    ∷ line 22
    ∷ []))

-- volatility is added
abbrev pub equity_tree : Tree
equity_tree = sum (forest_of (line 23 ∷ shares_tree ∷ []))

abbrev pub real_estate_tree : Tree
real_estate_tree = sum (forest_of (line 24 ∷ line 25 ∷ []))

abbrev pub currency_tree : Tree
currency_tree = greater (line 26) (line 27)

-- interest, spread, equity, real estate, currency, concentration
abbrev pub up_tree : Tree
up_tree = root up_entries (forest_of (line 14 ∷ line 15 ∷ equity_tree ∷ real_estate_tree ∷ currency_tree ∷ line 28 ∷ []))

abbrev pub down_tree : Tree
down_tree = root down_entries (forest_of (line 14 ∷ line 16 ∷ equity_tree ∷ real_estate_tree ∷ currency_tree ∷ line 28 ∷ []))

-- spread up where the total of line 15 is at least that of line 16, and else spread down
abbrev pub market_tree : Tree
market_tree = choice 15 16 up_tree down_tree

-- life, non-life, catastrophe, market, credit
abbrev pub standard_tree : Tree → Tree → Tree
standard_tree non_life catastrophe = root top_entries (forest_of (line 1 ∷ non_life ∷ catastrophe ∷ market_tree ∷ line 29 ∷ []))

-- it has 20 roundings besides those of the two trees
abbrev pub Twenty : Tree → Tree → Type 0
Twenty non_life catastrophe = (s : Sheet) → roundings (standard_tree non_life catastrophe) s ≡ 20 + roundings non_life s + roundings catastrophe s

-- the two trees of a company that adds up its non-life lines and its catastrophe lines
abbrev pub non_life_lines : Tree
non_life_lines = sum (forest_of (line 2 ∷ line 3 ∷ line 4 ∷ line 5 ∷ line 6 ∷ line 7 ∷ line 8 ∷ line 9 ∷ []))

abbrev pub catastrophe_lines : Tree
catastrophe_lines = sum (forest_of (line 10 ∷ line 11 ∷ line 12 ∷ line 13 ∷ []))

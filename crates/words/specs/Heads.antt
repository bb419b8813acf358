-- The head of a branch: its own word, and behind a root's word the entries of its table.
use Rattle.std.specs.Prelude.{◌≡◌, ℕ, ◌<◌, ◌≤◌, List, [], ◌∷◌, ◌++◌, length, slice_index}
use Rattle.correlation.specs.Tables.{LawfulAbove, above_count, most_branches}
use Rattle.modules.specs.Sheets.{IsLine}
use Rattle.modules.specs.Trees as trees
use Rattle.modules.specs.Trees.{Tree, Forest, line, greater, root, choice, none, more, branch_count}
use Rattle.words.specs.Words.{word, entry_words, line_kind, sum_kind, greater_kind, root_kind, most_entry, most_depth}

-- a line with its number, a sum of so many branches, a greater, a root of so many branches with its entries
pub data Head : Type 0 where
  of_line : ℕ → Head
  of_sum : ℕ → Head
  of_greater : Head
  of_root : ℕ → List ℕ → Head

-- the words that it is written in
abbrev pub head_words : Head → List ℕ
head_words (of_line n) = word line_kind n ∷ []
head_words (of_sum n) = word sum_kind n ∷ []
head_words of_greater = word greater_kind 2 ∷ []
head_words (of_root n es) = word root_kind n ∷ entry_words es

-- how many branches are due behind it
abbrev pub due : Head → ℕ
due (of_line n) = 0
due (of_sum n) = n
due of_greater = 2
due (of_root n es) = n

-- so many entries, each in range
pub record Entered (n : ℕ) (es : List ℕ) : Type 0 where
  pub count : length es ≡ n
  pub in_range : (i : ℕ) → i < n → slice_index es i ≤ most_entry

-- a line that there is; 1 to 8 branches; as many entries as two branches go together in
abbrev pub HeadInRange : Head → Type 0
HeadInRange (of_line n) = IsLine n
HeadInRange (of_sum n) = (1 ≤ n) × (n ≤ most_branches)
HeadInRange of_greater = Unit {0}
HeadInRange (of_root n es) = (1 ≤ n) × (n ≤ most_branches) × Entered (above_count n) es

-- a root's table is lawful
abbrev pub HeadLawful : Head → Type 0
HeadLawful (of_line n) = Unit {0}
HeadLawful (of_sum n) = Unit {0}
HeadLawful of_greater = Unit {0}
HeadLawful (of_root n es) = LawfulAbove n es

-- at a depth that is allowed, the words begin with this head and go on with the rest
pub record Opens (depth : ℕ) (ws : List ℕ) (h : Head) (rest : List ℕ) : Type 0 where
  pub shallow : depth ≤ most_depth
  pub words : ws ≡ head_words h ++ rest
  pub in_range : HeadInRange h

-- the tree has this head, and these branches behind it
abbrev pub HeadOf : Tree → Head → Forest → Type 0
HeadOf (line n) h f = (h ≡ of_line n) × (f ≡ none)
HeadOf (trees.sum g) h f = (h ≡ of_sum (branch_count g)) × (f ≡ g)
HeadOf (greater t u) h f = (h ≡ of_greater) × (f ≡ more t (more u none))
HeadOf (root es g) h f = (h ≡ of_root (branch_count g) es) × (f ≡ g)
HeadOf (choice a b t u) h f = ⊥

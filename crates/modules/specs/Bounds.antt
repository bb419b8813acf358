-- Floors and ceilings of a tree: fractions w/k that its exact value is not below, and not above.
use Rattle.std.specs.Prelude.{◌≡◌, ℕ, ◌+◌, ◌*◌, ◌≤◌, ◌⊎◌, List, [], ◌∷◌, MatchBool, sum}
use Rattle.correlation.specs.Answers.{charge_of_branch}
use Rattle.correlation.specs.Roots.{form}
use Rattle.correlation.specs.Tables.{Lawful, entry}
use Rattle.modules.specs.Sheets.{total_of}
use Rattle.modules.specs.Trees as trees
use Rattle.modules.specs.Trees.{Tree, Forest, line, greater, root, choice, none, more, branch_count, first_taken, roundings}
use Rattle.modules.specs.declared.sheet.Sheet.{Sheet}

abbrev mutual
  -- w/k is a floor of the tree
  pub Floor : Tree → Sheet → ℕ → ℕ → Type 0
  Floor (line n) s k w = 10000 * w ≤ k * total_of s n
  Floor (trees.sum f) s k w = (ws : List ℕ) × Floors f s k ws × (w ≤ sum ws)
  Floor (greater t u) s k w = Floor t s k w ⊎ Floor u s k w
  Floor (root above f) s k w = (ws : List ℕ) × Floors f s k ws × (100 * (w * w) ≤ form (branch_count f) (entry (branch_count f) above) (charge_of_branch ws))
  Floor (choice a b t u) s k w = MatchBool (first_taken s a b) (Floor t s k w) (Floor u s k w)

  -- the numbers over k are one floor from each branch, in order
  pub Floors : Forest → Sheet → ℕ → List ℕ → Type 0
  Floors none s k ws = ws ≡ []
  Floors (more t f) s k ws = (w : ℕ) × (vs : List ℕ) × (ws ≡ w ∷ vs) × Floor t s k w × Floors f s k vs

abbrev mutual
  -- w/k is a ceiling of the tree
  pub Ceiling : Tree → Sheet → ℕ → ℕ → Type 0
  Ceiling (line n) s k w = k * total_of s n ≤ 10000 * w
  Ceiling (trees.sum f) s k w = (ws : List ℕ) × Ceilings f s k ws × (sum ws ≤ w)
  Ceiling (greater t u) s k w = Ceiling t s k w × Ceiling u s k w
  Ceiling (root above f) s k w = (ws : List ℕ) × Ceilings f s k ws × (form (branch_count f) (entry (branch_count f) above) (charge_of_branch ws) ≤ 100 * (w * w))
  Ceiling (choice a b t u) s k w = MatchBool (first_taken s a b) (Ceiling t s k w) (Ceiling u s k w)

  pub Ceilings : Forest → Sheet → ℕ → List ℕ → Type 0
  Ceilings none s k ws = ws ≡ []
  Ceilings (more t f) s k ws = (w : ℕ) × (vs : List ℕ) × (ws ≡ w ∷ vs) × Ceiling t s k w × Ceilings f s k vs

-- every table of the tree is lawful, and of its root's size
abbrev mutual
  pub Tabled : Tree → Type 0
  Tabled (line n) = Unit {0}
  Tabled (trees.sum f) = TabledAll f
  Tabled (greater t u) = Tabled t × Tabled u
  Tabled (root above f) = Lawful (branch_count f) (entry (branch_count f) above) × TabledAll f
  Tabled (choice a b t u) = Tabled t × Tabled u

  pub TabledAll : Forest → Type 0
  TabledAll none = Unit {0}
  TabledAll (more t f) = Tabled t × TabledAll f

-- some floor and some ceiling over k differ by at most the roundings over k
abbrev pub CloseAt : Tree → Sheet → ℕ → Type 0
CloseAt t s k = (w : ℕ) × (v : ℕ) × Floor t s k w × Ceiling t s k v × (w ≤ v) × (v ≤ w + roundings t s)

-- so they do at every tree over lawful tables
abbrev pub Close : Type 0
Close = (t : Tree) → Tabled t → (s : Sheet) (k : ℕ) → 1 ≤ k → CloseAt t s k

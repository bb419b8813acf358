-- The tree that words stand for, found from the back: each word takes the branches that stand first behind it.
use Rattle.std.specs.Prelude.{ℕ, zero, suc, ◌/◌, ◌%◌, cond, List, [], ◌∷◌, take, ◌==◌}
use Rattle.correlation.specs.Tables.{above_count}
use Rattle.modules.specs.Trees as trees
use Rattle.modules.specs.Trees.{Tree, Forest, line, greater, root, none, more}
use Rattle.words.specs.Grammar.{Reads}
use Rattle.words.specs.Items.{values}
use Rattle.words.specs.Words.{line_kind, sum_kind, greater_kind, root_kind, value_room}

-- a word's kind and its value
abbrev pub kind_of_word : ℕ → ℕ
kind_of_word w = w / value_room

abbrev pub value_of : ℕ → ℕ
value_of w = w % value_room

-- the values of the first n words
abbrev pub values_of : ℕ → List ℕ → List ℕ
values_of n ws = values (take n ws)

-- the first n branches, and those behind them
abbrev pub first : ℕ → Forest → Forest
first zero f = none
first (suc n) none = none
first (suc n) (more t f) = more t (first n f)

abbrev pub behind : ℕ → Forest → Forest
behind zero f = f
behind (suc n) none = none
behind (suc n) (more t f) = behind n f

-- the first two branches as a greater
abbrev pub paired : Forest → Forest
paired none = none
paired (more t none) = none
paired (more t (more u f)) = more (greater t u) f

-- what a kind and a value stand for before words that stand for the branches f; an entry adds no branch
unfoldable pub with_word : ℕ → ℕ → List ℕ → Forest → Forest
with_word kind value ws f =
    cond (kind == line_kind) (more (line value) f)
    (cond (kind == sum_kind) (more (trees.sum (first value f)) (behind value f))
    (cond (kind == greater_kind) (paired f)
    (cond (kind == root_kind) (more (root (values_of (above_count value) ws) (first value f)) (behind value f))
    f)))

-- the branches that words stand for, one behind the other
abbrev pub forest_of : List ℕ → Forest
forest_of [] = none
forest_of (w ∷ ws) = with_word (kind_of_word w) (value_of w) ws (forest_of ws)

abbrev pub first_tree : Forest → Tree
first_tree none = trees.sum none
first_tree (more t f) = t

-- the tree that words stand for
abbrev pub tree_of : List ℕ → Tree
tree_of ws = first_tree (forest_of ws)

-- words that read as the tree that they stand for; no others read as a tree
abbrev pub Readable : List ℕ → Type 0
Readable ws = ∥ Reads ws (tree_of ws) ∥₁

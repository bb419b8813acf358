-- The grammar: which words are a branch of which tree, at which depth.
use Rattle.std.specs.Prelude.{◌≡◌, ℕ, suc, ◌≤◌, List, [], ◌∷◌, ◌++◌, length}
use Rattle.correlation.specs.Tables.{LawfulAbove}
use Rattle.modules.specs.Sheets.{IsLine}
use Rattle.modules.specs.Trees as trees
use Rattle.modules.specs.Trees.{Tree, Forest, Few, line, greater, root, choice, none, more, branch_count}
use Rattle.words.specs.Words.{word, entry_words, line_kind, sum_kind, greater_kind, root_kind, most_words, most_depth}

abbrev mutual
  -- The words are a branch at this depth, and stand for the tree: its own word, a root's entries above the diagonal
  -- row by row, and then its branches one level deeper. No word stands for a choice.
  pub Branch : Tree → ℕ → List ℕ → Type 0
  Branch (line n) depth ws = (depth ≤ most_depth) × IsLine n × (ws ≡ word line_kind n ∷ [])
  Branch (trees.sum f) depth ws =
      (depth ≤ most_depth) × Few f
      × (bs : List ℕ) × (ws ≡ word sum_kind (branch_count f) ∷ bs) × Branches f (suc depth) bs
  Branch (greater t u) depth ws =
      (depth ≤ most_depth)
      × (bs : List ℕ) × (cs : List ℕ) × (ws ≡ word greater_kind 2 ∷ bs ++ cs) × Branch t (suc depth) bs × Branch u (suc depth) cs
  Branch (root above f) depth ws =
      (depth ≤ most_depth) × LawfulAbove (branch_count f) above
      × (bs : List ℕ) × (ws ≡ word root_kind (branch_count f) ∷ entry_words above ++ bs) × Branches f (suc depth) bs
  Branch (choice a b t u) depth ws = ⊥

  -- the words are branches one behind the other
  pub Branches : Forest → ℕ → List ℕ → Type 0
  Branches none depth ws = ws ≡ []
  Branches (more t f) depth ws =
      (bs : List ℕ) × (cs : List ℕ) × (ws ≡ bs ++ cs) × Branch t depth bs × Branches f depth cs

-- words that read as a tree, and as no more than it
abbrev pub Reads : List ℕ → Tree → Type 0
Reads ws t = (length ws ≤ most_words) × Branch t 1 ws

-- words read as one tree at most, and a tree is written in one way
pub record OneReading : Type 0 where
  pub one_tree : (ws : List ℕ) (t u : Tree) → Reads ws t → Reads ws u → t ≡ u
  pub one_writing : (ws vs : List ℕ) (t : Tree) → Reads ws t → Reads vs t → ws ≡ vs

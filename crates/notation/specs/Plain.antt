-- How a tree is written out in the notation: two spaces more a level, one branch to a line.
use Rattle.std.specs.Prelude.{◌≡◌, ℕ, ◌+◌, List, [], ◌∷◌, ◌++◌, replicate, Some, None, vec_items, codes, decimal, Option, Vec, ◌≢◌}
use Rattle.modules.specs.Trees as trees
use Rattle.modules.specs.Trees.{Tree, Forest, line, greater, root, choice, none, more}
use Rattle.std.specs.declared.alloc.Global.{Global}
use Rattle.words.specs.Grammar.{Branch}
use Rattle.notation.specs.Spaced.{spaced_by}

-- a line feed, and so many spaces
abbrev pub new_line : ℕ → List ℕ
new_line i = 10 ∷ replicate i 32

-- entries, with one space between two
abbrev pub spaced : List ℕ → List ℕ
spaced = spaced_by decimal

abbrev mutual
  -- the bytes of a tree whose first line stands behind i spaces; there is no notation for a choice
  pub tree_text : ℕ → Tree → List ℕ
  tree_text i (line n) = codes "line " ++ decimal n
  tree_text i (trees.sum f) = codes "sum(" ++ branches_text i f
  tree_text i (greater t u) =
      codes "greater(" ++ (new_line (i + 2) ++ (tree_text (i + 2) t ++ (44 ∷ (new_line (i + 2) ++ (tree_text (i + 2) u ++ (new_line i ++ codes ")"))))))
  tree_text i (root es f) = codes "root[" ++ (spaced es ++ (codes "](" ++ branches_text i f))
  tree_text i (choice a b t u) = []

  -- its branches, each on a line of its own, with a comma between two, and `)` on the line below the last
  pub branches_text : ℕ → Forest → List ℕ
  branches_text i none = codes ")"
  branches_text i (more t f) = new_line (i + 2) ++ (tree_text (i + 2) t ++ further_text i f)

  pub further_text : ℕ → Forest → List ℕ
  further_text i none = new_line i ++ codes ")"
  further_text i (more t f) = 44 ∷ (new_line (i + 2) ++ (tree_text (i + 2) t ++ further_text i f))

-- the text of a tree that words are written for stands for exactly those words
abbrev pub ReadsBack : List ℕ → Option (Vec ℕ Global) → Type 0
ReadsBack text (Some v) = (t : Tree) (ws : List ℕ) → Branch t 1 ws → text ≡ tree_text 0 t → vec_items v ≡ ws
ReadsBack text None = (t : Tree) (ws : List ℕ) → Branch t 1 ws → text ≢ tree_text 0 t

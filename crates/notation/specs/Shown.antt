-- What writing a tree out says of its words and its text.
use Rattle.std.specs.Prelude.{◌≡◌, ℕ, List, ◌++◌, Some, None, string_bytes, codes, decimal, Option, String}
use Rattle.modules.specs.Trees.{Tree, Forest, branch_count}
use Rattle.std.specs.declared.alloc.Global.{Global}
use Rattle.words.specs.Grammar.{Branch, Branches, Reads}
use Rattle.words.specs.Heads.{Head, of_line, of_sum, of_greater, of_root, due, Opens}
use Rattle.notation.specs.Plain.{spaced, tree_text, branches_text}
use Rattle.notation.specs.Sketches.{Noted}

-- the text of a head, up to the `(` of its branches
abbrev pub head_text : Head → List ℕ
head_text (of_line n) = codes "line " ++ decimal n
head_text (of_sum n) = codes "sum("
head_text of_greater = codes "greater("
head_text (of_root n es) = codes "root[" ++ (spaced es ++ codes "](")

-- the words begin with a head
abbrev pub Headed : List ℕ → Type 0
Headed ws = (h : Head) × (rest : List ℕ) × Opens 1 ws h rest

-- the head that the words begin with is written out: so many branches are due behind it, in the rest
abbrev pub HeadWritten : List ℕ → List ℕ → List ℕ → ℕ → List ℕ → Type 0
HeadWritten ws before after n rest = (h : Head) × Opens 1 ws h rest × (n ≡ due h) × (after ≡ before ++ head_text h)

-- the words begin with a branch of this tree, and these stand behind it
abbrev pub Starts : List ℕ → Tree → List ℕ → Type 0
Starts ws t behind = (depth : ℕ) × (bs : List ℕ) × (ws ≡ bs ++ behind) × Branch t depth bs

-- the words begin with so many branches, which are these, and these words stand behind them
abbrev pub StartAll : ℕ → List ℕ → Forest → List ℕ → Type 0
StartAll n ws f behind = (branch_count f ≡ n) × (depth : ℕ) × (bs : List ℕ) × (ws ≡ bs ++ behind) × Branches f depth bs

-- whatever tree the words begin with, its text behind so many spaces is added, and the rest stands behind it
abbrev pub BranchWritten : ℕ → List ℕ → List ℕ → List ℕ → List ℕ → Type 0
BranchWritten i ws before after rest =
    (t : Tree) (behind : List ℕ) → Starts ws t behind → (rest ≡ behind) × (after ≡ before ++ tree_text i t)

-- the same of a list of so many branches
abbrev pub ListWritten : ℕ → ℕ → List ℕ → List ℕ → List ℕ → List ℕ → Type 0
ListWritten i n ws before after rest =
    (f : Forest) (behind : List ℕ) → StartAll n ws f behind → (rest ≡ behind) × (after ≡ before ++ branches_text i f)

-- the text of the tree that the words read as, behind so many spaces; none exactly where they read as no tree
abbrev pub Shown : ℕ → List ℕ → Option (String Global) → Type 0
Shown i ws (Some s) = (t : Tree) × Reads ws t × (string_bytes s ≡ tree_text i t)
Shown i ws None = (t : Tree) → Reads ws t → ⊥

-- the text that is shown is a notation, and stands for exactly these words
abbrev pub ShownBack : List ℕ → Option (String Global) → Type 0
ShownBack ws (Some s) = Noted (string_bytes s) ws
ShownBack ws None = Unit {0}

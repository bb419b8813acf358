-- What is known of words that read as a tree. Assumes nothing.
use mathlib.Core.HLevel.{×_prop, Π_prop, →_prop}
use Rattle.std.specs.Prelude.{◌≡◌, ℕ, suc, ◌≤◌, List, [], length, refl}
use Rattle.std.proofs.Math.Logic.{∥∥₁_elim}
use Rattle.std.proofs.Common.{sym, ap, ◌∙◌}
use Rattle.std.proofs.Math.Bridge.{le_prop}
use Rattle.std.proofs.Math.Nat.{ℕ_set}
use Rattle.correlation.specs.Tables.{Lawful}
use Rattle.modules.specs.Bounds.{Tabled, TabledAll}
use Rattle.modules.specs.Trees as trees
use Rattle.modules.specs.Trees.{Tree, Forest, line, greater, root, choice, none, more, branch_count}
use Rattle.std.proofs.lemmas.List.{append-nil}
use Rattle.words.specs.Grammar.{Branch, Branches, Reads}
use Rattle.words.specs.Words.{most_words}
use Rattle.written.specs.Reading.{forest_of, first_tree, tree_of, Readable}
use Rattle.written.specs.Standing.{branch_stands}

-- the tables of a written branch are lawful
mutual
  pub branch_tabled : (t : Tree) (depth : ℕ) (ws : List ℕ) → Branch t depth ws → Tabled t
  branch_tabled (line n) depth ws b = tt
  branch_tabled (trees.sum f) depth ws b = branches_tabled f (suc depth) b.2 b.4
  branch_tabled (greater t u) depth ws b = (branch_tabled t (suc depth) b.1 b.4, branch_tabled u (suc depth) b.2 b.5)
  branch_tabled (root above f) depth ws b = (b.1.lawful, branches_tabled f (suc depth) b.2 b.4)
  branch_tabled (choice a c t u) depth ws b = absurd b

  branches_tabled : (f : Forest) (depth : ℕ) (ws : List ℕ) → Branches f depth ws → TabledAll f
  branches_tabled none depth ws b = tt
  branches_tabled (more t f) depth ws b = (branch_tabled t depth b.0 b.3, branches_tabled f depth b.1 b.4)

-- there is one proof at most that tables are lawful
lawful_prop : (n : ℕ) (r : ℕ → ℕ → ℕ) → IsProp (Lawful n r)
lawful_prop n r x y = λ i. record {
  branches = ×_prop le_prop le_prop x.branches y.branches i;
  range = Π_prop (λ a. Π_prop (λ b. →_prop le_prop)) x.range y.range i;
  diagonal = Π_prop (λ a. →_prop (ℕ_set _ _)) x.diagonal y.diagonal i;
  symmetric = Π_prop (λ a. Π_prop (λ b. →_prop (ℕ_set _ _))) x.symmetric y.symmetric i;
  rows = Π_prop (λ a. Π_prop (λ b. →_prop le_prop)) x.rows y.rows i;
}

mutual
  tabled_prop : (t : Tree) → IsProp (Tabled t)
  tabled_prop (line n) = λ x y. refl
  tabled_prop (trees.sum f) = tabled_all_prop f
  tabled_prop (greater t u) = ×_prop (tabled_prop t) (tabled_prop u)
  tabled_prop (root above f) = ×_prop (lawful_prop _ _) (tabled_all_prop f)
  tabled_prop (choice a c t u) = ×_prop (tabled_prop t) (tabled_prop u)

  tabled_all_prop : (f : Forest) → IsProp (TabledAll f)
  tabled_all_prop none = λ x y. refl
  tabled_all_prop (more t f) = ×_prop (tabled_prop t) (tabled_all_prop f)

pub reads_alone : (ws : List ℕ) (t : Tree) → Reads ws t → forest_of ws ≡ more t none
reads_alone ws t reads = ap forest_of (sym (append-nil ws)) ∙ branch_stands t 1 ws [] reads.1

-- the tree that words read as is the tree that they stand for
pub tree_is : (ws : List ℕ) (t : Tree) → Reads ws t → tree_of ws ≡ t
tree_is ws t reads = ap first_tree (reads_alone ws t reads)

pub read_few : (ws : List ℕ) → Readable ws → length ws ≤ most_words
read_few ws reads = ∥∥₁_elim reads le_prop (λ r. r.0)

pub read_tabled : (ws : List ℕ) → Readable ws → Tabled (tree_of ws)
read_tabled ws reads = ∥∥₁_elim reads (tabled_prop (tree_of ws)) (λ r. branch_tabled (tree_of ws) 1 ws r.1)

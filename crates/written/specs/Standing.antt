-- Words that are a branch stand for its tree, and leave those behind it as they are. Assumes nothing.
use Rattle.std.specs.Prelude.{◌≡◌, ℕ, suc, ◌<◌, List, [], ◌∷◌, ◌++◌, length, slice_index, refl}
use Rattle.std.proofs.Common.{ap, ◌∙◌, append_assoc, arith}
use Rattle.correlation.specs.Tables.{LawfulAbove, above_count}
use Rattle.modules.specs.Sheets.{IsLine}
use Rattle.modules.specs.Trees as trees
use Rattle.modules.specs.Trees.{Tree, Forest, Few, line, greater, root, choice, none, more, branch_count}
use Rattle.std.proofs.lemmas.List.{take_at}
use Rattle.words.proofs.Heading.{lawful_entered}
use Rattle.words.proofs.Parts.{entered_values, length_entry_words}
use Rattle.words.specs.Grammar.{Branch, Branches}
use Rattle.words.specs.Heads.{Entered}
use Rattle.words.specs.Items.{values}
use Rattle.words.specs.Words.{word, entry_words, line_kind, sum_kind, greater_kind, root_kind, entry_kind, value_room}
use Rattle.written.specs.Reading.{kind_of_word, value_of, values_of, with_word, forest_of}
use Rattle.written.specs.Forests.{join, first_joined, behind_joined}

-- a word adds to the branches behind it what its kind and its value do
worded : (k v : ℕ) (ws : List ℕ) (f : Forest) → v < value_room → forest_of ws ≡ f → forest_of (word k v ∷ ws) ≡ with_word k v ws f
worded k v ws f h is =
    let kind_is : kind_of_word (word k v) ≡ k = omega arith in
    let value_is : value_of (word k v) ≡ v = omega arith in
    λ i. with_word (kind_is i) (value_is i) ws (is i)

line_stands : (n : ℕ) (ws : List ℕ) → IsLine n → forest_of (word line_kind n ∷ ws) ≡ more (line n) (forest_of ws)
unfolding with_word
line_stands n ws is = worded line_kind n ws (forest_of ws) (omega arith) refl

sum_stands : (f g : Forest) (ws : List ℕ) → Few f → forest_of ws ≡ join f g → forest_of (word sum_kind (branch_count f) ∷ ws) ≡ more (trees.sum f) g
unfolding with_word
sum_stands f g ws few is =
    worded sum_kind (branch_count f) ws (join f g) (omega arith) is
    ∙ (λ i. more (trees.sum (first_joined f g i)) (behind_joined f g i))

greater_stands : (t u : Tree) (g : Forest) (ws : List ℕ) → forest_of ws ≡ more t (more u g) → forest_of (word greater_kind 2 ∷ ws) ≡ more (greater t u) g
unfolding with_word
greater_stands t u g ws is = worded greater_kind 2 ws (more t (more u g)) (omega arith) is

-- entries that words can hold
abbrev pub Small : List ℕ → Type 0
Small es = (i : ℕ) → i < length es → slice_index es i < value_room

pub entry_stands : (e : ℕ) (ws : List ℕ) → e < value_room → forest_of (word entry_kind e ∷ ws) ≡ forest_of ws
unfolding with_word
entry_stands e ws small = worded entry_kind e ws (forest_of ws) small refl

pub entries_stand : (es ws : List ℕ) → Small es → forest_of (entry_words es ++ ws) ≡ forest_of ws
entries_stand [] ws small = refl
entries_stand (e ∷ es) ws small =
    entry_stands e (entry_words es ++ ws) (small 0 (omega arith)) ∙ entries_stand es ws (λ i l. small (suc i) (omega arith))

pub entered_small : (n : ℕ) (es : List ℕ) → Entered n es → Small es
entered_small n es entered i l = omega (arith, entered.in_range i (omega (arith, l, entered.count)))

root_stands : (above : List ℕ) (f g : Forest) (ws : List ℕ) → LawfulAbove (branch_count f) above → forest_of ws ≡ join f g → forest_of (word root_kind (branch_count f) ∷ entry_words above ++ ws) ≡ more (root above f) g
unfolding with_word
root_stands above f g ws law is =
    let n = branch_count f in
    let all = entry_words above ++ ws in
    let entered = lawful_entered n above law in
    let many : length (entry_words above) ≡ above_count n = length_entry_words above ∙ law.count in
    let table : values_of (above_count n) all ≡ above = ap values (take_at (entry_words above) ws (above_count n) many) ∙ entered_values _ above entered in
    worded root_kind n all (join f g) (omega (arith, law.lawful.branches.1)) (entries_stand above ws (entered_small _ above entered) ∙ is)
    ∙ (λ i. more (root (table i) (first_joined f g i)) (behind_joined f g i))

-- words with more behind them
behind_them : (ws front back rest : List ℕ) (g : Forest) → ws ≡ front ++ back → forest_of (front ++ (back ++ rest)) ≡ g → forest_of (ws ++ rest) ≡ g
behind_them ws front back rest g e is = ap (λ l. forest_of (l ++ rest)) e ∙ ap forest_of (append_assoc front back rest) ∙ is

mutual
  pub branch_stands : (t : Tree) (depth : ℕ) (ws rest : List ℕ) → Branch t depth ws → forest_of (ws ++ rest) ≡ more t (forest_of rest)
  branch_stands (line n) depth ws rest b = ap (λ l. forest_of (l ++ rest)) b.2 ∙ line_stands n rest b.1
  branch_stands (trees.sum f) depth ws rest b =
      ap (λ l. forest_of (l ++ rest)) b.3
      ∙ sum_stands f (forest_of rest) (b.2 ++ rest) b.1 (branches_stand f (suc depth) b.2 rest b.4)
  branch_stands (greater t u) depth ws rest b =
      let second = branch_stands u (suc depth) b.2 rest b.5 in
      let first = branch_stands t (suc depth) b.1 (b.2 ++ rest) b.4 ∙ ap (more t) second in
      behind_them ws (word greater_kind 2 ∷ b.1) b.2 rest _ b.3 (greater_stands t u (forest_of rest) (b.1 ++ (b.2 ++ rest)) first)
  branch_stands (root above f) depth ws rest b =
      behind_them ws (word root_kind (branch_count f) ∷ entry_words above) b.2 rest _ b.3
      (root_stands above f (forest_of rest) (b.2 ++ rest) b.1 (branches_stand f (suc depth) b.2 rest b.4))
  branch_stands (choice a c t u) depth ws rest b = absurd b

  pub branches_stand : (f : Forest) (depth : ℕ) (ws rest : List ℕ) → Branches f depth ws → forest_of (ws ++ rest) ≡ join f (forest_of rest)
  branches_stand none depth ws rest b = ap (λ l. forest_of (l ++ rest)) b
  branches_stand (more t f) depth ws rest b =
      behind_them ws b.0 b.1 rest _ b.2
      (branch_stands t depth b.0 (b.1 ++ rest) b.3 ∙ ap (more t) (branches_stand f depth b.1 rest b.4))

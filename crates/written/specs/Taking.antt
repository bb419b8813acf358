-- Which item a word of a written tree is, and what an item makes of the branches behind it, and of their charges.
use Rattle.std.specs.Prelude.{◌≡◌, ℕ, ◌<◌, max, List, ◌∷◌, ◌++◌, drop, sum, Some, None, Option}
use Rattle.correlation.specs.Answers.{charge_of_branch}
use Rattle.correlation.specs.Roots as roots
use Rattle.correlation.specs.Tables.{entry}
use Rattle.modules.specs.Bounds.{Tabled}
use Rattle.modules.specs.Sheets.{line_units}
use Rattle.modules.specs.Trees.{Tree, Forest, more}
use Rattle.modules.specs.declared.sheet.Sheet.{Sheet}
use Rattle.words.specs.Heads.{Head, HeadInRange, HeadLawful, HeadOf, of_line, of_sum, of_greater, of_root, head_words}
use Rattle.words.specs.Items.{Shows, values}
use Rattle.words.specs.Words.{word, entry_kind, value_room}
use Rattle.words.specs.declared.item.Item.{Item}
use Rattle.words.specs.declared.item.Item.TheVariants.{Line, Sum, Greater, Root}
use Rattle.written.specs.Forests.{join}
use Rattle.written.specs.declared.waiting.Waiting.{Waiting}

-- The item of a word and of the words behind it: it shows the head that they begin with. No item begins at an entry.
abbrev pub ItemOf : ℕ → List ℕ → Option Item → Type 0
ItemOf w ws (Some item) =
    ((h : Head) (rest : List ℕ) → HeadInRange h → w ∷ ws ≡ head_words h ++ rest → Shows item h rest)
    × ((e : ℕ) → e < value_room → w ≡ word entry_kind e → ⊥)
ItemOf w ws None = (h : Head) (rest : List ℕ) → HeadInRange h → w ∷ ws ≡ head_words h ++ rest → ⊥

-- the head that an item shows
abbrev pub shown : Item → Head
shown (Line n) = of_line n
shown (Sum n branches) = of_sum n
shown (Greater branches) = of_greater
shown (Root n entries branches) = of_root n (values entries.now)

-- a tree with this head takes its branches off the front, and stands in their place
pub record TakesBranches (h : Head) (before after : Forest) : Type 0 where
  pub tree : Tree
  pub own : Forest
  pub rest : Forest
  pub of : HeadOf tree h own
  pub in_range : HeadInRange h
  pub lawful : HeadLawful h
  pub tabled : Tabled tree
  pub taken : before ≡ join own rest
  pub put : after ≡ more tree rest

-- the charges that wait, the first branch first
abbrev pub charges_waiting : Waiting → List ℕ
charges_waiting waiting = drop waiting.first waiting.charges

-- what a tree with this head charges, of the charges of its branches
abbrev pub head_charge : Head → List ℕ → Sheet → ℕ
head_charge (of_line n) charges s = line_units s n
head_charge (of_sum n) charges s = sum charges
head_charge of_greater charges s = max (charge_of_branch charges 0) (charge_of_branch charges 1)
head_charge (of_root n above) charges s = roots.root n (entry n above) (charge_of_branch charges)

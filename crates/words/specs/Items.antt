-- The items that the reader hands out: what one shows of the words.
use Rattle.std.specs.Prelude.{◌≡◌, ℕ, suc, ◌%◌, ◌<◌, ◌≤◌, ◌⊎◌, List, [], ◌∷◌, ◌++◌, length, Ok, Err, Result}
use Rattle.std.specs.Borrow.{Bor}
use Rattle.correlation.specs.Answers.{HasAbove, unlawful}
use Rattle.correlation.specs.Tables.{LawfulAbove}
use Rattle.correlation.specs.declared.table.Table.{Table}
use Rattle.modules.specs.Trees.{Tree, Forest}
use Rattle.refusals.specs.declared.Refusal.{Refusal}
use Rattle.refusals.specs.declared.Refusal.TheVariants.{TooManyWords}
use Rattle.words.specs.Faults.{HeadFault, Fault, Refused}
use Rattle.words.specs.Grammar.{Branch, Branches, Reads}
use Rattle.words.specs.Heads.{Head, HeadOf, Opens, of_line, of_sum, of_greater, of_root}
use Rattle.words.specs.Words.{entry_words, value_room, most_words}
use Rattle.words.specs.declared.item.Item.{Item}
use Rattle.words.specs.declared.item.Item.TheVariants.{Line, Sum, Greater, Root}

-- the item shows this head, borrows the words of its entries, and borrows these words as those of its branches
abbrev pub Shows : Item → Head → List ℕ → Type 0
Shows (Line n) h ws = h ≡ of_line n
Shows (Sum n branches) h ws = (h ≡ of_sum n) × (branches.now ≡ ws)
Shows (Greater branches) h ws = (h ≡ of_greater) × (branches.now ≡ ws)
Shows (Root n entries branches) h ws = (es : List ℕ) × (h ≡ of_root n es) × (entries.now ≡ entry_words es) × (branches.now ≡ ws)

-- an item, and the words behind its head
abbrev pub Opened : Type 0
Opened = Item × Bor (List ℕ)

-- the head that the words begin with, by its item, which borrows all the words behind it; or what is wrong with it
abbrev pub FirstItem : List ℕ → Result Item Refusal → Type 0
FirstItem ws (Ok item) = (h : Head) × (rest : List ℕ) × Opens 1 ws h rest × Shows item h rest
FirstItem ws (Err e) = HeadFault 1 0 ws e

-- the item is the tree's own, at this depth: it shows the tree's head, and the words of its branches with these behind them
abbrev pub OwnItem : Tree → ℕ → List ℕ → Item → Type 0
OwnItem t depth behind item =
    (h : Head) × (f : Forest) × (bs : List ℕ) × HeadOf t h f × Branches f (suc depth) bs × Shows item h (bs ++ behind)

-- the same of an answer, which is then no refusal
abbrev pub Owned : Tree → ℕ → List ℕ → Result Item Refusal → Type 0
Owned t depth behind (Ok item) = OwnItem t depth behind item
Owned t depth behind (Err e) = ⊥

-- where the words begin with a branch of any tree, the answer is that tree's own item
abbrev pub OwnFirst : List ℕ → Result Item Refusal → Type 0
OwnFirst ws r = (t : Tree) (depth : ℕ) (bs behind : List ℕ) → ws ≡ bs ++ behind → Branch t depth bs → Owned t depth behind r

-- the values of words
abbrev pub values : List ℕ → List ℕ
values [] = []
values (w ∷ ws) = w % value_room ∷ values ws

-- the table of n branches whose entries above the diagonal are the values of these words, if it is lawful
abbrev pub TableOf : ℕ → List ℕ → Result Table Refusal → Type 0
TableOf n ws (Ok t) = LawfulAbove n (values ws) × HasAbove n (values ws) t
TableOf n ws (Err e) = (LawfulAbove n (values ws) → ⊥) × (e ≡ unlawful)

-- a branch is read, whose item covers no more than it, and the rest is left; or the first fault is told
abbrev pub BranchRead : ℕ → ℕ → List ℕ → Result Opened Refusal → Type 0
BranchRead depth place ws (Ok p) =
    (t : Tree) × (bs : List ℕ) × (ws ≡ bs ++ p.1.now) × Branch t depth bs × OwnItem t depth [] p.0
BranchRead depth place ws (Err e) = Fault depth place ws e

-- the same of the outermost branch: 20 before all the others
abbrev pub FirstBranch : List ℕ → Result Opened Refusal → Type 0
FirstBranch ws (Ok p) = (length ws ≤ most_words) × BranchRead 1 0 ws (Ok p)
FirstBranch ws (Err e) = ((most_words < length ws) × (e ≡ TooManyWords most_words)) ⊎ ((length ws ≤ most_words) × Fault 1 0 ws e)

-- the item is the tree's own and covers no more than it, and what stood behind the tree is left
abbrev pub OwnedBranch : Tree → ℕ → List ℕ → Result Opened Refusal → Type 0
OwnedBranch t depth behind (Ok p) = (p.1.now ≡ behind) × OwnItem t depth [] p.0
OwnedBranch t depth behind (Err e) = ⊥

-- where no more than 512 words begin with a branch of any tree, the answer is that tree's own
abbrev pub OwnBranch : List ℕ → Result Opened Refusal → Type 0
OwnBranch ws r =
    (t : Tree) (depth : ℕ) (bs behind : List ℕ) → length ws ≤ most_words → 1 ≤ depth → ws ≡ bs ++ behind → Branch t depth bs
    → OwnedBranch t depth behind r

-- the words read as a tree, whose item covers them all; or they are refused
abbrev pub ReadAnswer : List ℕ → Result Item Refusal → Type 0
ReadAnswer ws (Ok item) = (t : Tree) × Reads ws t × OwnItem t 1 [] item
ReadAnswer ws (Err e) = Refused ws e

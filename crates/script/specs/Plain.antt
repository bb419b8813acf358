-- Statements written out plainly: one to a line, with one space between two words.
use Rattle.std.specs.Prelude.{◌≡◌, ℕ, ◌≤◌, List, [], ◌∷◌, ◌++◌, map, Ok, Err, vec_items, codes, decimal, Result, Vec, ◌≢◌}
use Rattle.std.specs.declared.alloc.Global.{Global}
use Rattle.std.specs.List.{AllByRecursion}
use Rattle.script.specs.declared.Fault.{Fault}
use Rattle.script.specs.declared.Fault.TheVariants.{Memory, Line}
use Rattle.script.specs.declared.Statement.{Statement}
use Rattle.script.specs.Meaning.{Said, table, root, total, price_standard, said}
use Rattle.script.specs.Numbers.{largest}

-- the words of a statement's line
abbrev pub words_in : Said → List (List ℕ)
words_in (table n ns) = codes "table" ∷ map decimal (n ∷ ns)
words_in (root ns) = codes "root" ∷ map decimal ns
words_in (total line amount) = codes "total" ∷ map decimal (line ∷ amount ∷ [])
words_in price_standard = codes "price" ∷ codes "standard" ∷ []

-- the numbers among them, in order
abbrev pub numbers_in : Said → List ℕ
numbers_in (table n ns) = n ∷ ns
numbers_in (root ns) = ns
numbers_in (total line amount) = line ∷ amount ∷ []
numbers_in price_standard = []

-- words with one space between two
abbrev pub spaced : List (List ℕ) → List ℕ
spaced [] = []
spaced (w ∷ []) = w
spaced (w ∷ v ∷ ws) = w ++ 32 ∷ spaced (v ∷ ws)

-- the line of one statement, without its end
abbrev pub plain_line : Said → List ℕ
plain_line s = spaced (words_in s)

-- a line for each statement
abbrev pub plain_text : List Said → List ℕ
plain_text [] = []
plain_text (s ∷ ss) = plain_line s ++ 10 ∷ plain_text ss

-- no number is above the largest
abbrev pub Within : List Said → Type 0
Within ss = AllByRecursion (λ s. AllByRecursion (λ n. n ≤ largest) (numbers_in s)) ss

-- a text that writes statements out plainly is parsed to those statements, unless memory ran out
abbrev pub ReadBack : List ℕ → Result (Vec Statement Global) Fault → Type 0
ReadBack text (Ok v) = (ss : List Said) → Within ss → text ≡ plain_text ss → map said (vec_items v) ≡ ss
ReadBack text (Err Memory) = Unit {0}
ReadBack text (Err (Line n m)) = (ss : List Said) → Within ss → text ≢ plain_text ss

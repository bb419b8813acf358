-- The meaning of the program's input: its statements, or the first line that cannot be read.
use Rattle.std.specs.Prelude.{◌≡◌, ℕ, ◌+◌, cond, List, [], ◌∷◌, map, Some, None, Ok, Err, vec_items, codes, Option, Result, Vec}
use Rattle.std.specs.declared.alloc.Global.{Global}
use Rattle.std.specs.Str.{bytes_eq}
use Rattle.script.specs.declared.Fault.{Fault}
use Rattle.script.specs.declared.Fault.TheVariants.{Memory, Line}
use Rattle.script.specs.declared.Misread.{Misread}
use Rattle.script.specs.declared.Misread.TheVariants.{UnknownStatement, SizeMissing, NotANumber, TotalParts, UnknownTree}
use Rattle.script.specs.declared.Statement.{Statement}
use Rattle.script.specs.declared.Statement.TheVariants.{Table, Root, Total, PriceStandard}
use Rattle.script.specs.declared.Unread.{Unread}
use Rattle.script.specs.declared.Unread.TheVariants as unread
use Rattle.script.specs.Numbers.{numbers_of}
use Rattle.script.specs.Pieces.{before_comment, lines_of, words_of}

-- what a statement says: a table's size and entries, the charges of the root, a total's line and amount, or that the price is by the standard tree
pub data Said : Type 0 where
  table : ℕ → List ℕ → Said
  root : List ℕ → Said
  total : ℕ → ℕ → Said
  price_standard : Said

-- what `table` says with the numbers behind it, the first of which is the size
abbrev pub table_of : Option (List ℕ) → Result Said Misread
table_of None = Err NotANumber
table_of (Some []) = Err SizeMissing
table_of (Some (n ∷ ns)) = Ok (table n ns)

-- what `root` says with the numbers behind it, if any
abbrev pub root_of : Option (List ℕ) → Result Said Misread
root_of None = Err NotANumber
root_of (Some ns) = Ok (root ns)

-- what `total` says with the numbers behind it, which are two: a line and an amount
abbrev pub total_of : Option (List ℕ) → Result Said Misread
total_of None = Err NotANumber
total_of (Some []) = Err TotalParts
total_of (Some (line ∷ [])) = Err TotalParts
total_of (Some (line ∷ amount ∷ [])) = Ok (total line amount)
total_of (Some (line ∷ amount ∷ n ∷ ns)) = Err TotalParts

-- what `price` says with the words behind it: the one word `standard`, and no other
abbrev pub price_of : List (List ℕ) → Result Said Misread
price_of [] = Err UnknownTree
price_of (w ∷ []) = cond (bytes_eq w (codes "standard")) (Ok price_standard) (Err UnknownTree)
price_of (w ∷ v ∷ ws) = Err UnknownTree

-- what a line's first word and the words after it say
abbrev pub statement_of : List ℕ → List (List ℕ) → Result Said Misread
statement_of w ws =
    cond (bytes_eq w (codes "table")) (table_of (numbers_of ws)) (
    cond (bytes_eq w (codes "root")) (root_of (numbers_of ws)) (
    cond (bytes_eq w (codes "total")) (total_of (numbers_of ws)) (
    cond (bytes_eq w (codes "price")) (price_of ws) (Err UnknownStatement)
    )
    )
    )

-- the statements in order, or a line's number and how it is misread
abbrev pub Told : Type 0
Told = Result (List Said) (ℕ × Misread)

-- what line n and the lines below it say; a misread line hides those below it
abbrev pub above : ℕ → Result Said Misread → Told → Told
above n (Err m) rest = Err (n, m)
above n (Ok s) (Ok ss) = Ok (s ∷ ss)
above n (Ok s) (Err e) = Err e

-- the same by the words of line n; a line without words says nothing
abbrev pub line_above : ℕ → List (List ℕ) → Told → Told
line_above n [] rest = rest
line_above n (w ∷ ws) rest = above n (statement_of w ws) rest

-- what lines say that are counted from n; what follows `#` on a line is passed over
abbrev pub lines_from : ℕ → List (List ℕ) → Told
lines_from n [] = Ok []
lines_from n (l ∷ ls) = line_above n (words_of (before_comment l)) (lines_from (n + 1) ls)

-- what a text says, its lines counted from 1
abbrev pub meaning : List ℕ → Told
meaning text = lines_from 1 (lines_of text)

-- what a parsed statement says
abbrev pub said : Statement → Said
said (Table n ns) = table n (vec_items ns)
said (Root ns) = root (vec_items ns)
said (Total line amount) = total line amount
said PriceStandard = price_standard

-- what is read is what is said, as v has it, unless memory ran out
abbrev pub Reads : {A B : Type 0} → (A → B) → Result B Misread → Result A Unread → Type 0
Reads v told (Ok x) = told ≡ Ok (v x)
Reads v told (Err unread.Memory) = Unit {0}
Reads v told (Err (unread.Misread m)) = told ≡ Err m

-- the fault of a text whose line n gives no statement
abbrev pub fault_on : ℕ → Unread → Fault
fault_on n unread.Memory = Memory
fault_on n (unread.Misread m) = Line n m

-- what is parsed is what is told, unless memory ran out
abbrev pub Tells : Told → Result (Vec Statement Global) Fault → Type 0
Tells told (Ok ss) = told ≡ Ok (map said (vec_items ss))
Tells told (Err Memory) = Unit {0}
Tells told (Err (Line n m)) = told ≡ Err (n, m)

-- what is parsed of a text is its meaning, unless memory ran out
abbrev pub Parsed : List ℕ → Result (Vec Statement Global) Fault → Type 0
Parsed text r = Tells (meaning text) r

-- The words that a tree is written in: a kind in the top four bits, a value below.
use Rattle.std.specs.Prelude.{◌≡◌, ◌≢◌, ℕ, ◌+◌, ◌*◌, ◌/◌, ◌≤◌, ◌⊎◌, List, [], ◌∷◌, Some, None, Option}
use Rattle.correlation.specs.Tables.{most_branches}
use Rattle.modules.specs.Sheets.{IsLine}
use Rattle.words.specs.declared.kind.Kind.{Kind}
use Rattle.words.specs.declared.kind.Kind.TheVariants.{Line, Sum, Greater, Root, Entry}

-- the kinds
abbrev pub line_kind : ℕ
line_kind = 1

abbrev pub sum_kind : ℕ
sum_kind = 2

abbrev pub greater_kind : ℕ
greater_kind = 3

abbrev pub root_kind : ℕ
root_kind = 4

abbrev pub entry_kind : ℕ
entry_kind = 5

-- the number of each kind
abbrev pub kind_number : Kind → ℕ
kind_number Line = line_kind
kind_number Sum = sum_kind
kind_number Greater = greater_kind
kind_number Root = root_kind
kind_number Entry = entry_kind

-- a value is below 2 to the power 28
abbrev pub value_room : ℕ
value_room = 268435456

-- the word of a kind with a value
abbrev pub word : ℕ → ℕ → ℕ
word kind value = kind * value_room + value

-- the kind of a word, where one has the number that stands above its value
abbrev pub KindOf : ℕ → Option Kind → Type 0
KindOf w (Some k) = kind_number k ≡ w / value_room
KindOf w None = (k : Kind) → kind_number k ≢ w / value_room

-- the words of entries, in order
abbrev pub entry_words : List ℕ → List ℕ
entry_words [] = []
entry_words (e ∷ es) = word entry_kind e ∷ entry_words es

-- the kinds that a branch may begin with
abbrev pub BranchKind : ℕ → Type 0
BranchKind kind = (line_kind ≤ kind) × (kind ≤ root_kind)

-- A line's value is its number. A sum's and a root's value is how many branches it has, and a greater has two.
abbrev pub ValueInRange : ℕ → ℕ → Type 0
ValueInRange kind value =
    ((kind ≡ line_kind) × IsLine value)
    ⊎ ((kind ≡ greater_kind) × (value ≡ 2))
    ⊎ (((kind ≡ sum_kind) ⊎ (kind ≡ root_kind)) × (1 ≤ value) × (value ≤ most_branches))

-- an entry is in hundredths
abbrev pub most_entry : ℕ
most_entry = 100

-- at most so many words are read
abbrev pub most_words : ℕ
most_words = 512

-- a branch stands at most so deep, the outermost at 1
abbrev pub most_depth : ℕ
most_depth = 6

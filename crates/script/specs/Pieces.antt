-- How a text is cut: into lines, and a line into words.
use Rattle.std.specs.Prelude.{ℕ, Bool, not, ◌||◌, List, length, ◌==◌}
use Rattle.std.specs.List.{slice_split, before_first, filter}

-- a line ends at a line feed, which is not part of it; what is behind the last line feed is a line too, with or without a byte
abbrev pub lines_of : List ℕ → List (List ℕ)
lines_of text = slice_split (λ b. b == 10) text

-- what stands before the first `#` of a line; all of it where there is none
abbrev pub before_comment : List ℕ → List ℕ
before_comment line = before_first (λ b. b == 35) line

-- the space, the tab and the carriage return
abbrev pub is_space : ℕ → Bool
is_space b = b == 32 || (b == 9 || b == 13)

-- whether a piece holds something
abbrev pub holds_some : List ℕ → Bool
holds_some piece = not (length piece == 0)

-- one space or more parts two words
abbrev pub words_of : List ℕ → List (List ℕ)
words_of line = filter holds_some (slice_split is_space line)

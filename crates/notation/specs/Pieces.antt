-- How a text is cut into pieces: each mark by itself, and each run of other bytes between marks and spaces.
use Rattle.std.specs.Prelude.{ℕ, Bool, false, cond, not, ◌&&◌, ◌||◌, List, [], ◌∷◌, ◌==◌}
use Rattle.std.specs.List.{prefix_len}

-- the space, the tab, the carriage return and the line feed
abbrev pub is_space_byte : ℕ → Bool
is_space_byte b = b == 32 || (b == 9 || (b == 13 || b == 10))

-- ( ) , [ ]
abbrev pub is_mark_byte : ℕ → Bool
is_mark_byte b = b == 40 || (b == 41 || (b == 44 || (b == 91 || b == 93)))

-- any other byte is part of a run
abbrev pub is_in_run : ℕ → Bool
is_in_run b = not (is_space_byte b || is_mark_byte b)

-- a run goes on here
abbrev pub goes_on : List ℕ → Bool
goes_on [] = false
goes_on (b ∷ bs) = is_in_run b

-- a byte put at the front of the first piece
abbrev pub joins : ℕ → List (List ℕ) → List (List ℕ)
joins b [] = (b ∷ []) ∷ []
joins b (p ∷ ps) = (b ∷ p) ∷ ps

-- the pieces of a text: a space is part of none, and a byte of a run is of one piece with the next where the run goes on
abbrev pub pieces : List ℕ → List (List ℕ)
pieces [] = []
pieces (b ∷ bs) = cond (is_space_byte b) (pieces bs) (cond (is_in_run b && goes_on bs) (joins b (pieces bs)) ((b ∷ []) ∷ pieces bs))

-- how long the run is that a text begins with
abbrev pub run : List ℕ → ℕ
run = prefix_len is_in_run

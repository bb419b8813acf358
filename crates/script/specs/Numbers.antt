-- Which numbers words stand for.
use Rattle.std.specs.Prelude.{ℕ, ◌-◌, ◌^◌, List, [], ◌∷◌, Some, None, Option}
use Rattle.digits.specs.Numbers.{number_up_to}

-- the largest number that can stand in a statement, and that each number above it stands for
abbrev pub largest : ℕ
largest = 2 ^ 64 - 1

-- the number that a word stands for: a word of one or more digits, and no other, stands for one
abbrev pub number_of : List ℕ → Option ℕ
number_of w = number_up_to largest w

-- a number and those behind it, where all are there
abbrev pub both : Option ℕ → Option (List ℕ) → Option (List ℕ)
both None ns = None
both (Some n) None = None
both (Some n) (Some ns) = Some (n ∷ ns)

-- the numbers that words stand for, where each stands for one
abbrev pub numbers_of : List (List ℕ) → Option (List ℕ)
numbers_of [] = Some []
numbers_of (w ∷ ws) = both (number_of w) (numbers_of ws)

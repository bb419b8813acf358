-- Numbers that are written with one space between two.
use Rattle.std.specs.Prelude.{ℕ, List, [], ◌∷◌, ◌++◌}

-- each number as its text
abbrev pub spaced_by : (ℕ → List ℕ) → List ℕ → List ℕ
spaced_by text [] = []
spaced_by text (x ∷ []) = text x
spaced_by text (x ∷ y ∷ xs) = text x ++ 32 ∷ spaced_by text (y ∷ xs)

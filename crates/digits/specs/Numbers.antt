-- The number that decimal digits write.
use Rattle.std.specs.Prelude.{ℕ, min, cond, List, [], ◌∷◌, Some, None, Option}
use Rattle.std.specs.Str.{all_ascii_digits}
use Rattle.std.specs.Str.Parse.{digits_value}

-- the number that one or more digits write, cut to the largest one, `most`; none where a byte is no digit
abbrev pub number_up_to : ℕ → List ℕ → Option ℕ
number_up_to most [] = None
number_up_to most (c ∷ cs) = cond (all_ascii_digits (c ∷ cs)) (Some (min (digits_value 10 (c ∷ cs)) most)) None

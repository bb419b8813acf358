-- The charges that were gathered.
use Rattle.std.specs.Prelude.{ℕ, max, List, take}
use Rattle.std.specs.List.{fold}
use Rattle.modules.specs.declared.charges.Charges.{Charges}

abbrev pub charges_of : Charges → List ℕ
charges_of c = take c.count c.amounts

-- the largest of some numbers, and 0 of none
abbrev pub largest_of : List ℕ → ℕ
largest_of = fold max 0

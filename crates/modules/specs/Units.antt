-- A total rounded up to whole units. Assumes nothing.
use Rattle.std.specs.Prelude.{ℕ, ◌+◌, ◌*◌, ◌≤◌}
use Rattle.std.proofs.Common.{arith}
use Rattle.modules.specs.Sheets.{units, RoundedUp}

pub units_up : (t : ℕ) → RoundedUp t (units t)
unfolding units
units_up t = record { enough = omega arith; least = λ v h. omega arith }

-- less than a unit is added
pub units_near : (t : ℕ) → 10000 * units t ≤ t + 9999
unfolding units
units_near t = omega arith

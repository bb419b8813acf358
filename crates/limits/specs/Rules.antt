-- What a limit rule stands for: the capital that it counts at each required capital, and what whoever brings one must show.
use Rattle.std.specs.Prelude.{◌≡◌, ℕ, ◌*◌, ◌/◌, ◌≤◌, pos, ◌≤ℤ◌, Result}
use Rattle.limits.specs.Capital.{unless_below, bins_of, all_of}
use Rattle.modules.specs.declared.sheet.Sheet.{Sheet}
use Rattle.refusals.specs.declared.Refusal.{Refusal}

-- An amount at each required capital, a fraction w/k of at least 0: it is f w k over k, in some part of a unit.
-- It is the same at equal fractions, and for each unit of required capital it does not rise with required capital.
pub record Tapers (f : ℕ → ℕ → ℕ) : Type 0 where
  pub alike : (w k v l : ℕ) → 1 ≤ k → 1 ≤ l → w * l ≡ v * k → f w k * l ≡ f v l * k
  pub tapers : (w k v l : ℕ) → 1 ≤ k → 1 ≤ l → w * l ≤ v * k → f v l * w ≤ f w k * v

-- At required capital w/k a rule counts c w k over scale · k. It is such an amount, and never passes all bins together.
pub record Counts (scale : ℕ) (s : Sheet) (c : ℕ → ℕ → ℕ) : Type 0 where
  pub tapered : Tapers c
  pub within : (w k : ℕ) → 1 ≤ k → c w k ≤ scale * k * all_of (bins_of s)

-- the answer where c over scale is counted: 33, or the capital counted, rounded down
abbrev pub counted_answer : Sheet → (scale c : ℕ) → Result ℕ Refusal
counted_answer s scale c = unless_below s.uncapped (c / scale)

-- two rules mean the same at a sheet: where bin 1 is not below 0, both count the same capital at every required capital
abbrev pub SameCount : Sheet → (scale : ℕ) (c : ℕ → ℕ → ℕ) (other : ℕ) (d : ℕ → ℕ → ℕ) → Type 0
SameCount s scale c other d = pos 0 ≤ℤ s.uncapped → (w k : ℕ) → 1 ≤ k → c w k * other ≡ d w k * scale

-- How the exact figure moves with the charge, at settings in range: the fraction goes from w/k up to v/m.
use Rattle.std.specs.Prelude.{◌≡◌, ℕ, ◌+◌, ◌-◌, ◌*◌, ◌≤◌, true}
use Rattle.required.specs.Exact.{figure_unit, exact_figure}
use Rattle.required.specs.Ranges.{settings_in}
use Rattle.required.specs.declared.settings.Settings.{Settings}

-- the figure does not fall
abbrev pub NeverFalls : Type 0
NeverFalls = (s : Settings) → settings_in s ≡ true → (w k v m : ℕ) → 1 ≤ k → 1 ≤ m → w * m ≤ v * k → exact_figure s w k * m ≤ exact_figure s v m * k

-- it rises by at most 1.38 for 1
abbrev pub RisesSlowly : Type 0
RisesSlowly = (s : Settings) → settings_in s ≡ true → (w k v m : ℕ) → 1 ≤ k → 1 ≤ m → w * m ≤ v * k → 100 * (exact_figure s v m * k) ≤ 100 * (exact_figure s w k * m) + 138 * figure_unit * (v * k - w * m)

-- What is answered to the question for required capital, and how far it can be from the exact figure.
use Rattle.std.specs.Prelude.{ℕ, ◌+◌, ◌*◌, ◌≤◌, cond, Err, Result}
use Rattle.modules.specs.Answers.{answer_of}
use Rattle.modules.specs.Bounds.{Floor, Ceiling}
use Rattle.modules.specs.Trees.{Tree, gross, roundings}
use Rattle.modules.specs.declared.sheet.Sheet.{Sheet}
use Rattle.refusals.specs.declared.Refusal.{Refusal}
use Rattle.refusals.specs.declared.Refusal.TheVariants.{SettingOutOfRange}
use Rattle.required.specs.Exact.{figure_unit, exact_figure}
use Rattle.required.specs.Figures.{operational_charge_of, tax_effect_of, required_capital_of}
use Rattle.required.specs.Ranges.{settings_in}
use Rattle.required.specs.declared.answer.Required.{Required}
use Rattle.required.specs.declared.settings.Settings.{Settings}

-- the figures at a charge, with the roundings of its tree
abbrev pub required_of : Settings → (charge roundings : ℕ) → Required
required_of s a n = record {
  charge = a;
  operational = operational_charge_of s a;
  tax_effect = tax_effect_of s a;
  required = required_capital_of s a;
  roundings = n;
}

-- A module stands for the tree t and charges a at the sheet. A setting out of range is refused 31, and then 27 and 28 as by
-- the module.
abbrev pub required_answer : Settings → Tree → Sheet → ℕ → Result Required Refusal
required_answer s t sheet a = cond (settings_in s) (answer_of (gross t sheet) (roundings t sheet) (required_of s a (roundings t sheet))) (Err SettingOutOfRange)

-- Required capital r, answered with n roundings, is not below the exact figure at any floor w/k of the tree, and is above
-- it at no ceiling by more than 1.4 for each rounding and 4.
pub record NearExact (s : Settings) (t : Tree) (sheet : Sheet) (r n k : ℕ) : Type 0 where
  pub not_below : (w : ℕ) → Floor t sheet k w → exact_figure s w k ≤ r * (k * figure_unit)
  pub not_above : (v : ℕ) → Ceiling t sheet k v → 10 * (r * (k * figure_unit)) ≤ 10 * exact_figure s v k + (14 * n + 40) * (k * figure_unit)

-- The solvency ratio: counted capital for each unit of required capital, in ten-thousandths, rounded down.
use Rattle.std.specs.Prelude.{◌≡◌, ℕ, ◌*◌, ◌/◌, ◌≤◌, cond, Ok, Err, Result, ◌==◌}
use Rattle.limits.specs.Capital.{unless_below}
use Rattle.limits.specs.Rules.{SameCount}
use Rattle.modules.specs.Bounds.{Floor}
use Rattle.modules.specs.Trees.{Tree}
use Rattle.modules.specs.declared.sheet.Sheet.{Sheet}
use Rattle.required.specs.Exact.{exact_figure, figure_unit}
use Rattle.required.specs.declared.answer.Required.{Required}
use Rattle.required.specs.declared.settings.Settings.{Settings}
use Rattle.ratio.specs.Classes.{class_of, lowest}
use Rattle.ratio.specs.declared.solvency.Solvency.{Solvency}
use Rattle.refusals.specs.declared.Refusal.{Refusal}
use Rattle.refusals.specs.declared.Refusal.TheVariants.{RequiredIsZero}

abbrev pub ratio_of : (required counted : ℕ) → ℕ
ratio_of required counted = 10000 * counted / required

-- with the class of the ratio as rounded down
abbrev pub solvency_of : (required counted : ℕ) → Solvency
solvency_of required counted = record { ratio = ratio_of required counted; class = class_of (ratio_of required counted) }

-- Capital is required, and a rule counts c at it, over scale: 32 where none is required, then 33 as by the rule,
-- and else the ratio of what the rule answers.
abbrev pub held_against : (required : ℕ) → Sheet → (scale c : ℕ) → Result Solvency Refusal
held_against required s scale c = cond (required == 0) (Err RequiredIsZero) (unless_below s.uncapped (solvency_of required (c / scale)))

-- A rule counts c w k over scale · k at required capital w/k. Where required capital is refused, so is the ratio.
abbrev pub ratio_answer : Result Required Refusal → Sheet → (scale : ℕ) (c : ℕ → ℕ → ℕ) → Result Solvency Refusal
ratio_answer (Ok q) s scale c = held_against q.required s scale (c q.required 1)
ratio_answer (Err refusal) s scale c = Err refusal

-- The exact figure at w/k is e over d, with d = k · figure_unit, and there the rule counts c e d over scale · d.
-- The ratio x times that figure is at most 10,000 times what is counted: both sides are said over scale · d.
abbrev pub Covered : (x : ℕ) → Settings → (scale : ℕ) (c : ℕ → ℕ → ℕ) (w k : ℕ) → Type 0
Covered x settings scale c w k = scale * (x * exact_figure settings w k) ≤ 10000 * c (exact_figure settings w k) (k * figure_unit)

-- At every floor over k of the module's tree: the ratio is never above the exact one, and the class never milder.
pub record Cautious (settings : Settings) (t : Tree) (s : Sheet) (scale : ℕ) (c : ℕ → ℕ → ℕ) (q : Solvency) (k : ℕ) : Type 0 where
  pub never_above : (w : ℕ) → Floor t s k w → Covered q.ratio settings scale c w k
  pub never_milder : (w : ℕ) → Floor t s k w → Covered (lowest q.class) settings scale c w k

-- Against the same required capital, and at the same sheet, rules of the same meaning have the same answer.
abbrev pub SameRatios : Type 0
SameRatios =
    (required : Result Required Refusal) (s : Sheet) (scale : ℕ) (c : ℕ → ℕ → ℕ) (other : ℕ) (d : ℕ → ℕ → ℕ)
    → 1 ≤ scale
    → 1 ≤ other
    → SameCount s scale c other d
    → ratio_answer required s scale c ≡ ratio_answer required s other d

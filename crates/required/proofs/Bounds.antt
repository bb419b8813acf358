-- Required capital and the exact figure at the floors and ceilings of a module's tree. Assumes nothing.
use Rattle.std.proofs.Common.{◌≡◌, ℕ, ◌+◌, ◌-◌, ◌*◌, ◌≤◌, ap, ◌∙◌, mul-le-mul_left, arith}
use Rattle.modules.specs.Answers.{Within}
use Rattle.modules.specs.Trees.{Tree, roundings}
use Rattle.modules.specs.declared.sheet.Sheet.{Sheet}
use Rattle.required.specs.Answers.{NearExact}
use Rattle.required.specs.Exact.{exact_figure}
use Rattle.required.specs.Figures.{tax_rate_of, required_capital_of}
use Rattle.required.specs.Ranges.{most_rate}
use Rattle.required.specs.declared.settings.Settings.{Settings}
use Rattle.required.proofs.Near.{not_below_exact, near_exact}
use Rattle.required.proofs.Rising.{figure_not_less, figure_not_more}
use Rattle.required.proofs.Scaling.{figure_scales}

-- a whole charge over k
figure_over : (s : Settings) (a k : ℕ) → exact_figure s (k * a) k ≡ k * exact_figure s a 1
figure_over s a k = ap (exact_figure s (k * a)) (omega arith) ∙ figure_scales s k a 1

-- at a larger fraction over the same k
not_less : (s : Settings) → tax_rate_of s ≤ most_rate → (w v k : ℕ) → w ≤ v → exact_figure s w k ≤ exact_figure s v k
not_less s rate w v k h = let is : w + (v - w) ≡ v = omega arith in omega (arith, figure_not_less s rate w (v - w) k, ap (λ x. exact_figure s x k) is)

pub near : (s : Settings) → tax_rate_of s ≤ most_rate → (t : Tree) (sheet : Sheet) (a k : ℕ) → Within t sheet a k → NearExact s t sheet (required_capital_of s a) (roundings t sheet) k
near s rate t sheet a k within = record {
  not_below = λ w h. omega (arith, not_less s rate w (k * a) k (within.not_below w h), figure_over s a k, mul-le-mul_left k (not_below_exact s rate a));
  not_above = λ v h.
      let n = roundings t sheet in
      omega (arith, not_less s rate (k * a) (v + k * n) k (within.not_above v h), figure_not_more s v (k * n) k, figure_over s a k, mul-le-mul_left k (near_exact s a));
}

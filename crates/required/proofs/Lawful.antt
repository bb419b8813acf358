-- How the exact figure moves between any two fractions. Assumes nothing.
use Rattle.std.proofs.Common.{◌≡◌, ℕ, ◌+◌, ◌-◌, ◌*◌, ◌≤◌, ap, ◌∙◌, mul_comm, arith}
use Rattle.required.specs.Exact.{exact_figure}
use Rattle.required.specs.Laws.{NeverFalls, RisesSlowly}
use Rattle.required.specs.declared.settings.Settings.{Settings}
use Rattle.required.proofs.Rising.{figure_not_less, figure_not_more}
use Rattle.required.proofs.Scaling.{figure_scales}
use Rattle.required.proofs.Small.{rate_small}

-- both fractions over k·m
lower : (s : Settings) (w k m : ℕ) → exact_figure s (w * m) (k * m) ≡ exact_figure s w k * m
lower s w k m = (λ i. exact_figure s (mul_comm w m i) (mul_comm k m i)) ∙ figure_scales s m w k ∙ mul_comm m (exact_figure s w k)

upper : (s : Settings) (v k m : ℕ) → exact_figure s (v * k) (k * m) ≡ exact_figure s v m * k
upper s v k m = ap (λ x. exact_figure s x (k * m)) (mul_comm v k) ∙ figure_scales s k v m ∙ mul_comm k (exact_figure s v m)

-- from the one to the other
step : (w k v m : ℕ) → w * m ≤ v * k → w * m + (v * k - w * m) ≡ v * k
step w k v m h = omega arith

pub never_falls : NeverFalls
never_falls s h w k v m one one' up =
    omega (arith, lower s w k m, upper s v k m, figure_not_less s (rate_small s h) (w * m) (v * k - w * m) (k * m), ap (λ x. exact_figure s x (k * m)) (step w k v m up))

pub rises_slowly : RisesSlowly
rises_slowly s h w k v m one one' up =
    omega (arith, lower s w k m, upper s v k m, figure_not_more s (w * m) (v * k - w * m) (k * m), ap (λ x. exact_figure s x (k * m)) (step w k v m up))

-- A ratio is never above what is counted against a smaller required capital. Assumes nothing.
use Rattle.std.proofs.Common.{◌≡◌, ℕ, ◌*◌, ◌/◌, ◌^◌, ◌<◌, ◌≤◌, Bool, true, false, cond, eqb, get_or, ℤ, pos, ◌≤ℤ◌, IfOk, Ok, Err, Result, sym, refl, ap, subst, mul-le-mul_right, mul-le-mul_left, div-mul-le_self, le_of_mul-le-mul_right, arith, w64, Fits, SFits}
use native.Mathlib.Nat.{mul-div-le}
use Rattle.limits.specs.Capital.{bins_of, all_of, whole, unless_below}
use Rattle.limits.specs.Rules.{Counts}
use Rattle.modules.specs.declared.sheet.Sheet.{Sheet}
use Rattle.limits.proofs.Answering.{answered, same_floor, unless_alike}
use Rattle.modules.specs.Bounds.{Floor}
use Rattle.modules.specs.Trees.{Tree}
use Rattle.ratio.specs.Classes.{lowest, class_of}
use Rattle.ratio.specs.Ratios.{ratio_of, solvency_of, held_against, Covered, Cautious, SameRatios}
use Rattle.ratio.specs.declared.solvency.Solvency.{Solvency}
use Rattle.refusals.specs.declared.Refusal.{Refusal}
use Rattle.refusals.specs.declared.Refusal.TheVariants.{RequiredIsZero}
use Rattle.required.specs.Exact.{exact_figure, figure_unit}
use Rattle.required.specs.declared.settings.Settings.{Settings}
use Rattle.std.proofs.lemmas.Bool.{eqb-false}
use Rattle.std.proofs.lemmas.Grind.{common_steps}

whole_small : (z : ℤ) → SFits w64 z → whole z < 2 ^ 63
whole_small z f = grind (arith, f)

-- the bins of a sheet are far from the end of the numbers
pub bins_small : (s : Sheet) → SFits w64 s.uncapped → ((i : ℕ) → Fits w64 (get_or s.capped i 0)) → 10000 * all_of (bins_of s) < 2 ^ 128
bins_small s u f = omega (arith, whole_small s.uncapped u, (f 0).fits, (f 1).fits, (f 2).fits, (f 3).fits, (f 4).fits, (f 5).fits)

-- A rule counts c, over scale, in all at the required capital r, and d at e, where e for each unit counts no less. Then the ratio at r, times e, is at most 10,000 times d.
pub ratio_holds : (scale r c e d : ℕ) → 1 ≤ r → c * e ≤ d * r → scale * (ratio_of r (c / scale) * e) ≤ 10000 * d
ratio_holds scale r c e d some tapers =
    let x = ratio_of r (c / scale) in
    let at_r : x * r ≤ 10000 * (c / scale) = div-mul-le_self (10000 * (c / scale)) r in
    let parts : scale * (x * r) ≤ 10000 * c = omega (arith, mul-le-mul_left scale at_r, mul-div-le c scale) in
    le_of_mul-le-mul_right {m = scale * (x * e)} {n = 10000 * d} {k = r} (omega (arith, mul-le-mul_left e parts)) some

-- a ratio is at least the lowest of its class
pub class_reached : (x : ℕ) → lowest (class_of x) ≤ x
class_reached x = grind (arith, common_steps)

held_by : (b : Bool) (z : ℤ) (x q : Solvency) → Ok q ≡ cond b (Err RequiredIsZero) (unless_below z x) → (b ≡ false) × (pos 0 ≤ℤ z) × (q ≡ x)
held_by true z x q e = grind arith
held_by false z x q e = let told = answered z x q e in (refl, told.0, told.1)

-- What is held against required capital r is cautious, where r is not below the exact figure at any floor.
pub held_cautious : (settings : Settings) (t : Tree) (s : Sheet) (scale : ℕ) (c : ℕ → ℕ → ℕ) (r : ℕ) (answer : Result Solvency Refusal) → (pos 0 ≤ℤ s.uncapped → Counts scale s c) → ((k : ℕ) → 1 ≤ k → (w : ℕ) → Floor t s k w → exact_figure settings w k ≤ r * (k * figure_unit)) → answer ≡ held_against r s scale (c r 1) → IfOk answer (λ q. (k : ℕ) → 1 ≤ k → Cautious settings t s scale c q k)
held_cautious settings t s scale c r (Err refusal) counts above e = tt
held_cautious settings t s scale c r (Ok q) counts above e = λ k one.
    let told = held_by (eqb r 0) s.uncapped (solvency_of r (c r 1 / scale)) q e in
    let some : 1 ≤ r = omega (arith, eqb-false r 0 told.0) in
    let x = ratio_of r (c r 1 / scale) in
    let covered : (w : ℕ) → Floor t s k w → Covered x settings scale c w k = λ w floor.
    let f = exact_figure settings w k in
    let d = k * figure_unit in
    ratio_holds scale r (c r 1) f (c f d) some ((counts told.1).tapered.tapers f d r 1 (omega arith) (omega arith) (omega (arith, above k one w floor))) in
    let milder : (w : ℕ) → Floor t s k w → Covered (lowest (class_of x)) settings scale c w k = λ w floor.
    omega (arith, covered w floor, mul-le-mul_left scale (mul-le-mul_right (exact_figure settings w k) (class_reached x))) in
    subst (λ y. Cautious settings t s scale c y k) (sym told.2) (record { never_above = covered; never_milder = milder })

pub same_ratios : SameRatios
same_ratios (Err refusal) s scale c other d i j same = refl
same_ratios (Ok q) s scale c other d i j same =
    let r = q.required in
    ap (cond (eqb r 0) (Err RequiredIsZero)) (unless_alike s.uncapped (solvency_of r (c r 1 / scale)) (solvency_of r (d r 1 / other)) (λ standing. ap (solvency_of r) (same_floor (c r 1) scale (d r 1) other i j (same standing r 1 (omega arith)))))

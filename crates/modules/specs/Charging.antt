-- The charge of each kind keeps within the bounds of its tree, if the charges of its branches do. Assumes nothing.
use Rattle.std.specs.Prelude.{◌≡◌, ℕ, zero, suc, ◌+◌, ◌*◌, ◌≤◌, max, Bool, true, false, cond, List, [], ◌∷◌, length, MatchBool, sum, refl}
use Rattle.std.proofs.Common.{sym, ap, subst, ◌∙◌, ⊎_elim, le_of_lt, mul-le-mul_left, arith}
use Rattle.correlation.proofs.Laws.{root_laws, le_from_squares}
use Rattle.correlation.proofs.Sums.{sum_add, sum_mono, sum_mul}
use Rattle.correlation.specs.Answers.{charge_of_branch}
use Rattle.correlation.specs.Roots.{form, LeastRoot}
use Rattle.correlation.specs.Roots as roots
use Rattle.correlation.specs.Sums.{sum_below}
use Rattle.correlation.specs.Tables.{Lawful, entry}
use Rattle.std.proofs.lemmas.List.Sums.{sum_by-cons}
use Rattle.std.proofs.Math.Nat.{le-max_left, le-max_right, max-eq_left, max-eq_right}
use Rattle.std.proofs.lemmas.Bool.{cases_lt}
use Rattle.modules.specs.Answers.{Priced, Bounded, BoundedAll}
use Rattle.modules.specs.Bounds.{Floor, Floors, Ceiling, Ceilings}
use Rattle.modules.specs.Sheets.{total_of, line_units}
use Rattle.modules.specs.Trees as trees
use Rattle.modules.specs.Trees.{Tree, Forest, line, greater, root, choice, none, more, branch_count, first_taken, gross, gross_all, roundings, roundings_all}
use Rattle.modules.specs.declared.sheet.Sheet.{Sheet}
use Rattle.modules.specs.Lists.{form_mono, form_scale, sum_charges}
use Rattle.modules.specs.Units.{units_up, units_near}

pub line_bounded : (n : ℕ) (s : Sheet) → Bounded (line n) s (line_units s n)
line_bounded n s priced k one = record {
  not_below = λ w h. omega (arith, mul-le-mul_left k (units_up (total_of s n)).enough);
  not_above = λ v h. omega (arith, mul-le-mul_left k (units_near (total_of s n)));
}

-- branches together are priced where the first and the rest are
first_priced : (t : Tree) (f : Forest) (s : Sheet) → Priced (gross_all (more t f) s) (roundings_all (more t f) s) → Priced (gross t s) (roundings t s)
first_priced t f s p = record { gross_in = omega (arith, p.gross_in); roundings_in = omega (arith, p.roundings_in) }

rest_priced : (t : Tree) (f : Forest) (s : Sheet) → Priced (gross_all (more t f) s) (roundings_all (more t f) s) → Priced (gross_all f s) (roundings_all f s)
rest_priced t f s p = record { gross_in = omega (arith, p.gross_in); roundings_in = omega (arith, p.roundings_in) }

each_floor : (f : Forest) (s : Sheet) (cs : List ℕ) → BoundedAll f s cs → Priced (gross_all f s) (roundings_all f s) → (k : ℕ) → 1 ≤ k → (ws : List ℕ) → Floors f s k ws → (i : ℕ) → charge_of_branch ws i ≤ k * charge_of_branch cs i
each_floor none s [] b p k one ws h i = subst (λ l. charge_of_branch l i ≤ k * 0) (sym h) (omega arith)
each_floor none s (c ∷ cs) b p k one ws h i = absurd b
each_floor (more t f) s [] b p k one ws h i = absurd b
each_floor (more t f) s (c ∷ cs) b p k one ws h zero =
    subst (λ l. charge_of_branch l 0 ≤ k * c) (sym h.2) ((b.0 (first_priced t f s p) k one).not_below h.0 h.3)
each_floor (more t f) s (c ∷ cs) b p k one ws h (suc i) =
    subst (λ l. charge_of_branch l (suc i) ≤ k * charge_of_branch cs i) (sym h.2) (each_floor f s cs b.1 (rest_priced t f s p) k one h.1 h.4 i)

-- the roundings of each branch
roundings_each : Forest → Sheet → List ℕ
roundings_each none s = []
roundings_each (more t f) s = roundings t s ∷ roundings_each f s

each_ceiling : (f : Forest) (s : Sheet) (cs : List ℕ) → BoundedAll f s cs → Priced (gross_all f s) (roundings_all f s) → (k : ℕ) → 1 ≤ k → (vs : List ℕ) → Ceilings f s k vs → (i : ℕ) → k * charge_of_branch cs i ≤ charge_of_branch vs i + k * charge_of_branch (roundings_each f s) i
unfolding roundings_each
each_ceiling none s [] b p k one vs h i = omega arith
each_ceiling none s (c ∷ cs) b p k one vs h i = absurd b
each_ceiling (more t f) s [] b p k one vs h i = absurd b
each_ceiling (more t f) s (c ∷ cs) b p k one vs h zero =
    subst (λ l. k * c ≤ charge_of_branch l 0 + k * roundings t s) (sym h.2) ((b.0 (first_priced t f s p) k one).not_above h.0 h.3)
each_ceiling (more t f) s (c ∷ cs) b p k one vs h (suc i) =
    subst (λ l. k * charge_of_branch cs i ≤ charge_of_branch l (suc i) + k * charge_of_branch (roundings_each f s) i) (sym h.2) (each_ceiling f s cs b.1 (rest_priced t f s p) k one h.1 h.4 i)

-- there are as many of each as there are branches
floors_count : (f : Forest) (s : Sheet) (k : ℕ) (ws : List ℕ) → Floors f s k ws → length ws ≡ branch_count f
floors_count none s k ws h = ap length h
floors_count (more t f) s k ws h = omega (arith, ap length h.2, floors_count f s k h.1 h.4)

ceilings_count : (f : Forest) (s : Sheet) (k : ℕ) (vs : List ℕ) → Ceilings f s k vs → length vs ≡ branch_count f
ceilings_count none s k vs h = ap length h
ceilings_count (more t f) s k vs h = omega (arith, ap length h.2, ceilings_count f s k h.1 h.4)

pub charges_count : (f : Forest) (s : Sheet) (cs : List ℕ) → BoundedAll f s cs → length cs ≡ branch_count f
charges_count none s [] b = refl
charges_count none s (c ∷ cs) b = absurd b
charges_count (more t f) s [] b = absurd b
charges_count (more t f) s (c ∷ cs) b = omega (arith, charges_count f s cs b.1)

roundings_count : (f : Forest) (s : Sheet) → length (roundings_each f s) ≡ branch_count f
unfolding roundings_each
roundings_count none s = refl
roundings_count (more t f) s = omega (arith, roundings_count f s)

roundings_sum : (f : Forest) (s : Sheet) → sum (roundings_each f s) ≡ roundings_all f s
unfolding roundings_each
roundings_sum none s = refl
roundings_sum (more t f) s = sum_by-cons (λ x. x) (roundings t s) (roundings_each f s) ∙ ap (λ x. roundings t s + x) (roundings_sum f s)

roundings_over : (f : Forest) (s : Sheet) → sum_below (branch_count f) (charge_of_branch (roundings_each f s)) ≡ roundings_all f s
roundings_over f s = sym (sum_charges (branch_count f) (roundings_each f s) (roundings_count f s)) ∙ roundings_sum f s

pub sum_bounded : (f : Forest) (s : Sheet) (cs : List ℕ) → BoundedAll f s cs → Bounded (trees.sum f) s (sum cs)
sum_bounded f s cs b priced k one =
    let n = branch_count f in
    let all = sum_charges n cs (charges_count f s cs b) in
    record {
      not_below = λ w h.
          omega (arith, h.2, sum_charges n h.0 (floors_count f s k h.0 h.1), sum_mono n (charge_of_branch h.0) (λ i. k * charge_of_branch cs i) (λ i l. each_floor f s cs b priced k one h.0 h.1 i), sum_mul n k (charge_of_branch cs), ap (λ x. k * x) all);
      not_above = λ v h.
          omega (
            arith,
            h.2,
            sum_charges n h.0 (ceilings_count f s k h.0 h.1),
            sum_mono n (λ i. k * charge_of_branch cs i) (λ i. charge_of_branch h.0 i + k * charge_of_branch (roundings_each f s) i) (λ i l. each_ceiling f s cs b priced k one h.0 h.1 i),
            sum_add n (charge_of_branch h.0) (λ i. k * charge_of_branch (roundings_each f s) i),
            sum_mul n k (charge_of_branch cs),
            sum_mul n k (charge_of_branch (roundings_each f s)),
            ap (λ x. k * x) all,
            ap (λ x. k * x) (roundings_over f s),
          );
    }

pub greater_bounded : (t u : Tree) (s : Sheet) (c d : ℕ) → Bounded t s c → Bounded u s d → Bounded (greater t u) s (max c d)
greater_bounded t u s c d b e priced k one =
    let p = b (record { gross_in = omega (arith, priced.gross_in); roundings_in = omega (arith, priced.roundings_in) }) k one in
    let q = e (record { gross_in = omega (arith, priced.gross_in); roundings_in = omega (arith, priced.roundings_in) }) k one in
    let first = mul-le-mul_left k (le-max_left c d) in
    let second = mul-le-mul_left k (le-max_right c d) in
    record {
      not_below = λ w. ⊎_elim (λ h. omega (arith, p.not_below w h)) (λ h. omega (arith, q.not_below w h));
      not_above = λ v h. ⊎_elim (λ l. omega (arith, q.not_above v h.1, ap (λ x. k * x) (max-eq_right (le_of_lt l)))) (λ l. omega (arith, p.not_above v h.0, ap (λ x. k * x) (max-eq_left l))) (cases_lt c d);
    }

-- by which branch is taken
chosen : (b : Bool) (t u : Tree) (s : Sheet) (c d : ℕ) → Bounded t s c → Bounded u s d → Priced (cond b (gross t s) (gross u s)) (cond b (roundings t s) (roundings u s)) → (k : ℕ) → 1 ≤ k → ((w : ℕ) → MatchBool b (Floor t s k w) (Floor u s k w) → w ≤ k * cond b c d) × ((v : ℕ) → MatchBool b (Ceiling t s k v) (Ceiling u s k v) → k * cond b c d ≤ v + k * cond b (roundings t s) (roundings u s))
chosen true t u s c d b e priced k one = let p = b priced k one in (p.not_below, p.not_above)
chosen false t u s c d b e priced k one = let p = e priced k one in (p.not_below, p.not_above)

pub choice_bounded : (a b : ℕ) (t u : Tree) (s : Sheet) (c d : ℕ) → Bounded t s c → Bounded u s d → Bounded (choice a b t u) s (cond (first_taken s a b) c d)
choice_bounded a b t u s c d p q priced k one =
    let h = chosen (first_taken s a b) t u s c d p q priced k one in record { not_below = h.0; not_above = h.1 }

-- a root at a ceiling: one whole unit less than w would not be enough
root_above : (q w k m : ℕ) → LeastRoot q w → k * k * q ≤ 100 * (m * m) → k * w ≤ m + k
root_above q zero k m least h = omega arith
root_above q (suc w) k m least h =
    let short : 100 * (w * w) ≤ q = ⊎_elim (λ l. omega arith) (λ l. absurd (omega (arith, least.least w l))) (cases_lt (100 * (w * w)) q) in
    omega (arith, le_from_squares (k * w) m (omega (arith, mul-le-mul_left (k * k) short)))

pub root_bounded : (above : List ℕ) (f : Forest) (s : Sheet) (cs : List ℕ) → Lawful (branch_count f) (entry (branch_count f) above) → BoundedAll f s cs → Bounded (root above f) s (roots.root (branch_count f) (entry (branch_count f) above) (charge_of_branch cs))
root_bounded above f s cs law b priced k one =
    let n = branch_count f in
    let r = entry n above in
    let laws = root_laws n r law in
    let least = laws.least (charge_of_branch cs) in
    let p : Priced (gross_all f s) (roundings_all f s) = record { gross_in = priced.gross_in; roundings_in = omega (arith, priced.roundings_in) } in
    record {
      not_below = λ w h.
          le_from_squares w (k * roots.root n r (charge_of_branch cs))
          (omega (arith, h.2, form_mono n r (charge_of_branch h.0) (λ i. k * charge_of_branch cs i) (λ i l. each_floor f s cs b p k one h.0 h.1 i), form_scale n k r (charge_of_branch cs), mul-le-mul_left (k * k) least.enough));
      not_above = λ v h.
          let ns = charge_of_branch (roundings_each f s) in
          let wide = laws.widens v (charge_of_branch h.0) (λ i. k * ns i) h.2 in
          let grown = form_mono n r (λ i. k * charge_of_branch cs i) (λ i. charge_of_branch h.0 i + k * ns i) (λ i l. each_ceiling f s cs b p k one h.0 h.1 i) in
          omega (arith, root_above (form n r (charge_of_branch cs)) (roots.root n r (charge_of_branch cs)) k (v + sum_below n (λ i. k * ns i)) least (omega (arith, form_scale n k r (charge_of_branch cs))), sum_mul n k ns, ap (λ x. k * x) (roundings_over f s));
    }

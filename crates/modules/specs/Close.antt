-- A tree's gross is a ceiling of it, and some floor and ceiling of it differ by at most its roundings. Assumes nothing.
use Rattle.std.specs.Prelude.{◌≡◌, ℕ, zero, suc, pred, ◌+◌, ◌-◌, ◌*◌, ◌/◌, ◌≤◌, max, Bool, true, false, cond, List, [], ◌∷◌, length, MatchBool, sum, refl}
use Rattle.std.proofs.Common.{inl, inr, ⊎_elim, le_trans, le_refl, le_of_lt, mul-le-mul_left, arith}
use Rattle.correlation.specs.Answers.{charge_of_branch}
use Rattle.correlation.specs.Roots.{form, LeastRoot, least_root}
use Rattle.correlation.specs.Tables.{Lawful, entry}
use Rattle.correlation.specs.Sums.{sum_below}
use Rattle.correlation.proofs.Laws.{root_laws, square_mono, least_root_is}
use Rattle.correlation.proofs.Sums.{sum_add, sum_mono}
use Rattle.std.proofs.lemmas.List.Sums.{sum_by-cons}
use Rattle.std.proofs.lemmas.Bool.{cases_lt}
use Rattle.modules.specs.Sheets.{total_of}
use Rattle.modules.specs.Trees as trees
use Rattle.modules.specs.Trees.{Tree, Forest, line, greater, root, choice, none, more, branch_count, first_taken, gross, gross_all, roundings, roundings_all}
use Rattle.modules.specs.Bounds.{Floor, Floors, Ceiling, Ceilings, Tabled, TabledAll, Close}
use Rattle.modules.specs.declared.sheet.Sheet.{Sheet}
use Rattle.modules.specs.Lists.{form_mono, sum_charges}
use Rattle.modules.specs.Units.{units_up}

when_map : (b : Bool) (P Q R S : Type 0) → (P → R) → (Q → S) → MatchBool b P Q → MatchBool b R S
when_map true P Q R S f g h = f h
when_map false P Q R S f g h = g h

when_cond : (b : Bool) (P Q : ℕ → Type 0) (x y : ℕ) → P x → Q y → MatchBool b (P (cond b x y)) (Q (cond b x y))
when_cond true P Q x y p q = p
when_cond false P Q x y p q = q

pub ceiling_up : (t : Tree) (s : Sheet) (k w v : ℕ) → Ceiling t s k w → w ≤ v → Ceiling t s k v
ceiling_up (line n) s k w v c h = omega arith
ceiling_up (trees.sum f) s k w v c h = (c.0, c.1, le_trans c.2 h)
ceiling_up (greater t u) s k w v c h = (ceiling_up t s k w v c.0 h, ceiling_up u s k w v c.1 h)
ceiling_up (root above f) s k w v c h = (c.0, c.1, le_trans c.2 (mul-le-mul_left 100 (square_mono h)))
ceiling_up (choice a b t u) s k w v c h =
    when_map (first_taken s a b) _ _ _ _ (λ d. ceiling_up t s k w v d h) (λ d. ceiling_up u s k w v d h) c

-- ceilings of the branches whose sum is the gross
abbrev GrossCeilings : Forest → Sheet → Type 0
GrossCeilings f s = (ws : List ℕ) × Ceilings f s 1 ws × (length ws ≡ branch_count f) × (sum ws ≡ gross_all f s)

-- entries are at most 100
form_within : (n : ℕ) (above : List ℕ) → Lawful n (entry n above) → (ws : List ℕ) → length ws ≡ n → form n (entry n above) (charge_of_branch ws) ≤ 100 * (sum ws * sum ws)
form_within n above law ws size =
    let laws = root_laws n (entry n above) law in
    rw (sum_charges n ws size) (le_trans (laws.least (charge_of_branch ws)).enough (mul-le-mul_left 100 (square_mono (laws.at_most (charge_of_branch ws)))))

mutual
  pub gross_ceiling : (t : Tree) → Tabled t → (s : Sheet) → Ceiling t s 1 (gross t s)
  gross_ceiling (line n) law s = omega (arith, (units_up (total_of s n)).enough)
  gross_ceiling (trees.sum f) law s = let g = gross_ceilings f law s in (g.0, g.1, omega arith)
  gross_ceiling (greater t u) law s =
      (ceiling_up t s 1 (gross t s) _ (gross_ceiling t law.0 s) (omega arith), ceiling_up u s 1 (gross u s) _ (gross_ceiling u law.1 s) (omega arith))
  gross_ceiling (root above f) law s =
      let g = gross_ceilings f law.1 s in
      (g.0, g.1, rw g.3 at (form_within (branch_count f) above law.0 g.0 g.2))
  gross_ceiling (choice a b t u) law s =
      when_cond (first_taken s a b) (Ceiling t s 1) (Ceiling u s 1) (gross t s) (gross u s) (gross_ceiling t law.0 s) (gross_ceiling u law.1 s)

  gross_ceilings : (f : Forest) → TabledAll f → (s : Sheet) → GrossCeilings f s
  gross_ceilings none law s = ([], refl, refl, refl)
  gross_ceilings (more t f) law s =
      let g = gross_ceilings f law.1 s in
      (gross t s ∷ g.0, (gross t s, g.0, refl, gross_ceiling t law.0 s, g.1), omega arith, omega (arith, sum_by-cons (λ x. x) (gross t s) g.0))

-- numbers with the two properties that differ by at most m
abbrev Gap : (ℕ → Type 0) → (ℕ → Type 0) → ℕ → Type 0
Gap F C m = (w : ℕ) × (v : ℕ) × F w × C v × (w ≤ v) × (v ≤ w + m)

-- floors and ceilings of the branches, whose sums differ by at most the roundings
record Gaps (f : Forest) (s : Sheet) (k : ℕ) : Type 0 where
  lows : List ℕ
  highs : List ℕ
  floors : Floors f s k lows
  ceilings : Ceilings f s k highs
  low_count : length lows ≡ branch_count f
  high_count : length highs ≡ branch_count f
  each : (i : ℕ) → charge_of_branch lows i ≤ charge_of_branch highs i
  below : sum lows ≤ sum highs
  near : sum highs ≤ sum lows + roundings_all f s

each_more : (w v : ℕ) (ws vs : List ℕ) → w ≤ v → ((i : ℕ) → charge_of_branch ws i ≤ charge_of_branch vs i) → (i : ℕ) → charge_of_branch (w ∷ ws) i ≤ charge_of_branch (v ∷ vs) i
each_more w v ws vs h each zero = h
each_more w v ws vs h each (suc i) = each i

gaps_more : (t : Tree) (f : Forest) (s : Sheet) (k : ℕ) → Gap (Floor t s k) (Ceiling t s k) (roundings t s) → Gaps f s k → Gaps (more t f) s k
gaps_more t f s k a g =
    let low = sum_by-cons (λ x. x) a.0 g.lows in
    let high = sum_by-cons (λ x. x) a.1 g.highs in
    record {
      lows = a.0 ∷ g.lows;
      highs = a.1 ∷ g.highs;
      floors = (a.0, g.lows, refl, a.2, g.floors);
      ceilings = (a.1, g.highs, refl, a.3, g.ceilings);
      low_count = omega arith;
      high_count = omega arith;
      each = each_more a.0 a.1 g.lows g.highs a.4 g.each;
      below = omega arith;
      near = omega arith;
    }

gap_greater : (t u : Tree) (s : Sheet) (k m n : ℕ) → Gap (Floor t s k) (Ceiling t s k) m → Gap (Floor u s k) (Ceiling u s k) n → Gap (Floor (greater t u) s k) (Ceiling (greater t u) s k) (m + n)
gap_greater t u s k m n a b =
    let v = max a.1 b.1 in
    let c : Ceiling (greater t u) s k v = (ceiling_up t s k a.1 v a.3 (omega arith), ceiling_up u s k b.1 v b.3 (omega arith)) in
    ⊎_elim (λ l. (b.0, v, inr b.2, c, omega arith, omega arith)) (λ l. (a.0, v, inl a.2, c, omega arith, omega arith)) (cases_lt a.0 b.0)

gap_choice : (b : Bool) (F G C D : ℕ → Type 0) (m n : ℕ) → Gap F C m → Gap G D n → Gap (λ w. MatchBool b (F w) (G w)) (λ v. MatchBool b (C v) (D v)) (cond b m n)
gap_choice true F G C D m n x y = x
gap_choice false F G C D m n x y = y

-- one less than the least root is not too great
root_low : (q w : ℕ) → LeastRoot q w → 100 * (pred w * pred w) ≤ q
root_low q zero l = omega arith
root_low q (suc w) l = ⊎_elim (λ h. absurd (omega (arith, l.least w (le_of_lt h)))) (λ h. h) (cases_lt q (100 * (w * w)))

-- what the charges rise by, in all
rise_within : (n m : ℕ) (ws vs : List ℕ) → length ws ≡ n → length vs ≡ n → ((i : ℕ) → charge_of_branch ws i ≤ charge_of_branch vs i) → sum vs ≤ sum ws + m → sum_below n (λ i. charge_of_branch vs i - charge_of_branch ws i) ≤ m
rise_within n m ws vs low high each near =
    omega (arith, sum_charges n ws low, sum_charges n vs high, sum_add n (charge_of_branch ws) (λ i. charge_of_branch vs i - charge_of_branch ws i), sum_mono n (λ i. charge_of_branch ws i + (charge_of_branch vs i - charge_of_branch ws i)) (charge_of_branch vs) (λ i l. omega (arith, each i)))

gap_root : (above : List ℕ) (f : Forest) (s : Sheet) (k : ℕ) → Lawful (branch_count f) (entry (branch_count f) above) → Gaps f s k → Gap (Floor (root above f) s k) (Ceiling (root above f) s k) (roundings_all f s + 1)
gap_root above f s k law g =
    let n = branch_count f in
    let r = entry n above in
    let c = charge_of_branch g.lows in
    let d : ℕ → ℕ = λ i. charge_of_branch g.highs i - c i in
    let is = least_root_is (form n r c) in
    let w = least_root (form n r c) in
    let up = (root_laws n r law).widens w c d is.enough in
    let small = rise_within n (roundings_all f s) g.lows g.highs g.low_count g.high_count g.each g.near in (
      pred w,
      w + roundings_all f s,
      (g.lows, g.floors, root_low (form n r c) w is),
      (g.highs, g.ceilings, le_trans (form_mono n r (charge_of_branch g.highs) (λ i. c i + d i) (λ i l. omega arith)) (le_trans up (mul-le-mul_left 100 (square_mono (omega arith))))),
      omega arith,
      omega arith,
    )

mutual
  pub close : Close
  close (line n) law s k h = (k * total_of s n / 10000, (k * total_of s n + 9999) / 10000, omega arith, omega arith, omega arith, omega arith)
  close (trees.sum f) law s k h =
      let g = gaps f law s k h in
      (sum g.lows, sum g.highs, (g.lows, g.floors, le_refl _), (g.highs, g.ceilings, le_refl _), g.below, g.near)
  close (greater t u) law s k h = gap_greater t u s k (roundings t s) (roundings u s) (close t law.0 s k h) (close u law.1 s k h)
  close (root above f) law s k h = gap_root above f s k law.0 (gaps f law.1 s k h)
  close (choice a b t u) law s k h = gap_choice (first_taken s a b) (Floor t s k) (Floor u s k) (Ceiling t s k) (Ceiling u s k) (roundings t s) (roundings u s) (close t law.0 s k h) (close u law.1 s k h)

  gaps : (f : Forest) → TabledAll f → (s : Sheet) (k : ℕ) → 1 ≤ k → Gaps f s k
  gaps none law s k h = record { lows = []; highs = []; floors = refl; ceilings = refl; low_count = refl; high_count = refl; each = λ i. le_refl _; below = le_refl _; near = omega arith }
  gaps (more t f) law s k h = gaps_more t f s k (close t law.0 s k h) (gaps f law.1 s k h)

-- The least root exists, and the laws of roots under a lawful table. Assumes nothing.
use Rattle.std.proofs.Common.{◌≡◌, ℕ, zero, suc, ◌+◌, ◌-◌, ◌*◌, ◌/◌, ◌%◌, ◌<◌, ◌≤◌, min, leb, sym, ap, ◌∙◌, ⊎_elim, le_trans, mul-le-mul_right, mul-le-mul, mul-le-mul_left, arith}
use Rattle.std.proofs.lemmas.Bool.{cases_lt, leb-true, leb-false, cond_both}
use Rattle.correlation.specs.Sums.{sum_below}
use Rattle.correlation.specs.Tables.{Lawful}
use Rattle.correlation.specs.Roots.{form, LeastRoot, count_up, least_root, root, RootLaws}
use Rattle.correlation.proofs.Sums.{sum_cong, sum_cong_twice, sum_mono, sum_zero, sum_add_twice, sum_mul, sum_mul_right, sum_swap, sum_product, sum_member}
use Rattle.correlation.proofs.Magnify.{weighted, magnifies_not}

pub square_mono : {a b : ℕ} → a ≤ b → a * a ≤ b * b
square_mono h = mul-le-mul h h

pub le_from_squares : (a b : ℕ) → a * a ≤ b * b → a ≤ b
le_from_squares a b h = ⊎_elim (λ l. absurd (omega (arith, mul-le-mul l l))) (λ l. l) (cases_lt b a)

le_own_square : (w : ℕ) → w ≤ w * w
le_own_square zero = omega arith
le_own_square (suc w) = omega arith

-- every whole number below w is too small
Short : ℕ → ℕ → Type 0
Short q w = (v : ℕ) → q ≤ 100 * (v * v) → w ≤ v

count_up_is : (more w q : ℕ) → Short q w → q ≤ w + more → LeastRoot q (count_up more w q)
unfolding Short
count_up_is zero w q short reach =
    record { enough = omega (arith, le_own_square w); least = short }
count_up_is (suc more) w q short reach =
    cond_both (leb q (100 * (w * w))) w (count_up more (suc w) q) (LeastRoot q)
    (λ e. record { enough = leb-true _ _ e; least = short })
    (λ e. count_up_is more (suc w) q (λ v h. ⊎_elim (λ l. l) (λ l. omega (arith, leb-false _ _ e, square_mono l)) (cases_lt w v)) (omega arith))

pub least_root_is : (q : ℕ) → LeastRoot q (least_root q)
unfolding least_root Short
least_root_is q = count_up_is q 0 q (λ v h. omega arith) (omega arith)

-- a number that is enough is at least the root
pub root_within : (q w : ℕ) → q ≤ 100 * (w * w) → least_root q ≤ w
root_within q w h = (least_root_is q).least w h

-- the least root is the only one
pub only_root : (q w : ℕ) → LeastRoot q w → w ≡ least_root q
only_root q w l = omega (arith, l.least (least_root q) (least_root_is q).enough, root_within q w l.enough)

module _ (n : ℕ) (r : ℕ → ℕ → ℕ) (law : Lawful n r) where
  form_zeros : (c : ℕ → ℕ) → ((i : ℕ) → i < n → c i ≡ 0) → form n r c ≡ 0
  form_zeros c h = sum_zero n _ (λ i i<. sum_zero n _ (λ j j<. omega (arith, ap (λ x. r i j * c i * x) (h j j<))))

  form_rises : (c d : ℕ → ℕ) → ((i : ℕ) → i < n → c i ≤ d i) → form n r c ≤ form n r d
  form_rises c d h = sum_mono n _ _ (λ i i<. sum_mono n _ _ (λ j j<. mul-le-mul (mul-le-mul_left (r i j) (h i i<)) (h j j<)))

  -- the square of a charge is among the terms
  form_member : (c : ℕ → ℕ) (i : ℕ) → i < n → 100 * (c i * c i) ≤ form n r c
  form_member c i i< =
      let row = sum_member n (λ a. sum_below n (λ b. r a b * c a * c b)) i i< in
      let corner = sum_member n (λ b. r i b * c i * c b) i i< in
      omega (arith, ap (λ x. x * c i * c i) (law.diagonal i i<))

  -- entries are at most 100
  form_most : (d : ℕ → ℕ) → form n r d ≤ 100 * (sum_below n d * sum_below n d)
  form_most d =
      let within =
      sum_mono n (λ i. sum_below n (λ j. r i j * d i * d j)) (λ i. sum_below n (λ j. (100 * d i) * d j))
      (λ i i<. sum_mono n _ _ (λ j j<. mul-le-mul_right (d j) (mul-le-mul_right (d i) (law.range i j (i<, j<))))) in
      omega (arith, sum_product n n (λ i. 100 * d i) d, ap (λ x. x * sum_below n d) (sum_mul n 100 d))

  module _ (c d : ℕ → ℕ) where
    -- what the rise d adds beside its own form: its charges times the weighted sums of c
    crossed : ℕ
    crossed = sum_below n (λ i. d i * weighted n r c i)

    form_sum : form n r (λ i. c i + d i) ≡ form n r c + 2 * crossed + form n r d
    unfolding crossed
    form_sum =
        let split =
        sum_cong_twice n n (λ i j. r i j * (c i + d i) * (c j + d j)) (λ i j. r i j * c i * c j + r i j * d i * d j + (r i j * c i * d j + r i j * d i * c j)) (λ i j i< j<. omega arith)
        ∙ sum_add_twice n n (λ i j. r i j * c i * c j + r i j * d i * d j) (λ i j. r i j * c i * d j + r i j * d i * c j) in
        let row =
        sum_cong_twice n n (λ i j. r i j * d i * c j) (λ i j. d i * (r i j * c j)) (λ i j i< j<. omega arith)
        ∙ sum_cong n (λ i. sum_below n (λ j. d i * (r i j * c j))) (λ i. d i * weighted n r c i) (λ i i<. sum_mul n (d i) (λ j. r i j * c j)) in
        let column =
        sum_swap n n (λ i j. r i j * c i * d j)
        ∙ sum_cong_twice n n (λ j i. r i j * c i * d j) (λ j i. d j * (r j i * c i)) (λ j i j< i<. omega (arith, ap (λ x. x * c i * d j) (law.symmetric i j (i<, j<))))
        ∙ sum_cong n (λ j. sum_below n (λ i. d j * (r j i * c i))) (λ j. d j * weighted n r c j) (λ j j<. sum_mul n (d j) (λ i. r j i * c i)) in
        omega (arith, sum_add_twice n n (λ i j. r i j * c i * c j) (λ i j. r i j * d i * d j), sum_add_twice n n (λ i j. r i j * c i * d j) (λ i j. r i j * d i * c j))

    crossed_within : (w : ℕ) → form n r c ≤ 100 * (w * w) → crossed ≤ sum_below n d * (100 * w)
    unfolding crossed
    crossed_within w h =
        let each =
        sum_mono n (λ i. d i * weighted n r c i) (λ i. d i * (100 * w))
        (λ i i<. mul-le-mul_left (d i) (le_from_squares (weighted n r c i) (100 * w) (omega (arith, magnifies_not n r law i i< c)))) in
        omega (arith, sum_mul_right n (100 * w) d)

    form_widens : (w : ℕ) → form n r c ≤ 100 * (w * w) → form n r (λ i. c i + d i) ≤ 100 * ((w + sum_below n d) * (w + sum_below n d))
    form_widens w h = omega (arith, form_sum, crossed_within w h, form_most d)

  pub root_laws : RootLaws n r
  root_laws = record {
    least = λ c. least_root_is (form n r c);
    zeros = λ c h. omega (arith, root_within (form n r c) 0 (omega (arith, form_zeros c h)));
    rises = λ c d h. root_within (form n r c) (root n r d) (le_trans (form_rises c d h) (least_root_is (form n r d)).enough);
    steady = λ c d. root_within _ _ (form_widens c d (root n r c) (least_root_is (form n r c)).enough);
    at_most = λ c. root_within (form n r c) (sum_below n c) (form_most c);
    at_least = λ c i i<. le_from_squares (c i) (root n r c) (omega (arith, form_member c i i<, (least_root_is (form n r c)).enough));
    widens = λ w c d h. form_widens c d w h;
  }

-- by the whole root of a hundredth of q, rounded up
pub root_exact : (q s b : ℕ) → s ≡ q / 100 + min 1 (q % 100) → b * b ≡ s → b ≡ least_root q
root_exact q s b ceil e = only_root q b (record { enough = omega arith; least = λ v h. le_from_squares b v (omega arith) })

pub root_above : (q s b : ℕ) → s ≡ q / 100 + min 1 (q % 100) → b * b ≤ s → s < (b + 1) * (b + 1) → (b * b ≡ s → ⊥) → b + 1 ≡ least_root q
root_above q s b ceil low high e =
    only_root q (b + 1) (record { enough = omega arith; least = λ v h. ⊎_elim (λ l. omega arith) (λ l. absurd (e (omega (arith, square_mono l)))) (cases_lt b v) })

-- one more than the whole root of a hundredth of the number before q
pub root_next : (q b : ℕ) → 1 ≤ q → b * b ≤ (q - 1) / 100 → (q - 1) / 100 < (b + 1) * (b + 1) → b + 1 ≡ least_root q
root_next q b some low high =
    only_root q (b + 1) (record { enough = omega arith; least = λ v h. ⊎_elim (λ l. omega arith) (λ l. absurd (omega (arith, square_mono l))) (cases_lt b v) })

-- a row of the form is its charge times its weighted sum
pub form_row : (n : ℕ) (r : ℕ → ℕ → ℕ) (c : ℕ → ℕ) (i : ℕ) → c i * weighted n r c i ≡ sum_below n (λ j. r i j * c i * c j)
form_row n r c i = sym (sum_mul n (c i) (λ j. r i j * c j)) ∙ sum_cong n _ _ (λ j l. omega arith)

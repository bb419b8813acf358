-- A lawful table does not magnify: the weighted sum of a row, squared, is at most 100 times the form. Assumes nothing.
use Rattle.std.proofs.Common.{◌≡◌, ℕ, ◌+◌, ◌-◌, ◌*◌, ◌<◌, ◌≤◌, cond, eqb, sym, refl, ap, ◌∙◌, ap₂, ⊎_elim, mul-le-mul_right, mul_comm, mul-le-mul_left, arith}
use Rattle.std.proofs.lemmas.Bool.{cases_eq, cases_lt, eq-eqb, ne_eqb, cond-true, cond-false}
use Rattle.correlation.specs.Sums.{sum_below}
use Rattle.correlation.specs.Tables.{Lawful}
use Rattle.correlation.specs.Roots.{form}
use Rattle.correlation.proofs.Sums.{sum_cong, sum_mono, sum_mono_at, sum_add, sum_mul, sum_mul_right, sum_swap, sum_product, sum_twice}

two_products_up : (a b : ℕ) → a ≤ b → 2 * (a * b) ≤ a * a + b * b
two_products_up a b h =
    let d = b - a in
    let e : b ≡ a + d = omega arith in
    omega (arith, ap (λ x. a * x) e, ap₂ (λ x y. x * y) e e)

-- twice a product is at most the two squares
pub two_products : (a b : ℕ) → 2 * (a * b) ≤ a * a + b * b
two_products a b =
    ⊎_elim (λ l. two_products_up a b (omega arith)) (λ l. omega (arith, two_products_up b a l)) (cases_lt a b)

spread : (p q x s m a b : ℕ) → p * q + s ≤ 100 * x + m → (p * a) * (q * b) + s * (a * b) ≤ 100 * (x * a * b) + m * (a * b)
spread p q x s m a b h = omega (arith, mul-le-mul_right (a * b) h)

-- the excess of the row i by way of j, at k
over : (r : ℕ → ℕ → ℕ) (j i k : ℕ) → ℕ
over r j i k = cond (eqb k i) 0 (r i j * r j k - 100 * r i k)

-- the weighted sum of row j
abbrev pub weighted : ℕ → (ℕ → ℕ → ℕ) → (ℕ → ℕ) → ℕ → ℕ
weighted n r c j = sum_below n (λ k. r j k * c k)

module _ (n : ℕ) (r : ℕ → ℕ → ℕ) (law : Lawful n r) (j : ℕ) (j< : j < n) where
  over_at : (i : ℕ) → over r j i i ≡ 0
  unfolding over
  over_at i = cond-true (eqb i i) 0 _ (eq-eqb i i refl)

  over_off : (i k : ℕ) → (k ≡ i → ⊥) → over r j i k ≡ r i j * r j k - 100 * r i k
  unfolding over
  over_off i k other = cond-false (eqb k i) 0 _ (ne_eqb k i other)

  over_sym : (i k : ℕ) → i < n → k < n → over r j i k ≡ over r j k i
  over_sym i k i< k< =
      ⊎_elim
      (λ same. ap₂ (λ x y. over r j x y) (sym same) same)
      (λ other. over_off i k other ∙ ap₂ (λ x y. x - 100 * y) (mul_comm (r i j) (r j k) ∙ ap₂ (λ x y. x * y) (law.symmetric j k (j<, k<)) (law.symmetric i j (i<, j<))) (law.symmetric i k (i<, k<)) ∙ sym (over_off k i (λ e. other (sym e))))
      (cases_eq k i)

  square_in : (i : ℕ) → i < n → r i j * r j i ≡ r i j * r i j
  square_in i i< = ap (λ x. r i j * x) (law.symmetric j i (j<, i<))

  slack : ℕ → ℕ
  slack i = 10000 - r i j * r i j

  through : (i k : ℕ) → i < n → k < n → r i j * r j k ≤ 100 * r i k + over r j i k
  through i k i< k< =
      ⊎_elim
      (λ same. omega (arith, ap (λ x. r i j * r j x) same, square_in i i<, ap (λ x. r i x) same, law.diagonal i i<, law.rows i j (i<, j<)))
      (λ other. omega (arith, over_off i k other))
      (cases_eq k i)

  corner : (i : ℕ) → i < n → r i j * r j i + slack i ≤ 100 * r i i + over r j i i
  unfolding slack
  corner i i< = omega (arith, square_in i i<, law.diagonal i i<, law.rows i j (i<, j<), over_at i)

  excess_within : (i : ℕ) → i < n → sum_below n (over r j i) ≤ slack i
  unfolding slack over
  excess_within i i< = omega (arith, law.rows i j (i<, j<))

  module _ (c : ℕ → ℕ) where
    pairs : ℕ → ℕ → ℕ
    pairs i k = (r i j * c i) * (r j k * c k)

    room : ℕ → ℕ → ℕ
    room i k = 100 * (r i k * c i * c k) + over r j i k * (c i * c k)

    row_within : (i : ℕ) → i < n → sum_below n (pairs i) + slack i * (c i * c i) ≤ sum_below n (room i)
    unfolding pairs room
    row_within i i< =
        sum_mono_at n (pairs i) (room i) i (slack i * (c i * c i)) i<
        (spread (r i j) (r j i) (r i i) (slack i) (over r j i i) (c i) (c i) (corner i i<))
        (λ k k<. omega (arith, spread (r i j) (r j k) (r i k) 0 (over r j i k) (c i) (c k) (omega (arith, through i k i< k<))))

    -- what all rows pass their entries by
    passed : ℕ
    passed = sum_below n (λ i. sum_below n (λ k. over r j i k * (c i * c k)))

    slacks : ℕ
    slacks = sum_below n (λ i. slack i * (c i * c i))

    room_is : sum_below n (λ i. sum_below n (room i)) ≡ 100 * form n r c + passed
    unfolding room passed
    room_is =
        sum_cong n _ _ (λ i i<. sum_add n (λ k. 100 * (r i k * c i * c k)) (λ k. over r j i k * (c i * c k)) ∙ ap (λ x. x + sum_below n (λ k. over r j i k * (c i * c k))) (sum_mul n 100 (λ k. r i k * c i * c k)))
        ∙ sum_add n (λ i. 100 * sum_below n (λ k. r i k * c i * c k)) (λ i. sum_below n (λ k. over r j i k * (c i * c k)))
        ∙ ap (λ x. x + sum_below n (λ i. sum_below n (λ k. over r j i k * (c i * c k)))) (sum_mul n 100 (λ i. sum_below n (λ k. r i k * c i * c k)))

    -- the excess of row i, weighted by the square of its charge
    own : ℕ
    own = sum_below n (λ i. sum_below n (over r j i) * (c i * c i))

    by_row : sum_below n (λ i. sum_below n (λ k. over r j i k * (c i * c i))) ≡ own
    unfolding own
    by_row = sum_cong n _ _ (λ i i<. sum_mul_right n (c i * c i) (over r j i))

    by_column : sum_below n (λ i. sum_below n (λ k. over r j i k * (c k * c k))) ≡ own
    unfolding own
    by_column =
        sum_swap n n (λ i k. over r j i k * (c k * c k))
        ∙ sum_cong n _ _ (λ k k<. sum_mul_right n (c k * c k) (λ i. over r j i k) ∙ ap (λ x. x * (c k * c k)) (sum_cong n _ _ (λ i i<. over_sym i k i< k<)))

    passed_within : passed ≤ slacks
    unfolding passed slacks own
    passed_within =
        let twice =
        sum_twice n (λ i. sum_below n (λ k. over r j i k * (c i * c k))) (λ i. sum_below n (λ k. over r j i k * (c i * c i))) (λ i. sum_below n (λ k. over r j i k * (c k * c k)))
        (λ i i<. sum_twice n _ (λ k. over r j i k * (c i * c i)) (λ k. over r j i k * (c k * c k)) (λ k k<. omega (arith, mul-le-mul_left (over r j i k) (two_products (c i) (c k))))) in
        let mine = sum_mono n (λ i. sum_below n (over r j i) * (c i * c i)) (λ i. slack i * (c i * c i)) (λ i i<. mul-le-mul_right (c i * c i) (excess_within i i<)) in
        omega (arith, by_row, by_column)

    pub magnifies_not : weighted n r c j * weighted n r c j ≤ 100 * form n r c
    unfolding pairs slacks
    magnifies_not =
        let rows =
        sum_mono n (λ i. sum_below n (pairs i) + slack i * (c i * c i)) (λ i. sum_below n (room i)) row_within in
        let apart = sum_add n (λ i. sum_below n (pairs i)) (λ i. slack i * (c i * c i)) in
        let product = sum_product n n (λ i. r i j * c i) (λ k. r j k * c k) in
        let column = sum_cong n (λ i. r i j * c i) (λ i. r j i * c i) (λ i i<. ap (λ x. x * c i) (law.symmetric i j (i<, j<))) in
        omega (arith, room_is, passed_within, ap (λ x. x * sum_below n (λ k. r j k * c k)) column)

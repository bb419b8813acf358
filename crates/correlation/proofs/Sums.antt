-- Laws of sums over branches. Assumes nothing.
use Rattle.std.proofs.Common.{◌≡◌, ℕ, zero, suc, ◌+◌, ◌*◌, ◌<◌, ◌≤◌, sym, refl, ap, ◌∙◌, ⊎_elim, le_refl, add-one, arith}
use Rattle.std.proofs.lemmas.Bool.{cases_eq}
use Rattle.correlation.specs.Sums.{sum_below}

-- what holds of each index below suc n holds of each below n
pub fewer : {P : ℕ → Type 0} (n : ℕ) → ((i : ℕ) → i < suc n → P i) → (i : ℕ) → i < n → P i
fewer n h i l = h i (omega arith)

-- a loop's step
pub sum_next : (n : ℕ) (f : ℕ → ℕ) → sum_below (n + 1) f ≡ sum_below n f + f n
sum_next n f = ap (λ k. sum_below k f) (add-one n)

pub sum_cong : (n : ℕ) (f g : ℕ → ℕ) → ((i : ℕ) → i < n → f i ≡ g i) → sum_below n f ≡ sum_below n g
sum_cong zero f g h = refl
sum_cong (suc n) f g h = omega (arith, sum_cong n f g (fewer n h), h n (le_refl (suc n)))

pub sum_cong_twice : (n m : ℕ) (f g : ℕ → ℕ → ℕ) → ((i j : ℕ) → i < n → j < m → f i j ≡ g i j) → sum_below n (λ i. sum_below m (f i)) ≡ sum_below n (λ i. sum_below m (g i))
sum_cong_twice n m f g h = sum_cong n _ _ (λ i i<. sum_cong m (f i) (g i) (λ j j<. h i j i< j<))

pub sum_mono : (n : ℕ) (f g : ℕ → ℕ) → ((i : ℕ) → i < n → f i ≤ g i) → sum_below n f ≤ sum_below n g
sum_mono zero f g h = le_refl 0
sum_mono (suc n) f g h = omega (arith, sum_mono n f g (fewer n h), h n (le_refl (suc n)))

-- one term has s to spare
pub sum_mono_at : (n : ℕ) (f g : ℕ → ℕ) (k s : ℕ) → k < n → f k + s ≤ g k → ((i : ℕ) → i < n → f i ≤ g i) → sum_below n f + s ≤ sum_below n g
sum_mono_at zero f g k s l e h = omega arith
sum_mono_at (suc n) f g k s l e h =
    ⊎_elim
    (λ same. omega (arith, sum_mono n f g (fewer n h), ap f same, ap g same))
    (λ other. omega (arith, sum_mono_at n f g k s (omega arith) e (fewer n h), h n (le_refl (suc n))))
    (cases_eq k n)

pub sum_zero : (n : ℕ) (f : ℕ → ℕ) → ((i : ℕ) → i < n → f i ≡ 0) → sum_below n f ≡ 0
sum_zero zero f h = refl
sum_zero (suc n) f h = omega (arith, sum_zero n f (fewer n h), h n (le_refl (suc n)))

pub sum_add : (n : ℕ) (f g : ℕ → ℕ) → sum_below n (λ i. f i + g i) ≡ sum_below n f + sum_below n g
sum_add zero f g = refl
sum_add (suc n) f g = omega (arith, sum_add n f g)

pub sum_add_twice : (n m : ℕ) (f g : ℕ → ℕ → ℕ) → sum_below n (λ i. sum_below m (λ j. f i j + g i j)) ≡ sum_below n (λ i. sum_below m (f i)) + sum_below n (λ i. sum_below m (g i))
sum_add_twice n m f g = sum_cong n _ _ (λ i l. sum_add m (f i) (g i)) ∙ sum_add n (λ i. sum_below m (f i)) (λ i. sum_below m (g i))

pub sum_mul : (n a : ℕ) (f : ℕ → ℕ) → sum_below n (λ i. a * f i) ≡ a * sum_below n f
sum_mul zero a f = omega arith
sum_mul (suc n) a f = omega (arith, sum_mul n a f)

pub sum_swap : (n m : ℕ) (f : ℕ → ℕ → ℕ) → sum_below n (λ i. sum_below m (f i)) ≡ sum_below m (λ j. sum_below n (λ i. f i j))
sum_swap zero m f = sym (sum_zero m (λ j. 0) (λ j l. refl))
sum_swap (suc n) m f = ap (λ s. s + sum_below m (f n)) (sum_swap n m f) ∙ sym (sum_add m (λ j. sum_below n (λ i. f i j)) (f n))

-- a term is at most the whole sum
pub sum_member : (n : ℕ) (f : ℕ → ℕ) (k : ℕ) → k < n → f k ≤ sum_below n f
sum_member zero f k l = omega arith
sum_member (suc n) f k l =
    ⊎_elim (λ same. omega (arith, ap f same)) (λ other. omega (arith, sum_member n f k (omega arith))) (cases_eq k n)

pub sum_mul_right : (n a : ℕ) (f : ℕ → ℕ) → sum_below n (λ i. f i * a) ≡ sum_below n f * a
sum_mul_right zero a f = omega arith
sum_mul_right (suc n) a f = omega (arith, sum_mul_right n a f)

pub sum_product : (n m : ℕ) (f g : ℕ → ℕ) → sum_below n (λ i. sum_below m (λ j. f i * g j)) ≡ sum_below n f * sum_below m g
sum_product n m f g = sum_cong n _ _ (λ i l. sum_mul m (f i) g) ∙ sum_mul_right n (sum_below m g) f

pub sum_twice : (n : ℕ) (f g h : ℕ → ℕ) → ((i : ℕ) → i < n → 2 * f i ≤ g i + h i) → 2 * sum_below n f ≤ sum_below n g + sum_below n h
sum_twice zero f g h e = omega arith
sum_twice (suc n) f g h e = omega (arith, sum_twice n f g h (fewer n e), e n (le_refl (suc n)))

-- the first term taken out
pub sum_first : (n : ℕ) (f : ℕ → ℕ) → sum_below (suc n) f ≡ f 0 + sum_below n (λ i. f (suc i))
sum_first zero f = omega arith
sum_first (suc n) f = omega (arith, sum_first n f)

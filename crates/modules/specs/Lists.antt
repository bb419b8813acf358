-- Sums and forms of lists of charges. Assumes nothing.
use Rattle.std.specs.Prelude.{◌≡◌, ℕ, ◌+◌, ◌*◌, ◌<◌, ◌≤◌, List, [], ◌∷◌, length, sum, refl}
use Rattle.std.proofs.Common.{sym, ap, ◌∙◌, mul-le-mul, mul-le-mul_left, arith}
use Rattle.correlation.proofs.Sums.{sum_mono, sum_cong_twice, sum_mul, sum_cong, sum_first}
use Rattle.correlation.specs.Answers.{charge_of_branch}
use Rattle.correlation.specs.Roots.{form}
use Rattle.correlation.specs.Sums.{sum_below}
use Rattle.std.proofs.lemmas.List.Sums.{sum_by-cons}

pub form_mono : (n : ℕ) (r : ℕ → ℕ → ℕ) (c d : ℕ → ℕ) → ((i : ℕ) → i < n → c i ≤ d i) → form n r c ≤ form n r d
form_mono n r c d h = sum_mono n _ _ (λ i i<. sum_mono n _ _ (λ j j<. mul-le-mul (mul-le-mul_left (r i j) (h i i<)) (h j j<)))

pub form_scale : (n k : ℕ) (r : ℕ → ℕ → ℕ) (c : ℕ → ℕ) → form n r (λ i. k * c i) ≡ k * k * form n r c
form_scale n k r c =
    sum_cong_twice n n (λ i j. r i j * (k * c i) * (k * c j)) (λ i j. k * k * (r i j * c i * c j)) (λ i j i< j<. omega arith)
    ∙ sum_cong n (λ i. sum_below n (λ j. k * k * (r i j * c i * c j))) (λ i. k * k * sum_below n (λ j. r i j * c i * c j)) (λ i i<. sum_mul n (k * k) (λ j. r i j * c i * c j))
    ∙ sum_mul n (k * k) (λ i. sum_below n (λ j. r i j * c i * c j))

pub sum_charge : (ws : List ℕ) → sum ws ≡ sum_below (length ws) (charge_of_branch ws)
sum_charge [] = refl
sum_charge (w ∷ ws) = sum_by-cons (λ x. x) w ws ∙ ap (λ x. w + x) (sum_charge ws) ∙ sym (sum_first (length ws) (charge_of_branch (w ∷ ws)))

-- over as many branches as there are numbers
pub sum_charges : (n : ℕ) (ws : List ℕ) → length ws ≡ n → sum ws ≡ sum_below n (charge_of_branch ws)
sum_charges n ws e = sum_charge ws ∙ ap (λ m. sum_below m (charge_of_branch ws)) e

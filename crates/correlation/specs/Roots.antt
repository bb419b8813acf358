-- The root of charges under a correlation table, and the laws that it keeps.
use Rattle.std.specs.Prelude.{◌≡◌, ℕ, zero, suc, ◌+◌, ◌*◌, ◌<◌, ◌≤◌, cond, nat_le}
use Rattle.correlation.specs.Sums.{sum_below}

-- the sum over all i and j of r(i,j)·c(i)·c(j)
abbrev pub form : ℕ → (ℕ → ℕ → ℕ) → (ℕ → ℕ) → ℕ
form n r c = sum_below n (λ i. sum_below n (λ j. r i j * c i * c j))

-- w is the least whole number whose hundredfold square is at least q
pub record LeastRoot (q w : ℕ) : Type 0 where
  pub enough : q ≤ 100 * (w * w)
  pub least : (v : ℕ) → q ≤ 100 * (v * v) → w ≤ v

-- counts up from w, at most `more` times, to a number whose hundredfold square is at least q
abbrev pub count_up : ℕ → ℕ → ℕ → ℕ
count_up zero w q = w
count_up (suc more) w q = let next = count_up more (suc w) q in cond (nat_le q (100 * (w * w))) w next

-- that least number
unfoldable pub least_root : ℕ → ℕ
least_root q = count_up q 0 q

-- the root of the charges c of n branches under the entries r
abbrev pub root : ℕ → (ℕ → ℕ → ℕ) → (ℕ → ℕ) → ℕ
root n r c = least_root (form n r c)

-- what holds of the roots of every lawful table
pub record RootLaws (n : ℕ) (r : ℕ → ℕ → ℕ) : Type 0 where
  -- it is the least whole number whose hundredfold square is at least the form
  pub least : (c : ℕ → ℕ) → LeastRoot (form n r c) (root n r c)
  -- the root of no charges but zeros is 0
  pub zeros : (c : ℕ → ℕ) → ((i : ℕ) → i < n → c i ≡ 0) → root n r c ≡ 0
  -- it never falls when a charge rises
  pub rises : (c d : ℕ → ℕ) → ((i : ℕ) → i < n → c i ≤ d i) → root n r c ≤ root n r d
  -- it rises by at most the sum of what its charges rise
  pub steady : (c d : ℕ → ℕ) → root n r (λ i. c i + d i) ≤ root n r c + sum_below n d
  -- it is at most the sum of its charges, and at least each of them
  pub at_most : (c : ℕ → ℕ) → root n r c ≤ sum_below n c
  pub at_least : (c : ℕ → ℕ) (i : ℕ) → i < n → c i ≤ root n r c
  -- `steady` before any rounding: w need not be the least
  pub widens : (w : ℕ) (c d : ℕ → ℕ) → form n r c ≤ 100 * (w * w) → form n r (λ i. c i + d i) ≤ 100 * ((w + sum_below n d) * (w + sum_below n d))

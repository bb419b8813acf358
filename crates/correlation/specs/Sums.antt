-- Sums over the branches of a table, which are counted from 0.
use Rattle.std.specs.Prelude.{ℕ, zero, suc, ◌+◌, cond, ◌==◌}

-- f 0 + f 1 + .. + f (n - 1)
abbrev pub sum_below : ℕ → (ℕ → ℕ) → ℕ
sum_below zero f = 0
sum_below (suc n) f = sum_below n f + f n

-- the same sum without its term at i
abbrev pub sum_but : ℕ → ℕ → (ℕ → ℕ) → ℕ
sum_but n i f = sum_below n (λ k. cond (k == i) 0 (f k))

-- Amounts that taper: how they are made. Assumes nothing.
use Rattle.std.specs.Prelude.{◌≡◌, ℕ, ◌+◌, ◌*◌, min}
use Rattle.std.proofs.Common.{ap, mul-le-mul_left, arith}
use Rattle.limits.specs.Rules.{Tapers}

-- x of the parts, whatever required capital is
pub fixed : (x : ℕ) → Tapers (λ w k. k * x)
fixed x = record {
  alike = λ w k v l i j e. omega arith;
  tapers = λ w k v l i j h. omega (arith, mul-le-mul_left x h);
}

-- a percentage of required capital
pub share : (p : ℕ) → Tapers (λ w k. p * w)
share p = record {
  alike = λ w k v l i j e. omega (arith, ap (λ n. p * n) e);
  tapers = λ w k v l i j h. omega arith;
}

pub added : {f g : ℕ → ℕ → ℕ} → Tapers f → Tapers g → Tapers (λ w k. f w k + g w k)
added a b = record {
  alike = λ w k v l i j e. omega (arith, a.alike w k v l i j e, b.alike w k v l i j e);
  tapers = λ w k v l i j h. omega (arith, a.tapers w k v l i j h, b.tapers w k v l i j h);
}

min_mul : (x y n : ℕ) → min x y * n ≡ min (x * n) (y * n)
min_mul x y n = grind (arith, mul-le-mul_left)

pub lesser : {f g : ℕ → ℕ → ℕ} → Tapers f → Tapers g → Tapers (λ w k. min (f w k) (g w k))
lesser {f} {g} a b = record {
  alike = λ w k v l i j e. omega (arith, min_mul (f w k) (g w k) l, min_mul (f v l) (g v l) k, a.alike w k v l i j e, b.alike w k v l i j e);
  tapers = λ w k v l i j h. omega (arith, min_mul (f v l) (g v l) w, min_mul (f w k) (g w k) v, a.tapers w k v l i j h, b.tapers w k v l i j h);
}

-- an amount said in another way
pub same : {f g : ℕ → ℕ → ℕ} → ((w k : ℕ) → f w k ≡ g w k) → Tapers g → Tapers f
same is b = record {
  alike = λ w k v l i j e. omega (arith, ap (λ x. x * l) (is w k), ap (λ x. x * k) (is v l), b.alike w k v l i j e);
  tapers = λ w k v l i j h. omega (arith, ap (λ x. x * w) (is v l), ap (λ x. x * v) (is w k), b.tapers w k v l i j h);
}

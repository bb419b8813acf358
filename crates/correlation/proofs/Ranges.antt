-- What `all` answers over a range of branches. Assumes nothing.
use Rattle.std.proofs.Common.{◌≡◌, ℕ, ◌<◌, Bool, true, false, true≢false, List, Option, MatchOption, Decides, length, get_or, sym, refl, ◌∙◌, subst, arith}
use Rattle.std.specs.Bool.{MatchBool}
use Rattle.std.specs.Fn.{Called}
use Rattle.std.specs.Iterator.{YieldsThen}
use Rattle.std.specs.List.{FoldsTo, AllWithin, HoldsAt, range_with_len}
use Rattle.std.specs.declared.ops.Range.{Range}
use Rattle.std.proofs.iter.Yields.{nat_range_steps}
use Rattle.std.proofs.lemmas.Iterator.{YieldsList-from_range, cases_from_all}
use Rattle.std.proofs.lemmas.List.FromFn.{length-range_with_len, get_or-range_with_len}
use denote.Param.Members.{Mut}

at : (P : ℕ → Type 0) (n k : ℕ) → k < n → P (get_or (range_with_len 0 n) k 0) → P k
at P n k l = subst P (get_or-range_with_len 0 n k 0 l ∙ omega arith)

decided : (P : ℕ → Type 0) (n : ℕ) (r : Bool) → MatchBool r (AllWithin P (range_with_len 0 n) 0 (length (range_with_len 0 n))) ((k : ℕ) × (k < length (range_with_len 0 n)) × HoldsAt (λ x. P x → ⊥) (range_with_len 0 n) k) → Decides r ((k : ℕ) → k < n → P k)
decided P n true h = (λ e k l. at P n k l (h k 0 (omega arith) (omega (arith, length-range_with_len 0 n))), λ all. refl)
decided P n false (k, within, none) = (λ e. absurd (true≢false (sym e)), λ all. absurd (at (λ x. P x → ⊥) n k (omega (arith, length-range_with_len 0 n)) (none 0) (all k (omega (arith, length-range_with_len 0 n)))))

-- a closure that decides P, asked of each number below n
pub all_below : {F : Type 0} {g : Mut F (ℕ × Unit {0}) Bool} {s : Range ℕ} (n : ℕ) (P : ℕ → Type 0) (u : Range ℕ) (f : F) (r : Bool)
    → s ≡ record { start = 0; end = n }
    → (xs : List ℕ) × (o : Option ℕ) × (j : F) × YieldsThen nat_range_steps s xs o u × FoldsTo (λ p x q. Called g p (x, tt) true q) f xs j × MatchOption o (r ≡ true) (λ x. (r ≡ false) × ((h : F) × Called g j (x, tt) false h))
    → ((x : ℕ) (q : F) → Called g f (x, tt) true q → (q ≡ f) × P x)
    → ((x : ℕ) (q : F) → Called g f (x, tt) false q → P x → ⊥)
    → Decides r ((k : ℕ) → k < n → P k)
all_below n P u f r is ran passes fails = decided P n r (cases_from_all u f r P (λ x. P x → ⊥) ran (YieldsList-from_range 0 n n is (omega arith)) passes fails)

-- Each element is made of one word, and the first of them are the values.
use Rattle.std.proofs.Common.{◌≡◌, ℕ, zero, suc, ◌+◌, ◌%◌, ◌<◌, ◌≤◌, ◌⊎◌, ⊎_elim, List, [], ◌∷◌, length, get_or, take, refl, sym, subst, arith, rules}
use Rattle.std.proofs.lemmas.Bool.{cases_order}
use Rattle.std.specs.Array.{IsFromFnResult, IsFromFnResultFrom}
use denote.Param.Members.{Mut, Called}
use Rattle.words.specs.Items.{values}
use Rattle.words.specs.Words.{value_room}
use Rattle.words.proofs.table.values_of.Goals as goal

first_or_later : (i k : ℕ) → i ≤ k → (i ≡ k) ⊎ (i < k)
first_or_later i k low = search (arith, cases_order)

-- what each call gives, where no call changes the closure
made_from : {F : Type 0} (g : Mut F (ℕ × Unit {0}) ℕ) (P : ℕ → ℕ → Type 0) (f : F) (ys : List ℕ) → ((i y : ℕ) (q : F) → Called g f (i, tt) y q → (q ≡ f) × P i y)
    → (i n : ℕ) → IsFromFnResultFrom g f ys i n → (k : ℕ) → i ≤ k → k < i + n → P k (get_or ys k 0)
made_from g P f ys one i zero made k low high = absurd (omega arith)
made_from g P f ys one i (suc n) made k low high =
    let step = one i made.1 made.0 made.3 in
    let rest = subst (λ q. IsFromFnResultFrom g q ys (i + 1) n) step.0 made.4 in
    ⊎_elim
    (λ here. subst (λ j. P j (get_or ys j 0)) here (subst (P i) (sym (made.2.1 0)) step.1))
    (λ later. made_from g P f ys one (i + 1) n rest k (omega (arith, later)) (omega arith))
    (first_or_later i k low)

made_at : {F : Type 0} {g : Mut F (ℕ × Unit {0}) ℕ} {f : F} {ys : List ℕ} {n : ℕ} (P : ℕ → ℕ → Type 0) → IsFromFnResult g f ys n
    → ((i y : ℕ) (q : F) → Called g f (i, tt) y q → (q ≡ f) × P i y) → (k : ℕ) → k < n → P k (get_or ys k 0)
made_at {g = g} {f = f} {ys = ys} {n = n} P all one k below = made_from g P f ys one 0 n all.each k (omega arith) (omega (arith, below))

-- the values are known by each of them
values_taken : (ws ys : List ℕ) → length ws ≤ length ys → ((k : ℕ) → k < length ws → get_or ys k 0 ≡ get_or ws k 0 % value_room) → take (length ws) ys ≡ values ws
values_taken [] ys few each = refl
values_taken (w ∷ ws) [] few each = absurd (omega arith)
values_taken (w ∷ ws) (y ∷ ys) few each = λ t. each 0 (omega arith) t ∷ values_taken ws ys (omega arith) (λ k l. each (suc k) (omega (arith, l))) t

pub returns : goal.returns
returns c =
    let value : ℕ → ℕ → Type 0 = λ i y. i < length c.args.words.now → y ≡ get_or c.args.words.now i 0 % value_room in
    let each = made_at value c.from_fn.ensures.items (λ i y q called. (search rules, search rules)) in
    values_taken _ _ (omega (arith, c.from_fn.ensures.items.long)) (λ k l. each k (omega (arith, l)) l)

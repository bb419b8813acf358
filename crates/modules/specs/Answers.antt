-- What a risk module answers at a sheet, and what whoever brings one must show.
use Rattle.std.specs.Prelude.{ℕ, ◌+◌, ◌*◌, ◌≤◌, cond, List, [], ◌∷◌, Ok, Err, Result, nat_le}
use Rattle.refusals.specs.declared.Refusal.{Refusal}
use Rattle.refusals.specs.declared.Refusal.TheVariants.{GrossTooLarge, TooManyRoundings}
use Rattle.modules.specs.Bounds.{Floor, Ceiling}
use Rattle.modules.specs.Trees.{Tree, Forest, none, more, gross, roundings}
use Rattle.modules.specs.declared.answer.Charge.{Charge}
use Rattle.modules.specs.declared.sheet.Sheet.{Sheet}

-- a larger gross is refused 27, more roundings are refused 28
abbrev pub most_gross : ℕ
most_gross = 250000000

abbrev pub most_roundings : ℕ
most_roundings = 1000

-- neither is refused
pub record Priced (g n : ℕ) : Type 0 where
  pub gross_in : g ≤ most_gross
  pub roundings_in : n ≤ most_roundings

-- Where neither number of the tree is refused, the charge c is not below any floor of it,
-- and exceeds no ceiling by more than its roundings.
pub record Within (t : Tree) (s : Sheet) (c k : ℕ) : Type 0 where
  pub not_below : (w : ℕ) → Floor t s k w → w ≤ k * c
  pub not_above : (v : ℕ) → Ceiling t s k v → k * c ≤ v + k * roundings t s

abbrev pub Bounded : Tree → Sheet → ℕ → Type 0
Bounded t s c = Priced (gross t s) (roundings t s) → (k : ℕ) → 1 ≤ k → Within t s c k

-- the charges are those of the branches, in order, each bounded so
abbrev pub BoundedAll : Forest → Sheet → List ℕ → Type 0
BoundedAll none s [] = Unit {0}
BoundedAll none s (c ∷ cs) = ⊥
BoundedAll (more t f) s [] = ⊥
BoundedAll (more t f) s (c ∷ cs) = Bounded t s c × BoundedAll f s cs

-- the answer to a number that is refused above a limit
abbrev pub limited_answer : ℕ → Refusal → ℕ → Result ℕ Refusal
limited_answer most refusal n = cond (nat_le n most) (Ok n) (Err refusal)

-- the answers to a gross g, to roundings n, and to both with x beside them
abbrev pub gross_answer : ℕ → Result ℕ Refusal
gross_answer = limited_answer most_gross GrossTooLarge

abbrev pub roundings_answer : ℕ → Result ℕ Refusal
roundings_answer = limited_answer most_roundings TooManyRoundings

-- 27 comes before 28
abbrev pub answer_of : {A : Type 0} → ℕ → ℕ → A → Result A Refusal
answer_of g n x = cond (nat_le g most_gross) (cond (nat_le n most_roundings) (Ok x) (Err TooManyRoundings)) (Err GrossTooLarge)

-- a charge c with its gross and its roundings
abbrev pub charge_of : ℕ → ℕ → ℕ → Charge
charge_of c g n = record { amount = c; gross = g; roundings = n }

-- the answer of a module that stands for the tree t and charges c at the sheet
abbrev pub charge_answer : Tree → Sheet → ℕ → Result Charge Refusal
charge_answer t s c = answer_of (gross t s) (roundings t s) (charge_of c (gross t s) (roundings t s))

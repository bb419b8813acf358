-- A unit more than a lone branch keeps within the bounds of the root over it. Assumes nothing.
use Rattle.std.specs.Prelude.{◌≡◌, ℕ, ◌+◌, ◌*◌, ◌≤◌, List, [], ◌∷◌, Ok}
use Rattle.std.proofs.Common.{ap, ◌∙◌, arith}
use Rattle.correlation.proofs.Laws.{le_from_squares}
use Rattle.correlation.specs.Answers.{charge_of_branch}
use Rattle.correlation.specs.Roots.{form}
use Rattle.correlation.specs.Tables.{entry}
use Rattle.modules.specs.Answering.{priced_by, charge_told}
use Rattle.modules.specs.Close.{gross_ceiling}
use Rattle.modules.specs.Answers.{Bounded, charge_answer, most_gross, most_roundings}
use Rattle.modules.specs.Bounds.{Tabled}
use Rattle.modules.specs.Trees.{Tree, root, more, none, gross, roundings}
use Rattle.modules.specs.declared.answer.Charge.{Charge}
use Rattle.modules.specs.declared.sheet.Sheet.{Sheet}

-- the form of one number is its hundredfold square
lone_form : (v : ℕ) (vs ws : List ℕ) → ws ≡ v ∷ vs → form 1 (entry 1 []) (charge_of_branch ws) ≡ 100 * (v * v)
lone_form v vs ws is = ap (λ l. form 1 (entry 1 []) (charge_of_branch l)) is ∙ omega arith

-- A floor of the root is at most one of the branch, and a ceiling at least one. The root's own rounding allows the unit.
pub lone_bounded : (t : Tree) (s : Sheet) (c : ℕ) → Bounded t s c → Bounded (root [] (more t none)) s (c + 1)
lone_bounded t s c bounded priced k one =
    let within = bounded (record { gross_in = omega arith; roundings_in = omega arith }) k one in
    record {
      not_below = λ w h.
          let (v, vs, is, floor, end) = h.1 in
          omega (arith, le_from_squares w v (omega (arith, lone_form v vs h.0 is)), within.not_below v floor);
      not_above = λ w h.
          let (v, vs, is, ceiling, end) = h.1 in
          omega (arith, le_from_squares v w (omega (arith, lone_form v vs h.0 is)), within.not_above v ceiling);
    }

-- a charge is at most its gross, which is a ceiling, and its roundings together
pub charge_most : (t : Tree) (s : Sheet) (c : ℕ) (a : Charge) → Tabled t → Bounded t s c → Ok a ≡ charge_answer t s c → a.amount ≤ most_gross + most_roundings
charge_most t s c a tabled bounded told =
    let priced = priced_by (gross t s) (roundings t s) _ a told in
    omega (arith, ap (λ x. x.amount) (charge_told t s c a told), (bounded priced 1 (omega arith)).not_above (gross t s) (gross_ceiling t tabled s))

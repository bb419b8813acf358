-- What a tree's head adds to the gross, the roundings and the charges of its branches. Assumes nothing.
use Rattle.std.proofs.Common.{◌≡◌, ℕ, ◌+◌, sym, refl, subst₂, arith}
use Rattle.modules.specs.Charged.{charged, charged_all}
use Rattle.modules.specs.Sheets.{line_units}
use Rattle.modules.specs.Trees as trees
use Rattle.modules.specs.Trees.{Tree, Forest, line, greater, root, choice, none, more, branch_count, gross, gross_all, roundings, roundings_all}
use Rattle.modules.specs.declared.sheet.Sheet.{Sheet}
use Rattle.words.specs.Heads.{Head, HeadOf, of_line, of_sum, of_greater, of_root, due}
use Rattle.written.specs.Taking.{head_charge}

-- a line its rounded-up total
abbrev pub own_gross : Head → Sheet → ℕ
own_gross (of_line n) s = line_units s n
own_gross (of_sum n) s = 0
own_gross of_greater s = 0
own_gross (of_root n above) s = 0

-- a line and a root one each
abbrev pub own_roundings : Head → ℕ
own_roundings (of_line n) = 1
own_roundings (of_sum n) = 0
own_roundings of_greater = 0
own_roundings (of_root n above) = 1

-- a tree with this head and these branches
pub record Adds (t : Tree) (h : Head) (f : Forest) : Type 0 where
  pub count : due h ≡ branch_count f
  pub gross_is : (s : Sheet) → gross t s ≡ own_gross h s + gross_all f s
  pub roundings_is : (s : Sheet) → roundings t s ≡ own_roundings h + roundings_all f s
  pub charged_is : (s : Sheet) → charged t s ≡ head_charge h (charged_all f s) s

pub adds : (t : Tree) (h : Head) (f : Forest) → HeadOf t h f → Adds t h f
adds (line n) h f of = subst₂ (Adds (line n)) (sym of.0) (sym of.1) (record { count = refl; gross_is = λ s. omega arith; roundings_is = λ s. refl; charged_is = λ s. refl })
adds (trees.sum g) h f of = subst₂ (Adds (trees.sum g)) (sym of.0) (sym of.1) (record { count = refl; gross_is = λ s. omega arith; roundings_is = λ s. omega arith; charged_is = λ s. refl })
adds (greater t u) h f of = subst₂ (Adds (greater t u)) (sym of.0) (sym of.1) (record { count = refl; gross_is = λ s. omega arith; roundings_is = λ s. omega arith; charged_is = λ s. refl })
adds (root above g) h f of = subst₂ (Adds (root above g)) (sym of.0) (sym of.1) (record { count = refl; gross_is = λ s. omega arith; roundings_is = λ s. omega arith; charged_is = λ s. refl })
adds (choice a b t u) h f of = absurd of

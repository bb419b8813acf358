-- What the five kinds charge for a tree is at most its gross. Assumes nothing.
use Rattle.std.proofs.Common.{ℕ, ◌≤◌, Bool, true, false, cond, sum, subst, le_trans, le_refl, arith}
use Rattle.correlation.proofs.Laws.{root_laws}
use Rattle.correlation.specs.Answers.{charge_of_branch}
use Rattle.correlation.specs.Tables.{entry}
use Rattle.modules.specs.Lists.{sum_charges}
use Rattle.modules.specs.Bounds.{Tabled, TabledAll}
use Rattle.modules.specs.Charged.{charged, charged_all}
use Rattle.modules.specs.Trees as trees
use Rattle.modules.specs.Trees.{Tree, Forest, line, greater, root, choice, none, more, branch_count, gross, gross_all, first_taken}
use Rattle.modules.specs.declared.sheet.Sheet.{Sheet}
use Rattle.std.proofs.lemmas.List.Sums.{sum_by-cons}
use Rattle.written.specs.Forests.{charged_count}

taken_within : (b : Bool) (c d g h : ℕ) → c ≤ g → d ≤ h → cond b c d ≤ cond b g h
taken_within true c d g h p q = p
taken_within false c d g h p q = q

mutual
  pub charged_within : (t : Tree) → Tabled t → (s : Sheet) → charged t s ≤ gross t s
  charged_within (line n) law s = le_refl _
  charged_within (trees.sum f) law s = charges_within f law s
  charged_within (greater t u) law s = omega (arith, charged_within t law.0 s, charged_within u law.1 s)
  charged_within (root above f) law s =
      let n = branch_count f in
      le_trans ((root_laws n (entry n above) law.0).at_most (charge_of_branch (charged_all f s))) (subst (λ x. x ≤ gross_all f s) (sum_charges n (charged_all f s) (charged_count f s)) (charges_within f law.1 s))
  charged_within (choice a b t u) law s =
      taken_within (first_taken s a b) (charged t s) (charged u s) (gross t s) (gross u s) (charged_within t law.0 s) (charged_within u law.1 s)

  pub charges_within : (f : Forest) → TabledAll f → (s : Sheet) → sum (charged_all f s) ≤ gross_all f s
  charges_within none law s = le_refl _
  charges_within (more t f) law s = omega (arith, sum_by-cons (λ x. x) (charged t s) (charged_all f s), charged_within t law.0 s, charges_within f law.1 s)

-- A root over branches keeps within the bounds of its tree. Assumes nothing.
use Rattle.std.specs.Prelude.{◌≡◌, ℕ, ◌+◌, ◌^◌, ◌<◌, ◌≤◌, Bool, true, false, cond, List, [], ◌++◌, length, Ok, Err, sum, Result, ◌==◌, ◌≢◌, nat_eq, refl}
use Rattle.std.proofs.Common.{sym, ap, ap₂, subst, subst₂, ◌∙◌, arith}
use Rattle.correlation.proofs.Standing.{above_lawful, above_root}
use Rattle.correlation.specs.Answers.{size_of, above_of, entry_of, charge_of_branch, root_answer}
use Rattle.correlation.specs.Roots as roots
use Rattle.correlation.specs.Tables.{Lawful, entry}
use Rattle.correlation.specs.declared.table.Table.{Table}
use Rattle.refusals.specs.declared.Refusal.{Refusal}
use Rattle.std.proofs.lemmas.Bool.{eqb-true, eq-eqb, cond-true}
use Rattle.modules.specs.Answers.{Priced, Bounded, BoundedAll, answer_of, charge_of, charge_answer}
use Rattle.modules.specs.Bounds.{Tabled, TabledAll}
use Rattle.modules.specs.Charged.{charged, charged_all}
use Rattle.modules.specs.Rooted.{root_tree, root_value}
use Rattle.modules.specs.Trees as trees
use Rattle.modules.specs.Trees.{Tree, Forest, none, root, branch_count, gross_all, roundings_all}
use Rattle.modules.specs.declared.answer.Charge.{Charge}
use Rattle.modules.specs.declared.sheet.Sheet.{Sheet}
use Rattle.modules.specs.Answering.{charge_small, charge_told}
use Rattle.modules.specs.Charging.{charges_count, sum_bounded, root_bounded}

module _ (t : Table) (f : Forest) where
  table_fits : branch_count f ≡ size_of t → Lawful (branch_count f) (entry (branch_count f) (above_of t))
  table_fits e = subst (λ n. Lawful n (entry n (above_of t))) (sym e) (above_lawful t)

  root_fits : branch_count f ≡ size_of t → (c : ℕ → ℕ) → roots.root (branch_count f) (entry (branch_count f) (above_of t)) c ≡ roots.root (size_of t) (entry_of t) c
  root_fits e c = ap (λ n. roots.root n (entry n (above_of t)) c) e ∙ sym (above_root t c)

  -- what holds of the root where the branches fit the table, and of nothing, holds of what the two stand for
  by_fit : (P : Tree → ℕ → Type 0) (v : ℕ) → (branch_count f ≡ size_of t → P (root (above_of t) f) v) → P (trees.sum none) 0 → P (root_tree t f) (cond (branch_count f == size_of t) v 0)
  by_fit P v fitted nothing = by_test (branch_count f == size_of t) (eqb-true _ _) where
    by_test : (b : Bool) → (b ≡ true → branch_count f ≡ size_of t) → P (cond b (root (above_of t) f) (trees.sum none)) (cond b v 0)
    by_test true fits = fitted (fits refl)
    by_test false fits = nothing

  pub root_tree_tabled : TabledAll f → Tabled (root_tree t f)
  root_tree_tabled all = by_fit (λ tree v. Tabled tree) 0 (λ fits. (table_fits fits, all)) tt

  pub root_tree_bounded : (s : Sheet) (cs : List ℕ) → BoundedAll f s cs → Bounded (root_tree t f) s (root_value t f cs)
  root_tree_bounded s cs all =
      by_fit (λ tree v. Bounded tree s v) _ (λ fits. subst (Bounded (root (above_of t) f) s) (root_fits fits (charge_of_branch cs)) (root_bounded (above_of t) f s cs (table_fits fits) all)) (sum_bounded none s [] tt)

  pub root_charged : (s : Sheet) (cs : List ℕ) → cs ≡ charged_all f s → root_value t f cs ≡ charged (root_tree t f) s
  root_charged s cs e =
      by_fit (λ tree v. v ≡ charged tree s) _ (λ fits. sym (root_fits fits (charge_of_branch cs)) ∙ ap (λ l. roots.root (branch_count f) (entry (branch_count f) (above_of t)) (charge_of_branch l)) e) refl

  -- the branches fit the table, and their charges were gathered into a list that was empty
  module _ (s : Sheet) (cs list after before : List ℕ) (fits : nat_eq (branch_count f) (size_of t) ≡ true) (all : BoundedAll f s cs) (empty : before ≡ []) (gathered : length before + branch_count f ≤ 8 → after ≡ before ++ cs) (read : list ≡ after) where
    size_is : branch_count f ≡ size_of t
    size_is = eqb-true _ _ fits

    list_is : list ≡ cs
    list_is = read ∙ gathered (omega (arith, ap length empty, size_is, t.branches.1)) ∙ ap (λ l. l ++ cs) empty

    counted : nat_eq (length list) (size_of t) ≡ true
    counted = eq-eqb _ _ (ap length list_is ∙ charges_count f s cs all ∙ size_is)

    rooted_by : (w : ℕ) → Ok w ≡ root_answer t list → w ≡ roots.root (size_of t) (entry_of t) (charge_of_branch cs)
    rooted_by w e =
        let told : Ok w ≡ Ok (roots.root (size_of t) (entry_of t) (charge_of_branch list)) = e ∙ cond-true _ _ _ counted in
        let same : w ≡ roots.root (size_of t) (entry_of t) (charge_of_branch list) = cc in
        same ∙ ap (λ l. roots.root (size_of t) (entry_of t) (charge_of_branch l)) list_is

    pub not_refused : (e : Refusal) → Err e ≢ root_answer t list
    not_refused e h =
        let told : Err e ≡ Ok (roots.root (size_of t) (entry_of t) (charge_of_branch list)) = h ∙ cond-true _ _ _ counted in
        let z : ◌≡◌ {A = ℕ} 0 1 = cc in
        omega arith

    root_small : TabledAll f → Priced (gross_all f s) (roundings_all f s + 1) → roots.root (size_of t) (entry_of t) (charge_of_branch cs) < 2 ^ 32
    root_small tabled priced =
        charge_small (root (above_of t) f) s _ (table_fits size_is, tabled) (subst (Bounded (root (above_of t) f) s) (root_fits size_is (charge_of_branch cs)) (root_bounded (above_of t) f s cs (table_fits size_is) all)) priced

    fitted_answer : charge_answer (root_tree t f) s (root_value t f cs) ≡ answer_of (gross_all f s) (roundings_all f s + 1) (charge_of (roots.root (size_of t) (entry_of t) (charge_of_branch cs)) (gross_all f s) (roundings_all f s + 1))
    fitted_answer = ap₂ (λ tree v. charge_answer tree s v) (cond-true _ _ _ fits) (cond-true _ _ _ fits)

    pub root_amount : (w : ℕ) (a : Charge) → Ok w ≡ root_answer t list → Ok a ≡ charge_answer (trees.sum f) s (sum cs) → TabledAll f → (g n : ℕ) → g ≡ a.gross → n ≡ a.roundings → Priced g (n + 1) → w < 2 ^ 32
    root_amount w a e told tabled g n g_is n_is priced =
        let is = charge_told (trees.sum f) s (sum cs) a told in
        subst (λ x. x < 2 ^ 32) (sym (rooted_by w e)) (root_small tabled (subst₂ (λ x y. Priced x (y + 1)) (g_is ∙ ap (λ x. x.gross) is) (n_is ∙ ap (λ x. x.roundings) is) priced))

    pub root_charge : (w : ℕ) (a : Charge) (r : Result Charge Refusal) → Ok w ≡ root_answer t list → Ok a ≡ charge_answer (trees.sum f) s (sum cs) → (g n : ℕ) → g ≡ a.gross → n ≡ a.roundings → r ≡ answer_of g (n + 1) (charge_of w g (n + 1)) → r ≡ charge_answer (root_tree t f) s (root_value t f cs)
    root_charge w a r e told g n g_is n_is answered =
        let is = charge_told (trees.sum f) s (sum cs) a told in
        let gross_is = g_is ∙ ap (λ x. x.gross) is in
        let roundings_is = n_is ∙ ap (λ x. x.roundings) is in
        answered ∙ (λ i. answer_of (gross_is i) (roundings_is i + 1) (charge_of (rooted_by w e i) (gross_is i) (roundings_is i + 1))) ∙ sym fitted_answer

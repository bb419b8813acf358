-- What makes a table lawful. Assumes nothing.
use Rattle.std.proofs.Common.{◌≡◌, ℕ, zero, suc, ◌-◌, ◌*◌, ◌<◌, ◌≤◌, min, max, cond, eqb, List, length, get_or, take, replicate, sym, refl, ap, ◌∙◌, subst, ap₂, ⊎_elim, arith, get_or-take}
use Rattle.std.proofs.lemmas.Bool.{cases_eq, eq-eqb, ne_eqb, cond-true, cond-false, cond_both}
use Rattle.correlation.specs.Tables.{Branches, Within, InRange, RowCondition, Lawful, LawfulAbove, above_count, place, entry, excess_of_row}
use Rattle.correlation.proofs.Laws.{le_from_squares}
use Rattle.correlation.proofs.Places.{entry_own, entry_off, entry_above, entry_symmetric, place_of_two, place_onto}
use Rattle.correlation.proofs.Sums.{sum_cong, sum_zero}

in_range : (n : ℕ) (r : ℕ → ℕ → ℕ) → RowCondition n r → InRange n r
in_range n r rows i j w = le_from_squares (r i j) 100 (omega (arith, rows i j w))

-- entries above the diagonal need only the row condition
pub lawful_from_rows : (n : ℕ) (above : List ℕ) → Branches n → RowCondition n (entry n above) → Lawful n (entry n above)
lawful_from_rows n above b rows = record {
  branches = b;
  range = in_range n (entry n above) rows;
  diagonal = λ i l. entry_own n above i;
  symmetric = λ i j w. entry_symmetric n above i j;
  rows = rows;
}

excess_cong : (n : ℕ) (r s : ℕ → ℕ → ℕ) → ((i j : ℕ) → Within n i j → r i j ≡ s i j) → (i j : ℕ) → Within n i j → excess_of_row n r i j ≡ excess_of_row n s i j
excess_cong n r s same i j w =
    sum_cong n _ _ (λ k k< t. cond (eqb k i) 0 (same i j w t * same j k (w.1, k<) t - 100 * same i k (w.0, k<) t))

-- lawful is a matter of the entries alone
pub lawful_cong : (n : ℕ) (r s : ℕ → ℕ → ℕ) → ((i j : ℕ) → Within n i j → r i j ≡ s i j) → Lawful n r → Lawful n s
lawful_cong n r s same law = record {
  branches = law.branches;
  range = λ i j w. omega (arith, same i j w, law.range i j w);
  diagonal = λ i l. sym (same i i (l, l)) ∙ law.diagonal i l;
  symmetric = λ i j w. sym (same i j w) ∙ law.symmetric i j w ∙ same j i (w.1, w.0);
  rows = λ i j w. omega (arith, ap₂ (λ x y. x * y) (same i j w) (same i j w), excess_cong n r s same i j w, law.rows i j w);
}

-- no two branches go together
Apart : ℕ → (ℕ → ℕ → ℕ) → Type 0
Apart n r = (i j : ℕ) → Within n i j → r i j ≡ cond (eqb i j) 100 0

module _ (n : ℕ) (r : ℕ → ℕ → ℕ) (apart : Apart n r) where
  own : (i : ℕ) → i < n → r i i ≡ 100
  unfolding Apart
  own i l = apart i i (l, l) ∙ cond-true (eqb i i) 100 0 (eq-eqb i i refl)

  off : (i j : ℕ) → Within n i j → (i ≡ j → ⊥) → r i j ≡ 0
  unfolding Apart
  off i j w other = apart i j w ∙ cond-false (eqb i j) 100 0 (ne_eqb i j other)

  no_excess : (i j k : ℕ) → Within n i j → k < n → r i j * r j k - 100 * r i k ≡ 0
  no_excess i j k w k< =
      ⊎_elim
      (λ same. omega (arith, ap (λ x. r i x * r x k) same, ap (λ x. x * r i k) (own i w.0)))
      (λ other. omega (arith, ap (λ x. x * r j k) (off i j w (λ e. other (sym e)))))
      (cases_eq j i)

  apart_rows : RowCondition n r
  apart_rows i j w =
      let none = sum_zero n (λ k. cond (eqb k i) 0 (r i j * r j k - 100 * r i k)) (λ k k<. cond_both (eqb k i) 0 _ (λ x. x ≡ 0) (λ e. refl) (λ e. no_excess i j k w k<)) in
      ⊎_elim
      (λ same. omega (arith, ap₂ (λ x y. x * y) (ap (r i) same ∙ own i w.0) (ap (r i) same ∙ own i w.0)))
      (λ other. omega (arith, ap (λ x. x * r i j) (off i j w (λ e. other (sym e)))))
      (cases_eq j i)

getD_zeros : (m k : ℕ) → get_or {A = ℕ} (replicate m 0) k 0 ≡ 0
getD_zeros zero k = refl
getD_zeros (suc m) zero = refl
getD_zeros (suc m) (suc k) = getD_zeros m k

pub zeros_entry : (m n i j : ℕ) → entry n (replicate m 0) i j ≡ cond (eqb i j) 100 0
zeros_entry m n i j = ap (cond (eqb i j) 100) (getD_zeros m (place n (min i j) (max i j)))

pub zeros_lawful : (m n : ℕ) → Branches n → Lawful n (entry n (replicate m 0))
unfolding Apart
zeros_lawful m n b = lawful_from_rows n (replicate m 0) b (apart_rows n (entry n (replicate m 0)) (λ i j w. zeros_entry m n i j))

-- what stands past the entries above the diagonal is not read
pub entry_take : (n : ℕ) (above : List ℕ) (i j : ℕ) → Within n i j → entry n (take (above_count n) above) i j ≡ entry n above i j
entry_take n above i j w =
    ⊎_elim
    (λ same. subst (λ x. entry n (take (above_count n) above) i x ≡ entry n above i x) same (entry_own n (take (above_count n) above) i ∙ sym (entry_own n above i)))
    (λ other. entry_off n _ i j other ∙ get_or-take (above_count n) above (place n (min i j) (max i j)) 0 (place_of_two n i j w.0 w.1 other) ∙ sym (entry_off n above i j other))
    (cases_eq i j)

-- every entry of a lawful table is in range
pub above_in_range : (n : ℕ) (entries : List ℕ) → LawfulAbove n entries → (k : ℕ) → k < length entries → get_or entries k 0 ≤ 100
above_in_range n entries law k l =
    let (i, j, ij, jn, here) = place_onto n k (omega (arith, law.count)) in
    omega (arith, law.lawful.range i j (omega arith), entry_above n entries i j ij, ap (λ p. get_or entries p 0) here)

module _ (n : ℕ) (entries above : List ℕ) (count : length entries ≡ above_count n) (front : take (length entries) above ≡ entries) where
  pub stands : take (above_count n) above ≡ entries
  stands = ap (λ k. take k above) (sym count) ∙ front

  same_entries : (i j : ℕ) → Within n i j → entry n above i j ≡ entry n entries i j
  same_entries i j w = sym (entry_take n above i j w) ∙ ap (λ l. entry n l i j) stands

  pub lawful_above : Lawful n (entry n above) → LawfulAbove n entries
  lawful_above law = record { count = count; lawful = lawful_cong n (entry n above) (entry n entries) same_entries law }

  pub above_lawful : LawfulAbove n entries → Lawful n (entry n above)
  above_lawful law = lawful_cong n (entry n entries) (entry n above) (λ i j w. sym (same_entries i j w)) law.lawful

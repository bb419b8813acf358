-- A square that mirrors itself is as lawful as its part above the diagonal. Assumes nothing.
use Rattle.std.proofs.Common.{◌≡◌, ℕ, ◌*◌, ◌<◌, ◌≤◌, List, length, take, Ok, Err, Result, sym, ◌∙◌, subst, ⊎_elim, length-take-le, get_or-take}
use Rattle.std.proofs.lemmas.Bool.{cases_order}
use Rattle.refusals.specs.declared.Refusal.{Refusal}
use Rattle.correlation.specs.Answers.{size_of, Replaced, HasAbove, HasSquare}
use Rattle.correlation.specs.Tables.{Within, Diagonal, Symmetric, LawfulAbove, LawfulSquare, above_count, place, entry, square_entry, Copied}
use Rattle.correlation.specs.declared.table.Table.{Table}
use Rattle.correlation.proofs.Lawful.{lawful_cong, entry_take}
use Rattle.correlation.proofs.Places.{entry_own, entry_above, entry_symmetric, place_lt}

module _ (n : ℕ) (square above : List ℕ) (count : length square ≡ n * n) (room : above_count n ≤ length above) (mirror : Diagonal n (square_entry n square) × Symmetric n (square_entry n square)) (copied : Copied n square above (above_count n)) where
  upper_part : List ℕ
  upper_part = take (above_count n) above

  in_order : (i j : ℕ) → i < j → j < n → entry n upper_part i j ≡ square_entry n square i j
  unfolding upper_part
  in_order i j ij jn =
      entry_above n (take (above_count n) above) i j ij ∙ get_or-take (above_count n) above (place n i j) 0 (place_lt n i j ij jn) ∙ copied i j ij jn (place_lt n i j ij jn)

  same : (i j : ℕ) → Within n i j → entry n upper_part i j ≡ square_entry n square i j
  same i j w =
      ⊎_elim
      (λ e. subst (λ x. entry n upper_part i x ≡ square_entry n square i x) e (entry_own n upper_part i ∙ sym (mirror.0 i w.0)))
      (⊎_elim (λ l. in_order i j l w.1) (λ l. entry_symmetric n upper_part i j ∙ in_order j i l w.0 ∙ mirror.1 j i (w.1, w.0)))
      (cases_order i j)

  lawful_square : LawfulAbove n upper_part → LawfulSquare n square
  lawful_square law = record { count = count; lawful = lawful_cong n _ _ same law.lawful }

  square_lawful : LawfulSquare n square → LawfulAbove n upper_part
  unfolding upper_part
  square_lawful law = record { count = length-take-le (above_count n) above room; lawful = lawful_cong n _ _ (λ i j w. sym (same i j w)) law.lawful }

  has_square : (t : Table) → HasAbove n upper_part t → HasSquare n square t
  has_square t has = record {
    size = has.size;
    entries = λ i j w.
        sym (entry_take (size_of t) t.entries.above i j (subst (λ m. Within m i j) (sym has.size) w))
        ∙ (λ x. entry (has.size x) (has.entries x) i j)
        ∙ same i j w;
  }

  pub replaced : (u : List ℕ) → u ≡ take (above_count n) above → (before after : Table) (r : Result (Unit {0}) Refusal) → Replaced (LawfulAbove n u) (HasAbove n u) before after r → Replaced (LawfulSquare n square) (HasSquare n square) before after r
  unfolding upper_part
  replaced u e before after (Ok x) h =
      (lawful_square (subst (LawfulAbove n) e h.0), has_square after (subst (λ l. HasAbove n l after) e h.1))
  replaced u e before after (Err x) h = (λ law. h.0 (subst (LawfulAbove n) (sym e) (square_lawful law)), h.1, h.2)

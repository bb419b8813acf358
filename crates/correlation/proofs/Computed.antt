-- Whether a table is lawful, as a test that antt computes. Assumes nothing.
use Rattle.std.proofs.Common.{◌≡◌, ℕ, zero, suc, ◌+◌, ◌*◌, ◌<◌, Bool, true, false, ◌&&◌, eqb, ltb, List, length, Decides, refl, arith}
use Rattle.std.proofs.lemmas.Bool.Decides.{Decides-and, Decides-eqb, Decides-like, Decides-ltb, Decides-below_and, not_from_Decides}
use Rattle.correlation.specs.Tables.{most_branches, above_count, entry, excess_of_row, LawfulAbove}
use Rattle.correlation.proofs.Lawful.{lawful_from_rows}

-- the test passes at each number below n
abbrev pub every_below : (ℕ → Bool) → ℕ → Bool
every_below p zero = true
every_below p (suc n) = p n && every_below p n

abbrev pub pair_test : ℕ → (ℕ → ℕ → ℕ) → ℕ → ℕ → Bool
pair_test n r i j = ltb (r i j * r i j + excess_of_row n r i j) 10001

abbrev pub rows_test : ℕ → (ℕ → ℕ → ℕ) → Bool
rows_test n r = every_below (λ i. every_below (pair_test n r i) n) n

abbrev pub lawful_test : ℕ → List ℕ → Bool
lawful_test n above = ltb 0 n && (ltb n (suc most_branches) && (eqb (length above) (above_count n) && rows_test n (entry n above)))

decides_rows : (n : ℕ) (r : ℕ → ℕ → ℕ) → Decides (rows_test n r) ((i : ℕ) → i < n → (j : ℕ) → j < n → r i j * r i j + excess_of_row n r i j < 10001)
decides_rows n r =
    Decides-below_and (λ i. every_below (pair_test n r i) n) _ (every_below (λ i. every_below (pair_test n r i) n))
    (λ i. Decides-below_and (pair_test n r i) _ (every_below (pair_test n r i)) (λ j. Decides-ltb (r i j * r i j + excess_of_row n r i j) 10001) refl (λ m. refl) n) refl (λ m. refl) n

decides_lawful : (n : ℕ) (above : List ℕ) → Decides (lawful_test n above) (LawfulAbove n above)
decides_lawful n above =
    Decides-like (lawful_test n above)
    (λ h. record { count = h.1.1.0; lawful = lawful_from_rows n above (omega arith) (λ i j w. omega (arith, h.1.1.1 i w.0 j w.1)) })
    (λ law. (law.lawful.branches.0, (omega (arith, law.lawful.branches.1), (law.count, λ i i< j j<. omega (arith, law.lawful.rows i j (i<, j<))))))
    (Decides-and (ltb 0 n) _ (Decides-ltb 0 n) (Decides-and (ltb n (suc most_branches)) _ (Decides-ltb n (suc most_branches)) (Decides-and (eqb (length above) (above_count n)) _ (Decides-eqb (length above) (above_count n)) (decides_rows n (entry n above)))))

pub lawful_by : (n : ℕ) (above : List ℕ) → lawful_test n above ≡ true → LawfulAbove n above
lawful_by n above = (decides_lawful n above).0

pub unlawful_by : (n : ℕ) (above : List ℕ) → lawful_test n above ≡ false → LawfulAbove n above → ⊥
unlawful_by n above = not_from_Decides (lawful_test n above) (decides_lawful n above)

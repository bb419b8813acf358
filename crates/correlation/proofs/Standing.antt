-- What is known of a table that stands. Assumes nothing.
use Rattle.std.proofs.Common.{◌≡◌, ℕ, ◌*◌, sym, ap}
use Rattle.correlation.specs.Answers.{size_of, above_of, entry_of}
use Rattle.correlation.specs.Roots.{least_root, root}
use Rattle.correlation.specs.Tables.{Lawful, entry}
use Rattle.correlation.specs.declared.table.Table.{Table}
use Rattle.correlation.proofs.Lawful.{entry_take, lawful_cong}
use Rattle.correlation.proofs.Sums.{sum_cong_twice}

pub table_lawful : (t : Table) → Lawful (size_of t) (entry_of t)
table_lawful t = record { branches = t.branches; range = t.range; diagonal = t.diagonal; symmetric = t.symmetric; rows = t.rows }

-- the same by its entries above the diagonal
pub above_lawful : (t : Table) → Lawful (size_of t) (entry (size_of t) (above_of t))
above_lawful t = lawful_cong (size_of t) (entry_of t) (entry (size_of t) (above_of t)) (λ i j w. sym (entry_take (size_of t) t.entries.above i j w)) (table_lawful t)

pub above_root : (t : Table) (c : ℕ → ℕ) → root (size_of t) (entry_of t) c ≡ root (size_of t) (entry (size_of t) (above_of t)) c
above_root t c =
    ap least_root (sum_cong_twice (size_of t) (size_of t) (λ i j. entry_of t i j * c i * c j) (λ i j. entry (size_of t) (above_of t) i j * c i * c j) (λ i j i< j<. ap (λ x. x * c i * c j) (sym (entry_take (size_of t) t.entries.above i j (i<, j<)))))

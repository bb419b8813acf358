-- What is left to show of `Entries::rows_hold`.
use Rattle.std.proofs.Common.{ℕ, ◌+◌, ◌*◌, ◌<◌, ◌≤◌, refl, rules}
use Rattle.std.proofs.lemmas.Bool.Decides.{Decides-like}
use borrow.Author.Tests.{tests}
use Rattle.correlation.specs.Answers.{entry_in}
use Rattle.correlation.specs.Tables.{excess_of_row}
use Rattle.correlation.specs.declared.table.Entries.{Entries}
use Rattle.correlation.proofs.Ranges.{all_below}
use Rattle.correlation.proofs.table.Entries.rows_hold.Goals as goal

Row : Entries → ℕ → Type 0
Row e i = (j : ℕ) → j < e.size → entry_in e i j * entry_in e i j + excess_of_row e.size (entry_in e) i j ≤ 10000

pub returns : goal.returns
unfolding Row
returns c =
    Decides-like c.all.result (λ h i j w. h i w.0 j w.1) (λ h i l j m. h i j (l, m))
    (all_below c.args.self.now.size (Row c.args.self.now) _ _ c.all.result refl c.all.ensures.ran (λ x q k. search (rules, tests)) (λ x q k. search (rules, tests)))

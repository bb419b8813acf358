-- What is left to show of `Square::mirrored`.
use Rattle.std.proofs.Common.{◌≡◌, ℕ, ◌<◌, refl, rules}
use Rattle.std.proofs.lemmas.Bool.Decides.{Decides-like}
use borrow.Author.Tests.{tests}
use Rattle.correlation.specs.Tables.{square_entry}
use Rattle.correlation.specs.declared.table.square.Square.{Square}
use Rattle.correlation.proofs.Ranges.{all_below}
use Rattle.correlation.proofs.table.square.Square.mirrored.Goals as goal

Row : Square → ℕ → Type 0
Row s i = (square_entry s.size s.entries.now i i ≡ 100) × ((j : ℕ) → j < s.size → square_entry s.size s.entries.now i j ≡ square_entry s.size s.entries.now j i)

pub returns : goal.returns
unfolding Row
returns c =
    Decides-like c.all.result (λ h. (λ i l. (h i l).0, λ i j w. (h i w.0).1 j w.1)) (λ h i l. (h.0 i l, λ j m. h.1 i j (l, m)))
    (all_below c.args.self.now.size (Row c.args.self.now) _ _ c.all.result refl c.all.ensures.ran (λ x q k. search (rules, tests)) (λ x q k. search (rules, tests)))

-- What is left to show of `Square::row_mirrored`.
use Rattle.std.proofs.Common.{◌≡◌, ℕ, ◌<◌, Decides, refl, rules}
use Rattle.std.proofs.lemmas.Bool.{both_ways}
use borrow.Author.Tests.{tests}
use Rattle.correlation.specs.Tables.{square_entry}
use Rattle.correlation.proofs.Ranges.{all_below}
use Rattle.correlation.proofs.table.square.Square.row_mirrored.Goals as goal
use Rattle.correlation.proofs.table.square.Square.row_mirrored.Goals.{After-all}

mirrors : (c : After-all) → Decides c.all.result ((j : ℕ) → j < c.args.self.now.size → square_entry c.args.self.now.size c.args.self.now.entries.now c.args.i j ≡ square_entry c.args.self.now.size c.args.self.now.entries.now j c.args.i)
mirrors c = all_below c.args.self.now.size _ _ _ c.all.result refl c.all.ensures.ran (λ x q k. search (rules, tests)) (λ x q k. search (rules, tests))

pub returns-then-all : goal.returns-then-all
returns-then-all c =
    let row = (mirrors (goal.at.returns-then-all c).After-all).0 c.if-all.true in
    search (rules, tests)

pub returns-else-all : goal.returns-else-all
returns-else-all c =
    let row = mirrors (goal.at.returns-else-all c).After-all in
    (λ e. absurd (both_ways _ c.if-all.false e), λ h. row.1 h.1)

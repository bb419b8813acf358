-- What is left to show of `Entries::row_holds`.
use Rattle.std.proofs.Common.{refl, rules}
use borrow.Author.Tests.{tests}
use Rattle.correlation.proofs.Ranges.{all_below}
use Rattle.correlation.proofs.table.Entries.row_holds.Goals as goal

pub returns : goal.returns
returns c = all_below c.args.self.now.size _ _ _ c.all.result refl c.all.ensures.ran (λ x q k. search (rules, tests)) (λ x q k. search (rules, tests))

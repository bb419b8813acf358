-- What is left to show of `same_rules_same_ratio`.
use Rattle.ratio.proofs.Holding.{same_ratios}
use Rattle.ratio.proofs.asking.same_rules_same_ratio.Goals as goal

pub returns : goal.returns
returns c = same_ratios

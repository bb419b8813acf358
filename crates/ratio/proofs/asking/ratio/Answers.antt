-- What is left to show of `ratio`.
use Rattle.ratio.proofs.Holding.{held_cautious}
use Rattle.ratio.proofs.asking.ratio.Goals as goal

pub returns-clause-cautious : goal.returns-clause-cautious
returns-clause-cautious g c =
    let s = c.args.sheet.now in
    let m = c.args.rule.now in
    let near = c.in_ok-required.ensures.near in
    held_cautious c.args.settings.now (g.M.RiskModule.tree c.args.«module».now) s (g.R.LimitRule.scale m) (g.R.LimitRule.capital m s) c.in_ok-required.required.required c.rated.result (g.met.R.LimitRule.counts m s) (λ k one. (near k one).not_below) c.rated.ensures

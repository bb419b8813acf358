-- What is left to show of `required_capital`.
use Rattle.std.proofs.Common.{ℕ, ◌≤◌, subst}
use Rattle.required.specs.Answers.{NearExact}
use Rattle.required.proofs.Answering.{answered_near}
use Rattle.required.proofs.capital.required_capital.Goals as goal

pub returns-clause-near : goal.returns-clause-near
returns-clause-near g c =
    let t = g.M.RiskModule.tree c.args.«module».now in
    let a = g.M.RiskModule.value c.args.«module».now c.args.sheet.now in
    let s = c.in_ok-settings.settings in
    subst (λ given. (k : ℕ) → 1 ≤ k → NearExact given t c.args.sheet.now c.required_at.result.required c.required_at.result.roundings k) c.in_ok-settings.ensures.kept
    (answered_near s.settings t c.args.sheet.now a s.in_range c.in_ok-charge.charge c.in_ok-charge.ensures.answer c.required_at.result c.required_at.ensures c.in_ok-charge.ensures.within)

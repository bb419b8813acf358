-- The unit more still fits.
use Rattle.std.proofs.Common.{arith}
use Rattle.own_module.specs.Lone.{charge_most}
use Rattle.own_module.proofs.prudent.PrudentRiskModule.charge.Goals as goal

pub overflow_add-result : goal.overflow_add-result
overflow_add-result g c =
    let m = c.args.self.now.branch in
    let s = c.args.sheet.now in
    omega (arith, charge_most (g.M.RiskModule.tree m) s (g.M.RiskModule.value m s) c.in_ok-branch.branch (g.met.M.RiskModule.tabled m) (g.met.M.RiskModule.bounded m s) c.in_ok-branch.ensures)

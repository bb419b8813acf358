-- What is left to show of `Tower::charge`.
use Rattle.std.proofs.Common.{sym, arith}
use Rattle.modules.specs.Answers.{charge_of}
use Rattle.modules.specs.Trees.{gross, roundings}
use Rattle.ratio_tests.specs.Towers.{tower}
use Rattle.ratio_tests.specs.Tall.{charge_refused, tower_roundings}
use Rattle.ratio_tests.proofs.tests.tower.TowerRiskModule.charge.Goals as goal

pub returns : goal.returns
returns c =
    let s = c.args.sheet.now in
    let g = gross (tower 1000) s in
    let n = roundings (tower 1000) s in
    sym (charge_refused g n (charge_of 0 g n) c.in_ok-gross.field-0 c.in_ok-gross.ensures (omega (arith, tower_roundings 1000 s)))

-- What is left to show of `Tower::roundings`.
use Rattle.std.proofs.Common.{sym, arith}
use Rattle.modules.specs.Trees.{roundings}
use Rattle.ratio_tests.specs.Towers.{tower}
use Rattle.ratio_tests.specs.Tall.{too_many, tower_roundings}
use Rattle.ratio_tests.proofs.tests.tower.TowerRiskModule.roundings.Goals as goal

pub returns : goal.returns
returns c = let s = c.args._sheet.now in sym (too_many (roundings (tower 1000) s) (omega (arith, tower_roundings 1000 s)))

-- What is left to show of `Tower::gross`.
use Rattle.std.proofs.Common.{◌≡◌, ◌*◌, unwrap_or, ap, ◌∙◌, arith}
use Rattle.modules.specs.Answers.{gross_answer}
use Rattle.modules.specs.Sheets.{units}
use Rattle.modules.specs.Trees.{gross}
use Rattle.ratio_tests.specs.Towers.{tower}
use Rattle.ratio_tests.specs.Tall.{tower_gross}
use Rattle.ratio_tests.proofs.tests.tower.TowerRiskModule.gross.Goals as goal

pub returns : goal.returns
unfolding units
returns c =
    let s = c.args.sheet.now in
    let is : 1001 * c.div_ceil-units.result ≡ gross (tower 1000) s = omega (arith, tower_gross 1000 s, c.div_ceil-units.ensures, c.unwrap_or.ensures, ap (λ o. unwrap_or o 0) c.total.ensures) in
    c.gross_within.ensures ∙ ap gross_answer is

-- What is left to show of `price_by_lines`.
use Rattle.std.proofs.Common.{ap, ap₂, ◌∙◌}
use Rattle.modules.specs.Answers.{charge_answer}
use Rattle.modules.specs.Charged.{charged}
use Rattle.standard.specs.Standard.{standard_tree}
use Rattle.session.proofs.price.price_by_lines.Goals as goal

pub returns : goal.returns
returns c = c.plain_price.ensures ∙ ap (λ t. charge_answer t c.args.sheet.now (charged t c.args.sheet.now)) (c.standard-tree.ensures.tree ∙ ap₂ standard_tree c.non_life_lines.ensures c.catastrophe_lines.ensures)

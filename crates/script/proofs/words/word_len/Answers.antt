-- The first space, or the end.
use Rattle.std.proofs.Common.{not, ◌∙◌, rules, tests, arith}
use Rattle.std.proofs.lemmas.Iterator.{YieldsList-from_slice}
use Rattle.std.proofs.lemmas.Iterator.Search.{position_from_yields_List}
use Rattle.std.proofs.lemmas.List.Sums.{prefix_len-le-length}
use Rattle.script.specs.Pieces.{is_space}
use Rattle.script.proofs.FirstWord.{first_or_all}
use Rattle.script.proofs.words.word_len.Goals as goal

pub returns-clause-value : goal.returns-clause-value
returns-clause-value c =
    let text = c.args.text.now in
    let at = position_from_yields_List is_space _ _ c.position.result c.position.ensures.ran (YieldsList-from_slice text c.iter.ensures.rest) (λ x b q k. search (rules, tests)) in
    c.unwrap_or.ensures ∙ first_or_all is_space text c.position.result at

pub returns-clause-bound : goal.returns-clause-bound
returns-clause-bound c =
    let text = c.args.text.now in
    let at = position_from_yields_List is_space _ _ c.position.result c.position.ensures.ran (YieldsList-from_slice text c.iter.ensures.rest) (λ x b q k. search (rules, tests)) in
    omega (arith, c.unwrap_or.ensures, first_or_all is_space text c.position.result at, prefix_len-le-length (λ b. not (is_space b)) text)

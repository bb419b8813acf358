-- What is left to show of `Written::roundings`.
use Rattle.std.proofs.Common.{ap, ◌∙◌, arith}
use Rattle.modules.specs.Answers.{roundings_answer}
use Rattle.modules.specs.Trees.{roundings, roundings_all}
use Rattle.std.proofs.lemmas.List.{at_drop_all}
use Rattle.written.specs.Reading.{forest_of, tree_of}
use Rattle.written.proofs.Counted.{rounding_of_line, rounding_of_root, no_rounding, denied, read_roundings}
use Rattle.written.proofs.written.questions.WrittenRiskModule.roundings.Goals as goal
use Rattle.written.proofs.written.questions.WrittenRiskModule.roundings.Goals.{then-is_of, then-is_of-via-then-is_of, then-is_of-via-else-is_of+then-is_of-2, else-is_of+else-is_of-2}

pub loop-word-preserved : goal.loop-word-preserved
loop-word-preserved c =
    let ws = c.words-words.result.now in
    let reads = c.words-words.ensures.reads in
    let i = c.loop-word.word-index in
    let s = c.args._sheet.now in
    elim c.if-is_of.branch [
      | then-is_of w ↦
          elim w.then-is_of.branch [
            | then-is_of-via-then-is_of v ↦
                omega (arith, rounding_of_line ws reads i c.loop-word-test.true s (c.is_of.ensures.0 v.if-is_of.true), w.roundings-is, c.loop-word.invariant)
            | then-is_of-via-else-is_of+then-is_of-2 v ↦
                omega (arith, rounding_of_root ws reads i c.loop-word-test.true s (v.is_of-else-is_of.ensures.0 v.if-is_of-2.true), w.roundings-is, c.loop-word.invariant)
          ]
      | else-is_of+else-is_of-2 w ↦
          omega (arith, no_rounding ws reads i c.loop-word-test.true s (denied c.is_of.ensures w.if-is_of.false) (denied w.is_of-else-is_of.ensures w.if-is_of-2.false), w.roundings-is, c.loop-word.invariant)
    ]

pub returns : goal.returns
returns c =
    let ws = c.words-words.result.now in
    let s = c.args._sheet.now in
    let whole = read_roundings ws s c.words-words.ensures.reads ∙ ap (λ l. roundings (tree_of l) s) c.words-words.ensures.value in
    c.roundings_within.ensures
    ∙ ap roundings_answer (omega (arith, c.loop-word.invariant.0, at_drop_all (λ l. roundings_all (forest_of l) s) ws c.loop-word.word-index c.loop-word-test.false, whole))

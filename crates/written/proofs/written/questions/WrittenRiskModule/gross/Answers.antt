-- What is left to show of `Written::gross`.
use Rattle.std.proofs.Common.{sym, ap, ◌∙◌, subst, arith}
use Rattle.modules.specs.Answers.{gross_answer}
use Rattle.modules.specs.Sheets.{IsLine, line_units}
use Rattle.modules.specs.Trees.{gross, gross_all}
use Rattle.std.proofs.lemmas.List.{at_drop_all}
use Rattle.std.proofs.lemmas.Result.{err_from_is_err_and}
use Rattle.written.specs.Known.{read_few}
use Rattle.written.specs.Reading.{forest_of, tree_of}
use Rattle.written.proofs.Answered.{gross_told, gross_refused}
use Rattle.written.proofs.Counted.{line_here, gross_of_line, gross_of_rest, denied, read_gross}
use Rattle.written.proofs.written.questions.WrittenRiskModule.gross.Goals as goal
use Rattle.written.proofs.written.questions.WrittenRiskModule.gross.Goals.{then-is_of+in_ok-units, else-is_of}

pub units-requires : goal.units-requires
units-requires c =
    let kind = c.is_of.ensures.0 c.if-is_of.true in
    subst IsLine (sym c.value_of.ensures) (line_here c.words-words.result.now c.words-words.ensures.reads c.loop-word.word-index c.loop-word-test.true kind)

pub returns-in_err-units : goal.returns-in_err-units
returns-in_err-units c =
    let p = err_from_is_err_and c.from_residual.result c.from_residual.ensures.1 in
    let ws = c.words-words.result.now in
    let reads = c.words-words.ensures.reads in
    let s = c.args.sheet.now in
    let kind = c.is_of.ensures.0 c.if-is_of.true in
    let step = gross_of_line ws reads c.loop-word.word-index c.loop-word-test.true s kind in
    let same = ap (line_units s) c.value_of.ensures in
    let whole = read_gross ws s reads ∙ ap (λ l. gross (tree_of l) s) c.words-words.ensures.value in
    rw (p.1, p.2) (gross_refused _ _ _ c.in_err-units.ensures (omega (arith, step, same, c.loop-word.invariant.0, whole)))

pub overflow_add-gross : goal.overflow_add-gross
overflow_add-gross c =
    let told = gross_told _ _ c.in_ok-units.ensures in
    omega (arith, told, c.loop-word.invariant.1, c.from.ensures, c.loop-word-test.true, read_few c.words-words.result.now c.words-words.ensures.reads)

pub loop-word-preserved : goal.loop-word-preserved
loop-word-preserved c =
    let ws = c.words-words.result.now in
    let reads = c.words-words.ensures.reads in
    let i = c.loop-word.word-index in
    let s = c.args.sheet.now in
    elim c.if-is_of.branch [
      | then-is_of+in_ok-units w ↦
          let kind = c.is_of.ensures.0 w.if-is_of.true in
          let told = gross_told _ _ w.in_ok-units.ensures in
          let step = gross_of_line ws reads i c.loop-word-test.true s kind in
          let same = ap (line_units s) w.value_of.ensures in
          omega (arith, told, step, same, w.gross-is, w.from.ensures, c.loop-word.invariant)
      | else-is_of w ↦
          let step = gross_of_rest ws reads i c.loop-word-test.true s (denied c.is_of.ensures w.if-is_of.false) in
          omega (arith, step, w.gross-is, c.loop-word.invariant)
    ]

pub returns : goal.returns
returns c =
    let ws = c.words-words.result.now in
    let s = c.args.sheet.now in
    let whole = read_gross ws s c.words-words.ensures.reads ∙ ap (λ l. gross (tree_of l) s) c.words-words.ensures.value in
    c.gross_within.ensures
    ∙ ap gross_answer (omega (arith, c.loop-word.invariant.0, at_drop_all (λ l. gross_all (forest_of l) s) ws c.loop-word.word-index c.loop-word-test.false, whole))

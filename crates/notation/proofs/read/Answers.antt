-- The tokens are those of a sketch, and no others.
use Rattle.std.proofs.Common.{Some, sym, ap, ◌∙◌, subst}
use Rattle.notation.specs.Sketches.{Noted}
use Rattle.notation.proofs.Stops.{lacks_from, answer_from, stops}
use Rattle.notation.proofs.Whole.{no_branch, some_left, all_read}
use Rattle.notation.proofs.read.Goals as goal

pub returns-in_err-branch : goal.returns-in_err-branch
returns-in_err-branch c =
    let cut = ap Some (c.new-reader.ensures.left ∙ c.as_slice.ensures.value) ∙ c.in_ok-cut.ensures in
    stops c.from_residual-in_err-branch.result _ _ _ c.from_residual-in_err-branch.ensures (lacks_from _ (no_branch c.args.text.now c.new-reader.result.left.now cut) c.in_err-branch.ensures)

pub returns : goal.returns
returns c =
    let cut = ap Some (c.new-reader.ensures.left ∙ c.as_slice.ensures.value) ∙ c.in_ok-cut.ensures in
    let got = c.in_ok-branch.ensures in
    answer_from c.finish.result
    (λ v e. subst (Noted c.args.text.now) (sym e.1) (all_read c.args.text.now c.new-reader.result.left.now cut _ _ _ got c.new-reader.ensures.words e.0))
    (λ some. some_left c.args.text.now c.new-reader.result.left.now cut _ _ _ got some) c.finish.ensures

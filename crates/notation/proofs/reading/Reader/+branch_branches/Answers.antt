-- A branch is its head and its list; a list is read branch by branch.
use Rattle.std.proofs.Common.{◌∷◌, vec_items, ap, ◌∙◌, arith}
use Rattle.notation.specs.Sketches.{none}
use Rattle.notation.proofs.Lists.{put, no_levels, no_head_no_sketch, no_list_read, no_list, no_branch_left, list_begins, list_empty, list_ends, list_goes_on, list_breaks, list_stops, line_read, sketch_read}
use Rattle.notation.proofs.Stops.{lacks_from, stops}
use Rattle.notation.proofs.reading.Reader.+branch_branches.Goals as goal

pub branch-returns-then-levels-eq0 : goal.branch-returns-then-levels-eq0
branch-returns-then-levels-eq0 t c = no_levels c.args.levels c.args.self.now.left.now c.if-levels-eq0.true

pub branch-returns-in_err-kind : goal.branch-returns-in_err-kind
branch-returns-in_err-kind t c =
    stops c.from_residual.result _ _ _ c.from_residual.ensures (lacks_from _ (no_head_no_sketch c.args.levels c.args.self.now.left.now) c.in_err-kind.ensures)

pub branch-returns-in_default : goal.branch-returns-in_default
branch-returns-in_default t c =
    line_read c.args.levels _ _ _ c.in_ok-kind.field-0 _ (omega (arith, c.if-levels-eq0.false)) c.in_default.is c.in_ok-kind.ensures

pub branch-returns-in_err-count : goal.branch-returns-in_err-count
branch-returns-in_err-count t c =
    stops c.from_residual-in_err-count.result _ _ _ c.from_residual-in_err-count.ensures
    (lacks_from _ (no_list_read c.args.levels _ _ _ _ c.in_ok-kind.field-0 c.in-Some.kind c.in-Some.is c.in_ok-kind.ensures) c.in_err-count.ensures)

pub branch-returns : goal.branch-returns
branch-returns t c =
    let list = c.in_ok-count.ensures in
    sketch_read c.args.levels _ _ _ _ c.in_ok-kind.field-0 c.in-Some.kind c.in-Some.is c.in_ok-kind.ensures _ _ _ list
    (omega (arith, c.if-levels-eq0.false)) c.len-at.result (omega (arith, c.len-at.ensures, c.args.self.now.words.ok.0)) c.word.result (c.word.ensures.whole (omega (arith, list.1.counted)))

pub branches-returns-then-closes : goal.branches-returns-then-closes
branches-returns-then-closes t c =
    (none, list_empty c.args.levels _ _ _ _ c.if-closes.ensures.close (ap vec_items c.closes.ensures.kept))

pub branches-loop-count-init : goal.branches-loop-count-init
branches-loop-count-init t c =
    (none, list_begins c.args.levels _ _ _ _ c.if-closes.ensures.close.1 (ap vec_items c.closes.ensures.kept))

pub branches-returns-in_err-branch : goal.branches-returns-in_err-branch
branches-returns-in_err-branch t c =
    stops c.from_residual.result _ _ _ c.from_residual.ensures
    (lacks_from _ (λ lacks. no_list c.args.levels c.args.self.now.left.now c.if-closes.ensures.close.0 (no_branch_left c.loop-count.invariant.1 lacks)) c.in_err-branch.ensures)

pub branches-returns-in_err-next : goal.branches-returns-in_err-next
branches-returns-in_err-next t c =
    stops c.from_residual-in_err-next.result _ _ _ c.from_residual-in_err-next.ensures
    (lacks_from _ (λ e. no_list c.args.levels c.args.self.now.left.now c.if-closes.ensures.close.0 (list_stops c.loop-count.invariant.1 c.in_ok-branch.ensures.1 e)) c.in_err-next.ensures.next)

pub branches-returns-in-Close : goal.branches-returns-in-Close
branches-returns-in-Close t c =
    let inv = c.loop-count.invariant in
    let got = c.in_ok-branch.ensures in
    let at = c.in_ok-next.ensures.next ∙ ap (λ x. x ∷ c.next.new.self.left.now) c.in-Close.is in
    (put inv.0 got.0, rw (c.next.ensures.kept, c.clipped-count.ensures) (list_ends inv.1 got.1 c.next.new.self.left.now at))

pub branches-loop-count-preserved : goal.branches-loop-count-preserved
branches-loop-count-preserved t c =
    let inv = c.loop-count.invariant in
    let got = c.in_ok-branch.ensures in
    let at = c.in_ok-next.ensures.next ∙ ap (λ x. x ∷ c.next.new.self.left.now) c.in-Comma.is in
    (put inv.0 got.0, rw (c.next.ensures.kept, c.clipped-count.ensures) (list_goes_on inv.1 got.1 c.next.new.self.left.now at))

pub branches-returns-in_default : goal.branches-returns-in_default
branches-returns-in_default t c =
    no_list c.args.levels c.args.self.now.left.now c.if-closes.ensures.close.0
    (list_breaks c.loop-count.invariant.1 c.in_ok-branch.ensures.1 _ c.next.new.self.left.now c.in_ok-next.ensures.next c.in_default.not-Close c.in_default.not-Comma)

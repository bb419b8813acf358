-- A head and as many branches as are due make a branch; a fault of the head, of the table or of the branches is the branch's.
use Rattle.std.proofs.Common.{◌≤◌, ◌-◌, [], sym, refl, ◌∙◌, subst, append-nil, arith}
use Rattle.modules.specs.Trees.{none}
use Rattle.words.specs.Faults.{Fault, Faults}
use Rattle.words.specs.Items.{Shows}
use Rattle.words.specs.Steps.{BranchesRead, ReadFrom}
use Rattle.words.proofs.Parts.{handed_on, passed}
use Rattle.words.proofs.Reading.{whole, under_read, more_read}
use Rattle.words.proofs.reader.+read_branch_read_branches.Goals as goal

pub read_branch-returns-in_err-item : goal.read_branch-returns-in_err-item
read_branch-returns-in_err-item t c = handed_on (ReadFrom c.args.depth c.args.from) c.from_residual.ensures.1 (Fault.head c.in_err-item.ensures)

pub read_branch-returns-in_err-check_table : goal.read_branch-returns-in_err-check_table
read_branch-returns-in_err-check_table t c =
    let o = c.in_ok-item.ensures in
    let q = c.in_err-check_table.ensures in
    handed_on (ReadFrom c.args.depth c.args.from) c.from_residual-in_err-check_table.ensures.1 (Fault.table {place = c.args.from.place} o.0 _ o.1 (q.0 o.0 _ o.1.in_range o.2) q.1)

pub read_branch-returns-in_err-rest : goal.read_branch-returns-in_err-rest
read_branch-returns-in_err-rest t c =
    let o = c.in_ok-item.ensures in
    let law = c.in_ok-check_table.ensures o.0 _ o.1.in_range o.2 in
    handed_on (ReadFrom c.args.depth c.args.from) c.from_residual-in_err-rest.ensures.1 (under_read _ c.args.from c.in_ok-item.behind o.1 o.3 law (c.branches_due.ensures o.0 _ o.2) c.in_err-rest.ensures)

pub read_branch-returns : goal.read_branch-returns
read_branch-returns t c =
    let o = c.in_ok-item.ensures in
    let law = c.in_ok-check_table.ensures o.0 _ o.1.in_range o.2 in
    let read = c.in_ok-rest.ensures in
    let all = whole o.1 law read.0 c.branches_due.result read.1 c.in_ok-rest.rest.words.now read.2 read.3 (c.branches_due.ensures o.0 _ o.2) read.4 in
    let cut = c.up_to.ensures ∙ passed c.in_ok-item.behind c.in_ok-rest.rest _ read.2 read.5 ∙ sym (append-nil read.1) in
    let shows = subst (Shows c.covering.result o.0) cut (c.covering.ensures o.0 _ o.2) in
    ((all.tree, all.own, all.words, all.branch, all.item c.covering.result shows), read.5 ∙ o.3)

pub read_branches-returns-then-count-eq0 : goal.read_branches-returns-then-count-eq0
read_branches-returns-then-count-eq0 t c = (none, [], refl, sym c.if-count-eq0.true, refl, refl)

pub read_branches-returns-in_err-rest : goal.read_branches-returns-in_err-rest
read_branches-returns-in_err-rest t c =
    let some : 1 ≤ c.args.count = omega arith in
    handed_on (BranchesRead c.args.count c.args.depth c.args.from) c.from_residual.ensures.1 (Faults.here some c.in_err-rest.ensures)

pub read_branches-returns : goal.read_branches-returns
read_branches-returns t c =
    let read = c.in_ok-rest.ensures in
    more_read _ (c.args.count - 1) _ read.0.0 c.args.from c.in_ok-rest.rest read.0.1 c.read_branches.result (omega arith) read.0.2 read.1 read.0.3 c.read_branches.ensures

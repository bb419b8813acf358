-- A head with its branches; a list branch by branch.
use Rattle.std.proofs.Common.{◌+◌, string_bytes, arith}
use Rattle.std.proofs.lemmas.Result.{IfOk-weaker}
use Rattle.notation.proofs.Shows.{has_head, opens_shorter, branches_behind, head_alone, head_and_branches, first_starts, others_start, rest_shorter, last_written, more_written}
use Rattle.notation.proofs.showing.Writer.+branch_branches.Goals as goal

pub branch-head-requires : goal.branch-head-requires
branch-head-requires t c = has_head c.args.self.now.left.now c.requires.starts.0 c.requires.starts.1 c.requires.starts.2

pub branch-branches-requires : goal.branch-branches-requires
branch-branches-requires t c =
    let head = c.in_ok-count.ensures in
    let shorter = opens_shorter c.args.self.now.left.now head.0 c.head.new.self.left.now head.1 in
    let behind = branches_behind c.args.self.now.left.now (string_bytes c.args.self.now.text) (string_bytes c.head.new.self.text) c.in_ok-count.count c.head.new.self.left.now c.requires.starts.0 c.requires.starts.1 head c.requires.starts.2 in
    (omega (arith, shorter), (omega (arith, c.if-count-eq0.false), (behind, omega (arith, shorter, c.requires.near))))

pub branch-returns-then-count-eq0 : goal.branch-returns-then-count-eq0
branch-returns-then-count-eq0 t c =
    head_alone c.args.indent c.args.self.now.left.now (string_bytes c.args.self.now.text) (string_bytes c.head.new.self.text) c.in_ok-count.count c.head.new.self.left.now c.if-count-eq0.true c.in_ok-count.ensures

pub branch-returns-else-count-eq0 : goal.branch-returns-else-count-eq0
branch-returns-else-count-eq0 t c =
    IfOk-weaker c.branches.result _ _
    (λ _. head_and_branches c.args.indent c.args.self.now.left.now (string_bytes c.args.self.now.text) (string_bytes c.head.new.self.text) (string_bytes c.branches.new.self.text) c.in_ok-count.count c.head.new.self.left.now c.branches.new.self.left.now c.if-count-eq0.false c.in_ok-count.ensures)
    c.branches.ensures

pub branches-branch-self-requires : goal.branches-branch-self-requires
branches-branch-self-requires t c =
    (omega arith, (first_starts c.args.count c.args.self.now.left.now c.requires.start.0 c.requires.start.1 c.requires.some c.requires.start.2, c.requires.near))

pub branches-branches-requires : goal.branches-branches-requires
branches-branches-requires t c =
    let words = c.args.self.now.left.now in
    let i = c.args.indent + 2 in
    let lined = string_bytes c.push_new_line.new.text in
    let written = string_bytes c.branch-self.new.self.text in
    let rest = c.branch-self.new.self.left.now in
    let first = first_starts c.args.count words c.requires.start.0 c.requires.start.1 c.requires.some c.requires.start.2 in
    let shorter = rest_shorter i words lined written rest first.0 first.1 first.2 c.in_ok-branch.ensures in
    let others = others_start i c.args.count words lined written rest c.requires.start.0 c.requires.start.1 c.requires.some c.requires.start.2 c.in_ok-branch.ensures in
    (omega (arith, shorter), (omega (arith, c.if-count-eq1.false, c.requires.some), (others, omega (arith, shorter, c.requires.near))))

pub branches-returns-in_ok-push_str : goal.branches-returns-in_ok-push_str
branches-returns-in_ok-push_str t c =
    last_written c.args.indent c.args.count c.args.self.now.left.now (string_bytes c.args.self.now.text) (string_bytes c.push_new_line.new.text) (string_bytes c.branch-self.new.self.text) (string_bytes c.push_new_line-then-count-eq1.new.text) (string_bytes c.push_str.new.self) c.branch-self.new.self.left.now
    c.if-count-eq1.true c.in_ok-push_new_line.ensures c.in_ok-branch.ensures c.in_ok-push_new_line-2.ensures c.in_ok-push_str.ensures.bytes

pub branches-returns-in_ok-push_str-2 : goal.branches-returns-in_ok-push_str-2
branches-returns-in_ok-push_str-2 t c =
    IfOk-weaker c.branches.result _ _
    (λ _ others. more_written c.args.indent c.args.count c.args.self.now.left.now (string_bytes c.args.self.now.text) (string_bytes c.push_new_line.new.text) (string_bytes c.branch-self.new.self.text) (string_bytes c.push_str-else-count-eq1.new.self) (string_bytes c.branches.new.self.text) c.branch-self.new.self.left.now c.branches.new.self.left.now
    c.if-count-eq1.false c.in_ok-push_new_line.ensures c.in_ok-branch.ensures c.in_ok-push_str-2.ensures.bytes others c.requires.some)
    c.branches.ensures

-- What is left to show of `Entries::at`.
use Rattle.std.proofs.Common.{◌≡◌, ◌+◌, ◌-◌, get_or, sym, ap, ◌∙◌, arith}
use Rattle.correlation.specs.Tables.{place, start_of_row}
use Rattle.correlation.proofs.Places.{above_count_few, place_of_two, entry_off}
use Rattle.correlation.proofs.table.Entries.at.Goals as goal
use Rattle.correlation.proofs.table.Entries.at.Goals.{After-row_start}

-- the index is the entry's place
at_place : (c : After-row_start) → c.row_start.result + (c.max-after.result - c.min-before.result - 1) ≡ place c.args.self.now.size (Prim.Native.Nat.min c.args.i c.args.j) (Prim.Native.Nat.max c.args.i c.args.j)
at_place c = omega (arith, ap (start_of_row c.args.self.now.size) c.min-before.ensures, c.row_start.ensures, c.min-before.ensures, c.max-after.ensures)

pub overflow_add-result : goal.overflow_add-result
overflow_add-result c = omega (arith, at_place c, place_of_two c.args.self.now.size c.args.i c.args.j c.requires.first c.requires.second c.if-i-j.false, above_count_few c.args.self.now.size c.args.self.now.few)

pub bounds-self-row_start : goal.bounds-self-row_start
bounds-self-row_start c = omega (arith, at_place (goal.at.bounds-self-row_start c).After-row_start, place_of_two c.args.self.now.size c.args.i c.args.j c.requires.first c.requires.second c.if-i-j.false, above_count_few c.args.self.now.size c.args.self.now.few)

pub returns : goal.returns
returns c = ap (λ k. get_or c.args.self.now.above k 0) (at_place (goal.at.returns c).After-row_start) ∙ sym (entry_off c.args.self.now.size c.args.self.now.above c.args.i c.args.j c.if-i-j.false)

-- What is left to show of `Square::upper`.
use Rattle.std.proofs.Common.{◌≡◌, ◌+◌, ◌-◌, ◌≤◌, suc, length, get_or, ap, ◌∙◌, add-one, arith, rules}
use Rattle.std.proofs.lemmas.List.{places}
use Rattle.correlation.specs.Tables.{start_of_row}
use Rattle.correlation.proofs.Places.{copied_row, above_count_few, row_start_mono}
use Rattle.correlation.proofs.table.square.Square.upper.Goals as goal

pub loop-i-preserved : goal.loop-i-preserved
loop-i-preserved c =
    let n = c.args.self.now.size in
    let i = c.loop-i.i in
    let row : c.copy_from_slice.new.self ≡ c.row_above-row.result.now = search rules in
    let room : start_of_row n (suc i) ≤ length c.loop-i.above = omega (arith, row_start_mono n (suc i) n (omega arith), above_count_few n c.args.self.now.few, c.loop-i.invariant.0) in
    let whole = copied_row n i c.row_start-start.result (c.row_start-start.result + length c.row_above-row.result.now - c.row_start-start.result) c.args.self.now.entries.now c.loop-i.above c.copy_from_slice.new.self c.loop-i-test.true c.row_start-start.ensures (omega (arith, ap length row)) (omega (arith, ap length row, c.row_above-row.ensures.many)) room (λ j ij jn. ap (λ l. get_or l (j - suc i) 0) row ∙ c.row_above-row.ensures.each j ij jn) c.loop-i.invariant.1 in
    (search (rules, places), rw add-one whole)

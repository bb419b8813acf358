-- What is left to show of `row_start`.
use Rattle.correlation.proofs.Places.{row_start_is, row_start_room}
use Rattle.correlation.proofs.table.places.row_start.Goals as goal

pub overflow_sub-result-2 : goal.overflow_sub-result-2
overflow_sub-result-2 c = row_start_room c.args.size c.args.i c.requires.within

pub returns : goal.returns
returns c = row_start_is c.args.size c.args.i c.requires.within

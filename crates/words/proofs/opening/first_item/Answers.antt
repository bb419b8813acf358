-- What opening says carries over to any tree that the words begin with.
use Rattle.std.proofs.Common.{Ok, Err}
use Rattle.std.proofs.lemmas.Result.{err_from_is_err_and}
use Rattle.words.proofs.Opened.{own_first}
use Rattle.words.proofs.opening.first_item.Goals as goal

pub returns-in_err-item-clause-own : goal.returns-in_err-item-clause-own
returns-in_err-item-clause-own c =
    let p = err_from_is_err_and c.from_residual.result c.from_residual.ensures.1 in
    rw p.1 (own_first _ (Err _) (rw c.start.ensures.place at rw c.start.ensures.words at c.in_err-item.ensures))

pub returns-clause-own : goal.returns-clause-own
returns-clause-own c =
    let o = c.in_ok-item.ensures in
    own_first _ (Ok c.in_ok-item.item) (o.0, c.in_ok-item.field-0-1.words.now, rw c.start.ensures.words at o.1, o.2)

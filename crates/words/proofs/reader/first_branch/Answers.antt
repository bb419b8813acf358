-- What the reader says, once there are not too many words, carries over to any tree that they begin with.
use Rattle.std.proofs.Common.{Ok, Err, inr}
use Rattle.std.proofs.lemmas.Result.{err_from_is_err_and}
use Rattle.words.proofs.Exactly.{own_branch}
use Rattle.words.proofs.reader.first_branch.Goals as goal

pub returns-in_err-item-clause-own : goal.returns-in_err-item-clause-own
returns-in_err-item-clause-own c =
    let p = err_from_is_err_and c.from_residual.result c.from_residual.ensures.1 in
    let fault = rw c.start.ensures.place at rw c.start.ensures.words at c.in_err-item.ensures in
    rw p.1 (own_branch _ (Err _) (inr (c.if-words-gt-MOST_WORDS.false, fault)))

pub returns-clause-own : goal.returns-clause-own
returns-clause-own c =
    let read = rw c.start.ensures.words at c.in_ok-item.ensures.0 in
    own_branch _ (Ok (c.in_ok-item.item, c.in_ok-item.rest.words)) (c.if-words-gt-MOST_WORDS.false, read)

-- What is read is the tree's own words.
use Rattle.notation.proofs.Back.{noted_back, none_back}
use Rattle.notation.proofs.words_of.Goals as goal

pub returns-in-Ok-clause-back : goal.returns-in-Ok-clause-back
returns-in-Ok-clause-back c = noted_back c.args.text.now c.in-Ok.words.items c.in-Ok.ensures

pub returns-in-Err-NoNotation-clause-back : goal.returns-in-Err-NoNotation-clause-back
returns-in-Err-NoNotation-clause-back c = none_back c.args.text.now (rw c.in-Err-NoNotation.field-0-is at c.in-Err-NoNotation.ensures)

-- The first word tells the head, or what is wrong with it.
use Rattle.words.specs.Faults.HeadFault.{word}
use Rattle.words.specs.Steps.{Opening}
use Rattle.words.proofs.Parts.{handed_on}
use Rattle.words.proofs.Opened.{no_head, root_opened}
use Rattle.words.proofs.opening.open.Goals as goal

pub returns-in_err-kind : goal.returns-in_err-kind
returns-in_err-kind c = handed_on (Opening c.args.depth c.args.from) c.from_residual.ensures.1 (no_head _ _ _ _ c.in_err-kind.ensures)

pub returns-in_err-check_word : goal.returns-in_err-check_word
returns-in_err-check_word c = handed_on (Opening c.args.depth c.args.from) c.from_residual-in_err-check_word.ensures.1 (word _ _ _ c.in_ok-kind.ensures.0 c.in_err-check_word.ensures)

pub returns-in-Root : goal.returns-in-Root
returns-in-Root c =
    let begins = c.in_ok-kind.ensures in
    let fine = c.in_ok-check_word.ensures in
    root_opened _ _ c.args.from c.in_ok-kind.rest c.open_root.result (rw c.in-Root.is at begins.0) begins.1 (rw c.in-Root.is at fine.0) fine.1 c.open_root.ensures

-- What was read or found wrong, and the laws of every reading.
use Rattle.std.proofs.Common.{◌≡◌, ◌-◌, ◌++◌, length, Ok, Err, sym, ap, ◌∙◌, subst, inr, append-nil, length-append, arith}
use Rattle.refusals.specs.declared.Refusal.TheVariants.{WordsLeftOver}
use Rattle.std.proofs.lemmas.Result.{err_from_is_err_and}
use Rattle.std.proofs.lemmas.Bool.{eqb-true, eqb-false}
use Rattle.std.proofs.lemmas.List.{nil_from_length}
use Rattle.words.specs.Faults.{Refused}
use Rattle.words.specs.Grammar.{Branch}
use Rattle.words.specs.Items.{ReadAnswer}
use Rattle.words.proofs.Exactly.{exactly, first_refused}
use Rattle.words.proofs.OneTree.{reads_once}
use Rattle.words.proofs.Settled.{left_to_right}
use Rattle.words.proofs.reader.read.Goals as goal

pub returns-in_err-item : goal.returns-in_err-item
returns-in_err-item c =
    let p = err_from_is_err_and c.from_residual.result c.from_residual.ensures.1 in
    let fault : Refused c.args.words.now c.in_err-item.field-0.0 = first_refused _ _ c.in_err-item.ensures.answer in
    rw (p.1, p.2) (record { answer = fault; exactly = exactly _ (Err _) fault; once = reads_once; places = left_to_right c.args.words.now })

pub overflow_sub-covered : goal.overflow_sub-covered
overflow_sub-covered c =
    let read = c.in_ok-item.ensures.answer.1 in
    omega (arith, simp length-append at (ap length read.2))

pub returns-then-not-is_empty : goal.returns-then-not-is_empty
returns-then-not-is_empty c =
    let first = c.in_ok-item.ensures.answer in
    let (t, bs, whole, branch, own) = first.1 in
    let ws = c.args.words.now in
    let rest = c.in_ok-item.rest.now in
    let some = eqb-false (length rest) 0 (sym c.is_empty.ensures ∙ c.if-not-is_empty.true) in
    let at : length ws - length rest ≡ length bs = omega (arith, simp length-append at (ap length whole)) in
    let over : Refused ws (WordsLeftOver (length ws - length rest)) =
    inr (inr (first.0, (t, bs, rest, whole, λ empty. some (ap length empty), branch, ap WordsLeftOver at))) in
    record { answer = over; exactly = exactly _ (Err _) over; once = reads_once; places = left_to_right c.args.words.now }

pub returns : goal.returns
returns c =
    let first = c.in_ok-item.ensures.answer in
    let (t, bs, whole, branch, own) = first.1 in
    let ws = c.args.words.now in
    let empty = nil_from_length c.in_ok-item.rest.now (eqb-true _ 0 (sym c.is_empty.ensures ∙ c.if-not-is_empty.false)) in
    let all : bs ≡ ws = sym (whole ∙ ap (λ l. bs ++ l) empty ∙ append-nil bs) in
    let read : ReadAnswer ws (Ok c.in_ok-item.item) = (t, (first.0, subst (Branch t 1) all branch), own) in
    record { answer = read; exactly = exactly _ (Ok _) read; once = reads_once; places = left_to_right c.args.words.now }

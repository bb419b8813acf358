-- A digit carries the number on, cut to the largest; any other byte ends the reading.
use Rattle.std.proofs.Common.{sym, ap, ◌∙◌, arith}
use Rattle.std.specs.Char.{digit_value}
use Rattle.digits.proofs.Saturates.{of_some, no_digit, digit, all_read}
use Rattle.digits.proofs.number.Goals as goal

pub returns-in_err-digit : goal.returns-in_err-digit
returns-in_err-digit c =
    let is = ap digit_value c.from.ensures in
    c.from_residual.ensures ∙ sym (no_digit _ _ _ _ c.loop-b-test.true (λ small. c.in_err-digit.ensures.value (omega (arith, is, small)))) ∙ c.loop-b.invariant.0 ∙ of_some _ _ c.if-is_empty.ensures

pub loop-b-preserved : goal.loop-b-preserved
loop-b-preserved c =
    let is = ap digit_value c.from.ensures in (
      digit _ _ _ _ c.loop-b-test.true _ (omega (arith, is, c.in_ok-digit.ensures.value)) (omega (arith, is, c.in_ok-digit.ensures.value)) ∙ c.loop-b.invariant.0,
      omega arith,
    )

pub returns : goal.returns
returns c = all_read _ _ _ _ c.loop-b-test.false c.loop-b.invariant.1 ∙ c.loop-b.invariant.0 ∙ of_some _ _ c.if-is_empty.ensures

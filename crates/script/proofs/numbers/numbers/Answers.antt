-- The word that was read is one number more, or none stands there.
use Rattle.std.proofs.Common.{vec_items, Err, sym, ap, ◌∙◌}
use Rattle.std.specs.Option.{ok_or}
use Rattle.script.specs.declared.Misread.TheVariants.{NotANumber}
use Rattle.script.proofs.Behind.{one_read, none_read, all_read, some_from_ok, none_from_err, handed_on}
use Rattle.script.proofs.numbers.numbers.Goals as goal

pub returns-in_err-number : goal.returns-in_err-number
returns-in_err-number c =
    let none = none_from_err _ _ _ c.in_err-number.ensures in
    let all = none_read _ _ _ c.in-Some.ensures.steps (vec_items c.loop-word.numbers) _ none.0 c.loop-word.invariant in
    handed_on vec_items _ c.from_residual.result _ c.from_residual.ensures.1 (ap (λ o. ok_or o NotANumber) (sym all) ∙ ap Err (sym none.1))

pub loop-word-preserved : goal.loop-word-preserved
loop-word-preserved c =
    one_read _ _ _ c.in-Some.ensures.steps (vec_items c.loop-word.numbers) (vec_items c.push.new.self) _ _ c.in_ok-push.ensures.items (some_from_ok _ _ _ c.in_ok-number.ensures) c.loop-word.invariant

pub returns : goal.returns
returns c = ap (λ o. ok_or o NotANumber) (sym (all_read _ _ _ c.in-None.ensures.steps.0 c.loop-word.invariant))

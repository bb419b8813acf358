-- The decimal of a number is read as that number.
use Rattle.std.proofs.Common.{◌≡◌, ℕ, ◌^◌, ◌<◌, ◌≤◌, min, true, Some, decimal, sym, ap, ◌∙◌, arith}
use Rattle.std.proofs.lemmas.Bool.{cond-true, ne_eqb}
use Rattle.std.proofs.lemmas.Fmt.{decimal_nonempty, digits_decimal, digits_value-decimal}
use Rattle.std.proofs.lemmas.Str.Parse.{IsNumeralModel, numerals_by_value, tells_all_ascii_digits}
use Rattle.std.specs.Str.{all_ascii_digits}
use Rattle.std.specs.Str.Parse.{digits_value}
use Rattle.digits.specs.Numbers.{number_up_to}
use Rattle.digits.proofs.Saturates.{of_some}

-- digits are read as the library reads them
pub own : IsNumeralModel (λ ds. all_ascii_digits ds ≡ true) (digits_value 10)
own = numerals_by_value _ tells_all_ascii_digits

pub number_decimal : (most n : ℕ) → n ≤ most → n < 2 ^ 64 → number_up_to most (decimal n) ≡ Some n
number_decimal most n h small =
    let some = decimal_nonempty n small in
    let cut : min n most ≡ n = omega arith in
    sym (of_some most (decimal n) (sym (ne_eqb _ 0 (λ e. omega arith))))
    ∙ cond-true _ _ _ (digits_decimal own n small) ∙ ap (λ k. Some (min k most)) (digits_value-decimal own n small) ∙ ap Some cut

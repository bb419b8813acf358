-- A number that is cut to the largest after each digit is the number cut at the end.
use Rattle.std.proofs.Common.{◌≡◌, ℕ, ◌+◌, ◌*◌, ◌<◌, ◌≤◌, min, Bool, true, false, cond, ◌&&◌, eqb, List, [], ◌∷◌, length, get_or, drop, Some, None, Option, sym, refl, ap, ◌∙◌, ⊎_elim, arith, rules, false-eqb}
use Rattle.std.proofs.lemmas.List.{at_drop_more, at_drop_all}
use Rattle.std.proofs.lemmas.Bool.{cases_lt, false_from_ne_true}
use Rattle.std.proofs.lemmas.Str.{digit_value_digit}
use Rattle.std.proofs.lemmas.Str.Parse.{digit_from_value, tells_all_ascii_digits}
use Rattle.std.specs.Char.{is_ascii_digit, digit_value}
use Rattle.std.specs.Str.{all_ascii_digits}
use Rattle.std.specs.Str.Parse.{digits_value_after}
use Rattle.digits.specs.Numbers.{number_up_to}

-- the number that digits write behind those of n, cut to the largest
abbrev pub number_from : ℕ → ℕ → List ℕ → Option ℕ
number_from most n cs = cond (all_ascii_digits cs) (Some (min (digits_value_after 10 n cs) most)) None

value_ge : (n : ℕ) (cs : List ℕ) → n ≤ digits_value_after 10 n cs
value_ge n [] = omega arith
value_ge n (c ∷ cs) = omega (arith, value_ge (n * 10 + digit_value c) cs)

is_digit : (c : ℕ) → digit_value c < 10 → is_ascii_digit c ≡ true
is_digit c h = let r = digit_from_value c h in search (rules, r)

is_no_digit : (c : ℕ) → (digit_value c < 10 → ⊥) → is_ascii_digit c ≡ false
is_no_digit c h = false_from_ne_true _ (λ e. let r = (tells_all_ascii_digits.parts c [] (ap (λ b. b && true) e)).0 in h (omega (arith, r.1, digit_value_digit c r)))

module _ (most : ℕ) where
  value_cut : (n : ℕ) (cs : List ℕ) → min (digits_value_after 10 (min n most) cs) most ≡ min (digits_value_after 10 n cs) most
  value_cut n cs =
      ⊎_elim
      (λ h. omega (arith, value_ge (min n most) cs, value_ge n cs))
      (λ h. let e : min n most ≡ n = omega arith in ap (λ k. min (digits_value_after 10 k cs) most) e)
      (cases_lt most n)

  pub of_some : (w : List ℕ) → false ≡ eqb (length w) 0 → number_from most 0 w ≡ number_up_to most w
  of_some [] h = absurd (false-eqb 0 0 h refl)
  of_some (c ∷ cs) h = refl

  -- the byte at i, read behind the digits of n
  module _ (n : ℕ) (w : List ℕ) (i : ℕ) (h : i < length w) where
    at_byte : (t : Bool) → is_ascii_digit (get_or w i 0) ≡ t → number_from most n (drop i w) ≡ cond (t && all_ascii_digits (drop (i + 1) w)) (Some (min (digits_value_after 10 n (get_or w i 0 ∷ drop (i + 1) w)) most)) None
    at_byte t e = at_drop_more (number_from most n) w i 0 h ∙ ap (λ t. cond (t && all_ascii_digits (drop (i + 1) w)) (Some (min (digits_value_after 10 n (get_or w i 0 ∷ drop (i + 1) w)) most)) None) e

    pub no_digit : (digit_value (get_or w i 0) < 10 → ⊥) → number_from most n (drop i w) ≡ None
    no_digit e = at_byte false (is_no_digit (get_or w i 0) e)

    pub digit : (k : ℕ) → digit_value (get_or w i 0) < 10 → k ≡ min (n * 10 + digit_value (get_or w i 0)) most → number_from most k (drop (i + 1) w) ≡ number_from most n (drop i w)
    digit k e is =
        ap (λ m. number_from most m (drop (i + 1) w)) is
        ∙ ap (λ k. cond (all_ascii_digits (drop (i + 1) w)) (Some k) None) (value_cut (n * 10 + digit_value (get_or w i 0)) (drop (i + 1) w))
        ∙ sym (at_byte true (is_digit (get_or w i 0) e))

  pub all_read : (n : ℕ) (w : List ℕ) (i : ℕ) → length w ≤ i → n ≤ most → Some n ≡ number_from most n (drop i w)
  all_read n w i h small = let e : n ≡ min n most = omega arith in ap Some e ∙ sym (at_drop_all (number_from most n) w i h)

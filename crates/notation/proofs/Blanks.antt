-- What the library writes of an empty text that is filled up. Assumes nothing.
use Rattle.std.proofs.Common.{◌≡◌, ℕ, zero, suc, ◌-◌, ◌^◌, true, ◌&&◌, [], ◌∷◌, replicate, refl, ap, ◌∙◌, arith}
use Rattle.std.proofs.lemmas.Bool.{cond-false, ne_eqb}
use Rattle.std.specs.Char.{encode_utf8}
use Rattle.std.specs.Fmt.{styled_text, padded, take_chars, char_count, format_spec}
use Rattle.std.specs.List.{repeat}

repeated : (n : ℕ) → repeat {A = ℕ} n (32 ∷ []) ≡ replicate n 32
repeated zero = refl
repeated (suc n) = ap (λ x. 32 ∷ x) (repeated n)

-- `{:i$}` writes so many spaces
pub spaces : (i : ℕ) → styled_text (format_spec 32 0 0 i (2 ^ 64 - 1)) [] ≡ replicate i 32
unfolding padded take_chars char_count encode_utf8
spaces zero = refl
spaces (suc i) = let same : suc i - 0 - 0 ≡ suc i = omega arith in cond-false _ _ _ (ap (λ t. t && true) (ne_eqb (suc i) 0 (λ e. omega arith))) ∙ ap (λ n. repeat {A = ℕ} n (32 ∷ [])) same ∙ repeated (suc i)

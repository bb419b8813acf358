-- What the library writes of a word in hexadecimal. Assumes nothing.
use Rattle.std.proofs.Common.{◌≡◌, ℕ, zero, suc, ◌+◌, ◌-◌, ◌/◌, ◌%◌, ◌^◌, ◌<◌, ◌≤◌, false, List, [], ◌∷◌, ◌++◌, length, replicate, sym, refl, ap, ◌∙◌, ⊎_elim, append_assoc, append-nil, arith}
use Rattle.std.proofs.lemmas.Bool.{cases_lt, cond-true, cond-false, eq-eqb, ne_eqb}
use Rattle.std.specs.Fmt.{digits, digits_onto, padded_integral, char_count, format_spec}
use Rattle.notation.specs.Hexadecimal.{digit_text, digits_text}

zeros_push : (k : ℕ) (acc : List ℕ) → replicate k 48 ++ (48 ∷ acc) ≡ 48 ∷ (replicate k 48 ++ acc)
zeros_push zero acc = refl
zeros_push (suc k) acc = ap (λ x. 48 ∷ x) (zeros_push k acc)

zeros : (k : ℕ) (acc : List ℕ) → digits_text k 0 ++ acc ≡ replicate k 48 ++ acc
zeros zero acc = refl
zeros (suc k) acc = append_assoc (digits_text k 0) (48 ∷ []) acc ∙ zeros k (48 ∷ acc) ∙ zeros_push k acc

-- digits before those that are written, with zeros up to so many
record Filled (k : ℕ) (n : ℕ) (acc ds : List ℕ) : Type 0 where
  long : length ds ≤ k + length acc
  text : replicate (k + length acc - length ds) 48 ++ ds ≡ digits_text k n ++ acc

last : (j n : ℕ) (acc : List ℕ) → n < 16 → digits_onto (suc j) 16 false n acc ≡ digit_text (n % 16) ∷ acc
last j n acc l = cond-true _ _ _ (eq-eqb (n / 16) 0 (omega arith))

next : (j n : ℕ) (acc : List ℕ) → 16 ≤ n → digits_onto (suc j) 16 false n acc ≡ digits_onto j 16 false (n / 16) (digit_text (n % 16) ∷ acc)
next j n acc l = cond-false _ _ _ (ne_eqb (n / 16) 0 (λ e. omega arith))

filled : (k j n : ℕ) (acc : List ℕ) → k ≤ j → n < 16 ^ suc k → Filled (suc k) n acc (digits_onto (suc j) 16 false n acc)
filled zero j n acc enough small =
    let d = digit_text (n % 16) in
    let none : 1 + length acc - length (d ∷ acc) ≡ 0 = omega arith in
    let fits : length (d ∷ acc) ≤ 1 + length acc = omega arith in
    rw (last j n acc (omega arith)) (record { long = fits; text = ap (λ m. replicate m 48 ++ (d ∷ acc)) none })
filled (suc k) zero n acc enough small = absurd (omega arith)
filled (suc k) (suc j) n acc enough small =
    ⊎_elim
    (λ l.
    let none : n / 16 ≡ 0 = omega arith in
    let d = digit_text (n % 16) in
    let far : suc (suc k) + length acc - length (d ∷ acc) ≡ suc k = omega arith in
    let fits : length (d ∷ acc) ≤ suc (suc k) + length acc = omega arith in
    rw (last (suc j) n acc l) (record { long = fits; text = ap (λ m. replicate m 48 ++ (d ∷ acc)) far ∙ sym (zeros (suc k) (d ∷ acc)) ∙ ap (λ m. digits_text (suc k) m ++ (d ∷ acc)) (sym none) ∙ sym (append_assoc (digits_text (suc k) (n / 16)) (d ∷ []) acc) }))
    (λ l.
    let d = digit_text (n % 16) in
    let own = filled k j (n / 16) (d ∷ acc) (omega arith) (omega arith) in
    let ds = digits_onto (suc j) 16 false (n / 16) (d ∷ acc) in
    let same : suc (suc k) + length acc - length ds ≡ suc k + length (d ∷ acc) - length ds = omega arith in
    let fits : length ds ≤ suc (suc k) + length acc = omega (arith, own.long) in
    rw (next (suc j) n acc l) (record { long = fits; text = ap (λ m. replicate m 48 ++ ds) same ∙ own.text ∙ sym (append_assoc (digits_text (suc k) (n / 16)) (d ∷ []) acc) }))
    (cases_lt n 16)

-- `{:08x}` writes eight digits
pub eight_digits : (w : ℕ) → w < 2 ^ 32 → padded_integral (format_spec 32 0 4 8 (2 ^ 64 - 1)) false [] (digits 16 false w) ≡ digits_text 8 w
unfolding padded_integral char_count digits
eight_digits w small =
    let own = filled 7 63 w [] (omega arith) (omega arith) in
    let ds = digits_onto 64 16 false w [] in
    let same : 8 - length ds - 0 - 0 ≡ 8 - length ds = omega arith in
    (λ i. replicate (same i) 48 ++ append-nil ds i) ∙ own.text ∙ append-nil (digits_text 8 w)

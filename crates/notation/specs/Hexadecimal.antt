-- Words in hexadecimal: `0x` and eight digits each, with one space between two.
use Rattle.std.specs.Prelude.{ℕ, zero, suc, ◌+◌, ◌/◌, ◌%◌, cond, List, [], ◌∷◌, ◌++◌, codes, nat_lt}
use Rattle.notation.specs.Spaced.{spaced_by}

-- 0 to 9, and then a to f
abbrev pub digit_text : ℕ → ℕ
digit_text d = cond (nat_lt d 10) (48 + d) (87 + d)

-- the last k digits of a number
abbrev pub digits_text : ℕ → ℕ → List ℕ
digits_text zero n = []
digits_text (suc k) n = digits_text k (n / 16) ++ digit_text (n % 16) ∷ []

abbrev pub word_text : ℕ → List ℕ
word_text w = codes "0x" ++ digits_text 8 w

abbrev pub words_text : List ℕ → List ℕ
words_text = spaced_by word_text

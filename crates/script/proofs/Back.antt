-- Statements that are written out plainly are the meaning of that text.
use Rattle.std.proofs.Common.{◌≡◌, ℕ, ◌+◌, ◌^◌, ◌<◌, ◌≤◌, true, false, List, [], ◌∷◌, ◌++◌, map, length, Some, Ok, Err, decimal, Result, Vec, sym, refl, ap, ◌∙◌, arith, rules, ◌==◌, Bool, not, cond}
use Rattle.std.proofs.lemmas.Fmt.{decimal_nonempty, digits_decimal}
use Rattle.std.proofs.ByRecursion.{All-append, All-weaker}
use Rattle.std.proofs.lemmas.Str.Parse.{tells_all_ascii_digits}
use Rattle.digits.proofs.Decimals.{own, number_decimal}
use Rattle.std.proofs.lemmas.Bool.{cond-true, or_from, ne_eqb}
use Rattle.std.specs.declared.alloc.Global.{Global}
use Rattle.std.proofs.lemmas.List.{take_all}
use Rattle.std.proofs.lemmas.List.Elements.{All-from_recursion}
use Rattle.std.proofs.lemmas.List.Splits.{slice_split_at, slice_split_none}
use Rattle.std.specs.List.{AllByRecursion, position_or_len, before_first, slice_split, filter}
use Rattle.std.specs.Str.{all_ascii_digits}
use Rattle.script.specs.declared.Fault.{Fault}
use Rattle.script.specs.declared.Fault.TheVariants.{Memory, Line}
use Rattle.script.specs.declared.Statement.{Statement}
use Rattle.script.specs.Meaning.{Said, Told, table, root, total, price_standard, table_of, root_of, total_of, above, line_above, lines_from, meaning, Parsed}
use Rattle.script.specs.Numbers.{largest, both, numbers_of}
use Rattle.script.specs.Pieces.{is_space, lines_of, holds_some, words_of}
use Rattle.script.specs.Plain.{words_in, numbers_in, spaced, plain_line, plain_text, Within, ReadBack}

-- bytes none of which passes
abbrev Free : (ℕ → Bool) → List ℕ → Type 0
Free p bs = AllByRecursion (λ b. p b ≡ false) bs

first_at_end : (p : ℕ → Bool) (bs : List ℕ) → Free p bs → position_or_len p bs ≡ length bs
first_at_end p [] h = refl
first_at_end p (b ∷ bs) h = let e = ap (λ t. cond (not t) (1 + position_or_len p bs) 0) h.0 in omega (arith, e, first_at_end p bs h.1)

before_free : (p : ℕ → Bool) (bs : List ℕ) → Free p bs → before_first p bs ≡ bs
before_free p bs h = take_all (position_or_len p bs) bs (omega (arith, first_at_end p bs h))

-- a piece ends at the first byte that passes
piece_ends : (p : ℕ → Bool) (piece : List ℕ) (b : ℕ) (bs : List ℕ) → Free p piece → p b ≡ true → slice_split p (piece ++ b ∷ bs) ≡ piece ∷ slice_split p bs
piece_ends p piece b bs h e = slice_split_at p piece b bs (All-from_recursion (λ b. p b ≡ false) piece h) e

-- every byte that parts a text stands below the digits and the letters
abbrev Low : (ℕ → Bool) → Type 0
Low p = (b : ℕ) → 48 ≤ b → p b ≡ false

low_line_feed : Low (λ b. b == 10)
low_line_feed b h = ne_eqb b 10 (λ e. omega arith)

low_comment : Low (λ b. b == 35)
low_comment b h = ne_eqb b 35 (λ e. omega arith)

low_space : Low is_space
low_space b h = or_from _ _ (ne_eqb b 32 (λ e. omega arith)) (or_from _ _ (ne_eqb b 9 (λ e. omega arith)) (ne_eqb b 13 (λ e. omega arith)))

-- a word that holds no such byte: it is of digits and letters
abbrev Whole : List ℕ → Type 0
Whole w = (0 < length w) × AllByRecursion (λ b. 48 ≤ b) w

free_word : (p : ℕ → Bool) → Low p → (w : List ℕ) → Whole w → Free p w
free_word p low w h = All-weaker _ _ low w h.1

high_digits : (ds : List ℕ) → all_ascii_digits ds ≡ true → AllByRecursion (λ b. 48 ≤ b) ds
high_digits [] h = tt
high_digits (c ∷ cs) h = let p = tells_all_ascii_digits.parts c cs h in (p.0.0, high_digits cs p.1)

numbers_decimal : (ns : List ℕ) → AllByRecursion (λ n. n ≤ largest) ns → numbers_of (map decimal ns) ≡ Some ns
numbers_decimal [] h = refl
numbers_decimal (n ∷ ns) h = ap (λ o. both o (numbers_of (map decimal ns))) (number_decimal largest n h.0 (omega (arith, h.0))) ∙ ap (both (Some n)) (numbers_decimal ns h.1)

whole_decimals : (ns : List ℕ) → AllByRecursion (λ n. n ≤ largest) ns → AllByRecursion Whole (map decimal ns)
whole_decimals [] h = tt
whole_decimals (n ∷ ns) h =
    let small : n < 2 ^ 64 = omega (arith, h.0) in
    ((decimal_nonempty n small, high_digits (decimal n) (digits_decimal own n small)), whole_decimals ns h.1)

whole_words : (s : Said) → AllByRecursion (λ n. n ≤ largest) (numbers_in s) → AllByRecursion Whole (words_in s)
whole_words (table n ns) h = (search rules, whole_decimals (n ∷ ns) h)
whole_words (root ns) h = (search rules, whole_decimals ns h)
whole_words (total line amount) h = (search rules, whole_decimals (line ∷ amount ∷ []) h)
whole_words price_standard h = search rules

some_first : (w : List ℕ) (ws : List (List ℕ)) → 0 < length w → filter holds_some (w ∷ ws) ≡ w ∷ filter holds_some ws
some_first w ws h = cond-true _ _ _ (ap not (ne_eqb (length w) 0 (λ e. omega (arith, h))))

words_spaced : (ws : List (List ℕ)) → AllByRecursion Whole ws → words_of (spaced ws) ≡ ws
words_spaced [] h = refl
words_spaced (w ∷ []) h =
    ap (filter holds_some) (slice_split_none is_space w (All-from_recursion (λ b. is_space b ≡ false) w (free_word is_space low_space w h.0)))
    ∙ some_first w [] h.0.0
words_spaced (w ∷ v ∷ ws) h =
    ap (filter holds_some) (piece_ends is_space w 32 (spaced (v ∷ ws)) (free_word is_space low_space w h.0) refl) ∙ some_first w (slice_split is_space (spaced (v ∷ ws))) h.0.0
    ∙ ap (λ l. w ∷ l) (words_spaced (v ∷ ws) h.1)

free_spaced : (p : ℕ → Bool) → Low p → p 32 ≡ false → (ws : List (List ℕ)) → AllByRecursion Whole ws → Free p (spaced ws)
free_spaced p low e [] h = tt
free_spaced p low e (w ∷ []) h = free_word p low w h.0
free_spaced p low e (w ∷ v ∷ ws) h = All-append _ w (32 ∷ spaced (v ∷ ws)) (free_word p low w h.0) (e, free_spaced p low e (v ∷ ws) h.1)

statement_back : (k : ℕ) (rest : Told) (s : Said) → AllByRecursion (λ n. n ≤ largest) (numbers_in s) → line_above k (words_in s) rest ≡ above k (Ok s) rest
statement_back k rest (table n ns) h = ap (λ o. above k (table_of o) rest) (numbers_decimal (n ∷ ns) h)
statement_back k rest (root ns) h = ap (λ o. above k (root_of o) rest) (numbers_decimal ns h)
statement_back k rest (total line amount) h = ap (λ o. above k (total_of o) rest) (numbers_decimal (line ∷ amount ∷ []) h)
statement_back k rest price_standard h = refl

lines_back : (k : ℕ) (ss : List Said) → Within ss → lines_from k (lines_of (plain_text ss)) ≡ Ok ss
lines_back k [] h = refl
lines_back k (s ∷ ss) h =
    let whole = whole_words s h.0 in
    let content = ap words_of (before_free (λ b. b == 35) (plain_line s) (free_spaced (λ b. b == 35) low_comment refl (words_in s) whole)) ∙ words_spaced (words_in s) whole in
    ap (lines_from k) (piece_ends (λ b. b == 10) (plain_line s) 10 (plain_text ss) (free_spaced (λ b. b == 10) low_line_feed refl (words_in s) whole) refl)
    ∙ ap (λ ws. line_above k ws (lines_from (k + 1) (lines_of (plain_text ss)))) content
    ∙ statement_back k _ s h.0
    ∙ ap (above k (Ok s)) (lines_back (k + 1) ss h.1)

pub read_back : (text : List ℕ) (r : Result (Vec Statement Global) Fault) → Parsed text r → ReadBack text r
read_back text (Ok v) p = λ ss h e. let m = sym p ∙ ap meaning e ∙ lines_back 1 ss h in cc
read_back text (Err Memory) p = tt
read_back text (Err (Line n m)) p = λ ss h e. let q = sym p ∙ ap meaning e ∙ lines_back 1 ss h in let z : ◌≡◌ {A = ℕ} 0 1 = cc in omega arith

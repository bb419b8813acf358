-- The first word stands behind the spaces that come first, and ends at the next.
use Rattle.std.proofs.Common.{◌≡◌, ℕ, ◌<◌, ◌-◌, List, [], ◌∷◌, length, take, drop, sym, ap, ◌∙◌, subst, true-eqb, false-eqb, arith}
use Rattle.std.proofs.lemmas.List.{nil_from_length, take_rest}
use Rattle.std.specs.List.{prefix_len, position_or_len}
use Rattle.script.specs.Pieces.{is_space, words_of}
use Rattle.script.proofs.FirstWord.{behind_spaces, word_behind, word_first}
use Rattle.script.proofs.words.WordsIterator.next.Goals as goal

-- what stands behind the spaces that come first
module _ (text : List ℕ) (n : ℕ) (is : n ≡ prefix_len is_space text) where
  left_is : take (length text - n) (drop n text) ≡ drop (prefix_len is_space text) text
  left_is = take_rest text n ∙ ap (λ k. drop k text) is

  same : words_of text ≡ words_of (take (length text - n) (drop n text))
  same = behind_spaces text ∙ ap words_of (sym left_is)

  none : length (take (length text - n) (drop n text)) ≡ 0 → words_of (take (length text - n) (drop n text)) ≡ []
  none empty = ap words_of (nil_from_length _ empty)

  first : (k : ℕ) (word rest : List ℕ) → k ≡ position_or_len is_space (take (length text - n) (drop n text)) → 0 < length (take (length text - n) (drop n text)) → take k (take (length text - n) (drop n text)) ≡ word → drop k (take (length text - n) (drop n text)) ≡ rest → words_of text ≡ word ∷ words_of rest
  first k word rest len some front back =
      let from_word = take (length text - n) (drop n text) in
      let starts : 0 < position_or_len is_space from_word = subst (λ l. 0 < position_or_len is_space l) (sym left_is) (word_behind text (subst (λ l. 0 < length l) left_is some)) in
      same ∙ word_first from_word starts
      ∙ (λ i. take (sym len i) from_word ∷ words_of (drop (sym len i) from_word))
      ∙ (λ i. front i ∷ words_of (back i))

pub returns-then-is_empty-clause-steps : goal.returns-then-is_empty-clause-steps
returns-then-is_empty-clause-steps c =
    let text = c.args.self.now.left.now in
    let is = c.space_len.ensures.value in
    let empty = none text c.space_len.result is (true-eqb _ 0 c.if-is_empty.ensures) in
    (same text c.space_len.result is ∙ empty, empty)

pub returns-clause-steps : goal.returns-clause-steps
returns-clause-steps c =
    let some = false-eqb _ 0 c.if-is_empty.ensures in
    first c.args.self.now.left.now c.space_len.result c.space_len.ensures.value c.word_len.result _ _ c.word_len.ensures.value (omega (arith, some)) (sym c.split_at.ensures.front) (sym c.split_at.ensures.back)

pub returns-clause-goes : goal.returns-clause-goes
returns-clause-goes c =
    let some = false-eqb _ 0 c.if-is_empty.ensures in
    let steps = first c.args.self.now.left.now c.space_len.result c.space_len.ensures.value c.word_len.result _ _ c.word_len.ensures.value (omega (arith, some)) (sym c.split_at.ensures.front) (sym c.split_at.ensures.back) in
    record { on = λ h. (tt, tt, omega (arith, ap length steps)); keeps = tt; rests = λ h. tt }

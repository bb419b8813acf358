-- A text is a notation where its tokens are those of a sketch, and nothing behind it. Assumes nothing.
use Rattle.std.proofs.Common.{◌≡◌, ℕ, List, [], ◌++◌, Some, sym, ap, ◌∙◌, append-nil}
use Rattle.std.proofs.lemmas.Option.{same_Some}
use Rattle.notation.specs.Sketches.{Sketch, Notation, Noted, tokens_of, words_of, most_deep}
use Rattle.notation.specs.Steps.{Read, NoSketch}
use Rattle.notation.specs.Tokens.{tokens}
use Rattle.notation.specs.declared.token.Token.{Token}
use Rattle.notation.proofs.Prefixes.{one_sketch}

pub one_notation : (text : List ℕ) (s u : Sketch) → Notation text s → Notation text u → u ≡ s
one_notation text s u n m = (one_sketch u s [] [] (ap (λ x. x ++ []) (same_Some _ _ (sym m.written ∙ n.written)))).0

module _ (text : List ℕ) (ts : List Token) (cut : Some ts ≡ tokens text) where
  the_tokens : (s : Sketch) → Notation text s → ts ≡ tokens_of s ++ []
  the_tokens s n = same_Some _ _ (cut ∙ n.written) ∙ sym (append-nil (tokens_of s))

  pub no_branch : NoSketch most_deep ts → (s : Sketch) → Notation text s → ⊥
  no_branch lacks s n = lacks s [] n.shallow (the_tokens s n)

  module _ (before after : List ℕ) (rest : List Token) (got : (s : Sketch) × Read most_deep ts before after rest s) where
    pub some_left : (rest ≡ [] → ⊥) → (s : Sketch) → Notation text s → ⊥
    some_left some s n = some (one_sketch got.0 s rest [] (sym got.1.tokens ∙ the_tokens s n)).1

    pub all_read : before ≡ [] → rest ≡ [] → Noted text after
    all_read fresh empty =
        let whole = got.1.tokens ∙ ap (λ x. tokens_of got.0 ++ x) empty ∙ append-nil (tokens_of got.0) in
        let own : Notation text got.0 = record { written = sym cut ∙ ap Some whole; shallow = got.1.shallow } in
        (got.0, own, got.1.words ∙ ap (λ x. x ++ words_of got.0) fresh, λ u m. one_notation text got.0 u own m)

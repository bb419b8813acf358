-- Which tokens no head is written in. Assumes nothing.
use Rattle.std.proofs.Common.{◌≡◌, ℕ, List, [], ◌∷◌, ◌++◌, map, Some, sym, refl, ap, ◌∙◌, append_assoc, arith}
use Rattle.words.specs.declared.kind.Kind.TheVariants as kinds
use Rattle.words.specs.Words.{word, entry_words, root_kind, entry_kind}
use Rattle.notation.specs.Sketches.{root}
use Rattle.notation.specs.Steps.{NoEntries, Entries, Begins}
use Rattle.notation.specs.Tokens.{clipped}
use Rattle.notation.specs.declared.token.Token.{Token}
use Rattle.notation.specs.declared.token.Token.TheVariants.{Line, Sum, Greater, Root, Number, Open, Close, Comma, EntriesOpen, EntriesClose}

-- a number for each kind of token
abbrev pub rank : Token → ℕ
rank Line = 0
rank Sum = 1
rank Greater = 2
rank Root = 3
rank (Number n) = 4
rank Open = 5
rank Close = 6
rank Comma = 7
rank EntriesOpen = 8
rank EntriesClose = 9

abbrev pub first_rank : List Token → ℕ
first_rank [] = 10
first_rank (t ∷ ts) = rank t

pub rest_same : (t u : Token) (ts us : List Token) → t ∷ ts ≡ u ∷ us → ts ≡ us
rest_same t u ts us e = cc

pub first_same : (t u : Token) (ts us : List Token) → t ∷ ts ≡ u ∷ us → t ≡ u
first_same t u ts us e = cc

-- one entry more
pub entries_behind : (ts rest : List Token) (n : ℕ) → ts ≡ Number n ∷ rest → NoEntries rest → NoEntries ts
entries_behind ts rest n is none [] r e = omega (arith, ap first_rank (sym is ∙ e))
entries_behind ts rest n is none (d ∷ ds) r e = none ds r (rest_same _ _ _ _ (sym is ∙ e))

-- neither an entry nor the end of the entries
pub no_entries : (ts : List Token) → ((n : ℕ) (r : List Token) → ts ≡ Number n ∷ r → ⊥) → ((r : List Token) → ts ≡ EntriesClose ∷ Open ∷ r → ⊥) → NoEntries ts
no_entries ts not-number not-close [] r e = not-close r e
no_entries ts not-number not-close (d ∷ ds) r e = not-number d _ e

pub entry_more : (ts left rest : List Token) (before now more : List ℕ) (es : List ℕ) (n : ℕ)
    → ts ≡ map Number es ++ left → left ≡ Number n ∷ rest → now ≡ before ++ entry_words (map clipped es) → more ≡ now ++ word entry_kind (clipped n) ∷ []
    → (ts ≡ map Number (es ++ n ∷ []) ++ rest) × (more ≡ before ++ entry_words (map clipped (es ++ n ∷ [])))
entry_more ts left rest before now more es n is at so pushed =
    (is ∙ ap (λ x. map Number es ++ x) at ∙ sym (tokens_on es), pushed ∙ ap (λ x. x ++ word entry_kind (clipped n) ∷ []) so ∙ append_assoc before (entry_words (map clipped es)) _ ∙ ap (λ x. before ++ x) (sym (words_on es)))
  where
    tokens_on : (ds : List ℕ) → map Number (ds ++ n ∷ []) ++ rest ≡ map Number ds ++ Number n ∷ rest
    tokens_on [] = refl
    tokens_on (d ∷ ds) = ap (λ x. Number d ∷ x) (tokens_on ds)

    words_on : (ds : List ℕ) → entry_words (map clipped (ds ++ n ∷ [])) ≡ entry_words (map clipped ds) ++ word entry_kind (clipped n) ∷ []
    words_on [] = refl
    words_on (d ∷ ds) = ap (λ x. word entry_kind (clipped d) ∷ x) (words_on ds)

-- the entries end, but no `(` stands behind them
pub no_open : (left rest : List Token) → left ≡ EntriesClose ∷ rest → ((r : List Token) → rest ≡ Open ∷ r → ⊥) → NoEntries left
no_open left rest at lacks = no_entries left (λ n r e. omega (arith, ap first_rank (sym at ∙ e))) (λ r e. lacks r (rest_same _ _ _ _ (sym at ∙ e)))

pub root_begun : (ts listed rest : List Token) (before pushed after es : List ℕ) → ts ≡ EntriesOpen ∷ listed → pushed ≡ before ++ word root_kind 0 ∷ []
    → Entries listed pushed after rest es → Begins (Some kinds.Root) (Root ∷ ts) before after rest
root_begun ts listed rest before pushed after es is own got = (
  root es,
  refl,
  ap (λ x. Root ∷ x) (is ∙ ap (λ x. EntriesOpen ∷ x) (got.tokens ∙ sym (append_assoc (map Number es) (EntriesClose ∷ Open ∷ []) rest))),
  got.words ∙ ap (λ x. x ++ entry_words (map clipped es)) own ∙ append_assoc before (word root_kind 0 ∷ []) (entry_words (map clipped es)),
)

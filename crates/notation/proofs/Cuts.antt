-- Tokens that were cut, before those that are still to come. Assumes nothing.
use Rattle.std.proofs.Common.{◌≡◌, ℕ, max, false, List, [], ◌∷◌, ◌++◌, take, drop, Some, None, Option, sym, refl, ap, ◌∙◌, append_assoc}
use Rattle.std.specs.Option.{option_map}
use Rattle.notation.specs.Pieces.{is_space_byte, run}
use Rattle.notation.specs.Tokens.{token_of_piece, before, tokens_in, tokens}
use Rattle.notation.specs.declared.token.Token.{Token}
use Rattle.notation.proofs.Runs.{parted}

abbrev behind : List Token → Option (List Token) → Option (List Token)
behind ts o = option_map (λ us. ts ++ us) o

behind_more : (ts : List Token) (t : Token) (o : Option (List Token)) → behind ts (before (Some t) o) ≡ behind (ts ++ t ∷ []) o
behind_more ts t None = refl
behind_more ts t (Some us) = ap Some (sym (append_assoc ts (t ∷ []) us))

module _ (text : List ℕ) (ts : List Token) (xs : List ℕ) (inv : behind ts (tokens xs) ≡ tokens text) where
  module _ (b : ℕ) (bs : List ℕ) (is : xs ≡ b ∷ bs) where
    module _ (n : ℕ) (p rest : List ℕ) (e : false ≡ is_space_byte b) (at : n ≡ max (run xs) 1) (front : p ≡ take n xs) (back : rest ≡ drop n xs) where
      piece_cut : tokens xs ≡ before (token_of_piece p) (tokens rest)
      piece_cut =
          ap tokens_in (parted xs b bs n is (sym e) at)
          ∙ ap (λ q. before (token_of_piece q) (tokens (drop n xs))) (sym front) ∙ ap (λ q. before (token_of_piece p) (tokens q)) (sym back)

      pub token_cut : (t : Token) (us : List Token) → us ≡ ts ++ t ∷ [] → Some t ≡ token_of_piece p → behind us (tokens rest) ≡ tokens text
      token_cut t us pushed read =
          ap (λ l. behind l (tokens rest)) pushed ∙ sym (behind_more ts t (tokens rest))
          ∙ ap (λ o. behind ts (before o (tokens rest))) read ∙ ap (behind ts) (sym piece_cut) ∙ inv

      pub no_token_cut : None ≡ token_of_piece p → None ≡ tokens text
      no_token_cut read = ap (λ o. behind ts (before o (tokens rest))) read ∙ ap (behind ts) (sym piece_cut) ∙ inv

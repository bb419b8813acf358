-- Numbers that are written one behind the other. Assumes nothing.
use Rattle.std.proofs.Common.{◌≡◌, ℕ, ◌+◌, ◌%◌, ◌<◌, List, [], ◌∷◌, ◌++◌, length, get_or, take, decimal, sym, refl, ap, ◌∙◌, append_assoc}
use Rattle.std.proofs.lemmas.List.{take_more}
use Rattle.words.specs.Items.{values}
use Rattle.words.specs.Words.{value_room}
use Rattle.notation.specs.Plain.{spaced}
use Rattle.notation.specs.Spaced.{spaced_by}

module _ (w : ℕ → List ℕ) where
  put : (y : ℕ) (ys : List ℕ) (x : ℕ) → spaced_by w ((y ∷ ys) ++ x ∷ []) ≡ spaced_by w (y ∷ ys) ++ 32 ∷ w x
  put y [] x = refl
  put y (z ∷ zs) x = ap (λ t. w y ++ 32 ∷ t) (put z zs x) ∙ sym (append_assoc (w y) (32 ∷ spaced_by w (z ∷ zs)) (32 ∷ w x))

  -- one number more, behind a space
  pub put_next : (start : List ℕ) (y : ℕ) (ys : List ℕ) (i : ℕ) (now end : List ℕ) → i < length ys → now ≡ start ++ spaced_by w (y ∷ take i ys) → end ≡ now ++ 32 ∷ w (get_or ys i 0)
      → end ≡ start ++ spaced_by w (y ∷ take (i + 1) ys)
  put_next start y ys i now end l so pushed =
      pushed ∙ ap (λ t. t ++ 32 ∷ w (get_or ys i 0)) so ∙ append_assoc start (spaced_by w (y ∷ take i ys)) (32 ∷ w (get_or ys i 0))
      ∙ ap (λ t. start ++ t) (sym (put y (take i ys) (get_or ys i 0)) ∙ ap (λ t. spaced_by w (y ∷ t)) (sym (take_more ys i 0 l)))

-- the values of words
pub spaced_values : (ws : List ℕ) → spaced_by (λ v. decimal (v % value_room)) ws ≡ spaced (values ws)
spaced_values [] = refl
spaced_values (v ∷ []) = refl
spaced_values (v ∷ u ∷ ws) = ap (λ t. decimal (v % value_room) ++ 32 ∷ t) (spaced_values (u ∷ ws))

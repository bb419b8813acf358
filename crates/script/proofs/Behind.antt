-- Numbers that were read, before those that are still to come.
use Rattle.std.proofs.Common.{◌≡◌, ℕ, List, [], ◌∷◌, ◌++◌, Some, None, Ok, Err, Option, Result, subst, sym, refl, ap, ◌∙◌, append_assoc, append-nil, arith}
use Rattle.std.specs.Option.{option_map, ok_or}
use Rattle.std.specs.Result.{IsErrAnd}
use Rattle.script.specs.Meaning.{Reads}
use Rattle.script.specs.declared.Unread.{Unread}
use Rattle.script.specs.declared.Unread.TheVariants as unread
use Rattle.script.specs.Numbers.{number_of, both, numbers_of}
use Rattle.script.specs.declared.Misread.{Misread}

-- xs, and behind them ns, where these are numbers
abbrev pub behind : List ℕ → Option (List ℕ) → Option (List ℕ)
behind xs ns = option_map (λ ys. xs ++ ys) ns

behind_more : (xs : List ℕ) (n : ℕ) (ns : Option (List ℕ)) → behind xs (both (Some n) ns) ≡ behind (xs ++ n ∷ []) ns
behind_more xs n None = refl
behind_more xs n (Some ns) = ap Some (sym (append_assoc xs (n ∷ []) ns))

-- one word read, and those behind it
module _ (before after : List (List ℕ)) (w : List ℕ) (next : before ≡ w ∷ after) where
  pub one_read : (xs ys : List ℕ) (n : ℕ) (all : Option (List ℕ)) → ys ≡ xs ++ n ∷ [] → Some n ≡ number_of w → behind xs (numbers_of before) ≡ all → behind ys (numbers_of after) ≡ all
  one_read xs ys n all pushed read inv =
      ap (λ l. behind l (numbers_of after)) pushed ∙ sym (behind_more xs n (numbers_of after)) ∙ ap (λ o. behind xs (both o (numbers_of after))) read
      ∙ ap (λ ws. behind xs (numbers_of ws)) (sym next) ∙ inv

  pub none_read : (xs : List ℕ) (all : Option (List ℕ)) → None ≡ number_of w → behind xs (numbers_of before) ≡ all → None ≡ all
  none_read xs all read inv = ap (λ o. behind xs (both o (numbers_of after))) read ∙ ap (λ ws. behind xs (numbers_of ws)) (sym next) ∙ inv

pub all_read : (ws : List (List ℕ)) (xs : List ℕ) (all : Option (List ℕ)) → ws ≡ [] → behind xs (numbers_of ws) ≡ all → Some xs ≡ all
all_read ws xs all none inv = ap Some (sym (append-nil xs)) ∙ ap (λ ws. behind xs (numbers_of ws)) (sym none) ∙ inv

-- what `ok_or` gave was made of this
pub some_from_ok : (o : Option ℕ) (e : Misread) (n : ℕ) → Ok n ≡ ok_or o e → Some n ≡ o
some_from_ok None e n is = let z : ◌≡◌ {A = ℕ} 0 1 = cc in absurd (omega arith)
some_from_ok (Some m) e n is = let k : n ≡ m = cc in ap Some k

pub none_from_err : (o : Option ℕ) (e m : Misread) → Err m ≡ ok_or o e → (None ≡ o) × (m ≡ e)
none_from_err None e m is = let k : m ≡ e = cc in (refl, k)
none_from_err (Some n) e m is = let z : ◌≡◌ {A = ℕ} 0 1 = cc in absurd (omega arith)

-- a misreading is handed on
pub handed_on : {A B : Type 0} (v : A → B) (told : Result B Misread) (r : Result A Unread) (m : Misread) → IsErrAnd r (λ u. u ≡ unread.Misread m) → told ≡ Err m → Reads v told r
handed_on v told (Ok x) m k e = absurd k
handed_on v told (Err u) m k e = subst (λ u. Reads v told (Err u)) (sym k) e

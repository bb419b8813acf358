-- The content ends at the first `#`, or with the line.
use Rattle.std.proofs.Common.{◌≡◌, ℕ, ◌==◌, Bool, true, false, cond, not, List, length, take, Some, None, Option, refl, ap, ◌∙◌, rules, tests, ltb, arith}
use Rattle.std.proofs.lemmas.Iterator.{YieldsList-from_slice}
use Rattle.std.proofs.lemmas.Iterator.Search.{position_from_yields_List}
use Rattle.std.proofs.lemmas.List.Sums.{prefix_len-le-length}
use Rattle.std.proofs.lemmas.Bool.{ltb-false}
use Rattle.std.specs.List.{position_or_len, before_first}
use Rattle.std.specs.Option.{unwrap_or}
use Rattle.script.proofs.words.content.Goals as goal

-- where no byte passes, the first that does is at the end
ends : (p : ℕ → Bool) (xs : List ℕ) (o : Option ℕ) → o ≡ cond (ltb (position_or_len p xs) (length xs)) (Some (position_or_len p xs)) None → take (unwrap_or o (length xs)) xs ≡ before_first p xs
ends p xs o at = ap (λ o. take (unwrap_or o (length xs)) xs) at ∙ by_test (ltb (position_or_len p xs) (length xs)) refl
  where
    by_test : (t : Bool) → ltb (position_or_len p xs) (length xs) ≡ t → take (unwrap_or (cond t (Some (position_or_len p xs)) None) (length xs)) xs ≡ before_first p xs
    by_test true e = refl
    by_test false e = let same : length xs ≡ position_or_len p xs = omega (arith, ltb-false _ _ e, prefix_len-le-length (λ x. not (p x)) xs) in ap (λ n. take n xs) same

pub returns : goal.returns
returns c =
    let at = position_from_yields_List (λ b. b == 35) _ _ c.position.result c.position.ensures.ran (YieldsList-from_slice c.args.line.now c.iter.ensures.rest) (λ x b q k. search (rules, tests)) in
    ap (λ n. take n c.args.line.now) c.unwrap_or-end.ensures ∙ ends (λ b. b == 35) c.args.line.now c.position.result at

-- No sketch is written in the beginning of another's tokens. Assumes nothing.
use Rattle.std.proofs.Common.{◌≡◌, ℕ, List, [], ◌∷◌, ◌++◌, map, sym, refl, ap, ◌∙◌, append_assoc, arith}
use Rattle.notation.specs.Sketches.{Over, Sketch, Sketches, sum, greater, root, line, over, none, more, over_tokens, tokens_of, tokens_of_all, behind}
use Rattle.notation.specs.declared.token.Token.{Token}
use Rattle.notation.specs.declared.token.Token.TheVariants.{Line, Number, Open, Close, EntriesClose}
use Rattle.notation.proofs.Heads.{first_rank, rest_same}

same_number : (m n : ℕ) (ts us : List Token) → Number m ∷ ts ≡ Number n ∷ us → m ≡ n
same_number m n ts us e = cc

one_entries : (es ds : List ℕ) (r q : List Token) → map Number es ++ EntriesClose ∷ r ≡ map Number ds ++ EntriesClose ∷ q → (es ≡ ds) × (r ≡ q)
one_entries [] [] r q e = (refl, rest_same _ _ _ _ e)
one_entries [] (d ∷ ds) r q e = absurd (omega (arith, ap first_rank e))
one_entries (n ∷ es) [] r q e = absurd (omega (arith, ap first_rank e))
one_entries (n ∷ es) (d ∷ ds) r q e =
    let m = same_number _ _ _ _ e in
    let p = one_entries es ds r q (rest_same _ _ _ _ e) in
    ((λ i. m i ∷ p.0 i), p.1)

rests : (t u v w : Token) (ts us : List Token) → t ∷ v ∷ ts ≡ u ∷ w ∷ us → ts ≡ us
rests t u v w ts us e = cc

pub one_over : (o p : Over) (r q : List Token) → over_tokens o ++ r ≡ over_tokens p ++ q → (o ≡ p) × (r ≡ q)
one_over sum sum r q e = (refl, rests _ _ _ _ _ _ e)
one_over sum greater r q e = absurd (omega (arith, ap first_rank e))
one_over sum (root ds) r q e = absurd (omega (arith, ap first_rank e))
one_over greater sum r q e = absurd (omega (arith, ap first_rank e))
one_over greater greater r q e = (refl, rests _ _ _ _ _ _ e)
one_over greater (root ds) r q e = absurd (omega (arith, ap first_rank e))
one_over (root es) sum r q e = absurd (omega (arith, ap first_rank e))
one_over (root es) greater r q e = absurd (omega (arith, ap first_rank e))
one_over (root es) (root ds) r q e =
    let p = one_entries es ds (Open ∷ r) (Open ∷ q) (sym (append_assoc (map Number es) _ r) ∙ rests _ _ _ _ _ _ e ∙ append_assoc (map Number ds) _ q) in
    (ap root p.0, rest_same _ _ _ _ p.1)

-- a line and what stands over a list begin with different tokens
pub line_or_over : (n : ℕ) (o : Over) (r q : List Token) → Line ∷ Number n ∷ r ≡ over_tokens o ++ q → ⊥
line_or_over n sum r q e = omega (arith, ap first_rank e)
line_or_over n greater r q e = omega (arith, ap first_rank e)
line_or_over n (root es) r q e = omega (arith, ap first_rank e)

-- no sketch begins with `)`
pub close_first : (s : Sketch) (r q : List Token) → Close ∷ r ≡ tokens_of s ++ q → ⊥
close_first (line n) r q e = omega (arith, ap first_rank e)
close_first (over sum f) r q e = omega (arith, ap first_rank e)
close_first (over greater f) r q e = omega (arith, ap first_rank e)
close_first (over (root es) f) r q e = omega (arith, ap first_rank e)

mutual
  pub one_sketch : (s u : Sketch) (r q : List Token) → tokens_of s ++ r ≡ tokens_of u ++ q → (s ≡ u) × (r ≡ q)
  one_sketch (line m) (line n) r q e = (ap line (same_number _ _ _ _ (rest_same _ _ _ _ e)), rests _ _ _ _ _ _ e)
  one_sketch (line m) (over p g) r q e = absurd (line_or_over m p r (tokens_of_all g ++ q) (e ∙ append_assoc (over_tokens p) (tokens_of_all g) q))
  one_sketch (over o f) (line n) r q e = absurd (line_or_over n o q (tokens_of_all f ++ r) (sym e ∙ append_assoc (over_tokens o) (tokens_of_all f) r))
  one_sketch (over o f) (over p g) r q e =
      let heads = one_over o p (tokens_of_all f ++ r) (tokens_of_all g ++ q) (sym (append_assoc (over_tokens o) _ r) ∙ e ∙ append_assoc (over_tokens p) _ q) in
      let lists = one_list f g r q heads.1 in
      ((λ i. over (heads.0 i) (lists.0 i)), lists.1)

  pub one_list : (f g : Sketches) (r q : List Token) → tokens_of_all f ++ r ≡ tokens_of_all g ++ q → (f ≡ g) × (r ≡ q)
  one_list none none r q e = (refl, rest_same _ _ _ _ e)
  one_list none (more u g) r q e = absurd (close_first u r (behind g ++ q) (e ∙ append_assoc (tokens_of u) (behind g) q))
  one_list (more s f) none r q e = absurd (close_first s q (behind f ++ r) (sym e ∙ append_assoc (tokens_of s) (behind f) r))
  one_list (more s f) (more u g) r q e =
      let first = one_sketch s u (behind f ++ r) (behind g ++ q) (sym (append_assoc (tokens_of s) _ r) ∙ e ∙ append_assoc (tokens_of u) _ q) in
      let others = one_behind f g r q first.1 in
      ((λ i. more (first.0 i) (others.0 i)), others.1)

  pub one_behind : (f g : Sketches) (r q : List Token) → behind f ++ r ≡ behind g ++ q → (f ≡ g) × (r ≡ q)
  one_behind none none r q e = (refl, rest_same _ _ _ _ e)
  one_behind none (more u g) r q e = absurd (omega (arith, ap first_rank e))
  one_behind (more s f) none r q e = absurd (omega (arith, ap first_rank e))
  one_behind (more s f) (more u g) r q e =
      let first = one_sketch s u (behind f ++ r) (behind g ++ q) (sym (append_assoc (tokens_of s) _ r) ∙ rest_same _ _ _ _ e ∙ append_assoc (tokens_of u) _ q) in
      let others = one_behind f g r q first.1 in
      ((λ i. more (first.0 i) (others.0 i)), others.1)

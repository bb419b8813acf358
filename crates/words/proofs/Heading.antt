-- Words begin with one head at most, and a tree has one. Assumes nothing.
use Rattle.std.proofs.Common.{◌≡◌, ℕ, suc, List, [], ◌∷◌, ◌++◌, length, get_or, sym, refl, ap, ◌∙◌, append_assoc, append-nil, arith}
use mathlib.Core.List.{tail}
use Rattle.correlation.proofs.Places.{place_onto, entry_above}
use Rattle.correlation.specs.Tables.{LawfulAbove, above_count}
use Rattle.modules.specs.Trees as trees
use Rattle.modules.specs.Trees.{Tree, Forest, line, greater, root, choice, none, more, branch_count}
use Rattle.words.specs.Grammar.{Branch, Branches}
use Rattle.words.specs.Heads.{Head, of_line, of_sum, of_greater, of_root, head_words, due, Entered, HeadInRange, HeadLawful, HeadOf, Opens}
use Rattle.words.specs.Words.{entry_words}

first : {xs ys : List ℕ} → xs ≡ ys → get_or xs 0 0 ≡ get_or ys 0 0
first e = ap (λ l. get_or l 0 0) e

pub rest_of : {x y : ℕ} {xs ys : List ℕ} → x ∷ xs ≡ y ∷ ys → xs ≡ ys
rest_of e = ap tail e

-- as many entries on both sides are the same entries
pub entries_unique : (es fs x y : List ℕ) → length es ≡ length fs → entry_words es ++ x ≡ entry_words fs ++ y → (es ≡ fs) × (x ≡ y)
entries_unique [] [] x y l e = (refl, e)
entries_unique [] (f ∷ fs) x y l e = absurd (omega arith)
entries_unique (e ∷ es) [] x y l e' = absurd (omega arith)
entries_unique (e ∷ es) (f ∷ fs) x y l e' =
    let behind = entries_unique es fs x y (omega arith) (rest_of e') in
    let same : e ≡ f = omega (arith, first e') in
    ((λ t. same t ∷ behind.0 t), behind.1)

pub head_unique : (h k : Head) (x y : List ℕ) → HeadInRange h → HeadInRange k → head_words h ++ x ≡ head_words k ++ y → (h ≡ k) × (x ≡ y)
head_unique (of_line n) (of_line m) x y p q e = (ap of_line (omega (arith, first e)), rest_of e)
head_unique (of_line n) (of_sum m) x y p q e = absurd (omega (arith, first e))
head_unique (of_line n) of_greater x y p q e = absurd (omega (arith, first e))
head_unique (of_line n) (of_root m fs) x y p q e = absurd (omega (arith, first e))
head_unique (of_sum n) (of_line m) x y p q e = absurd (omega (arith, first e))
head_unique (of_sum n) (of_sum m) x y p q e = (ap of_sum (omega (arith, first e)), rest_of e)
head_unique (of_sum n) of_greater x y p q e = absurd (omega (arith, first e))
head_unique (of_sum n) (of_root m fs) x y p q e = absurd (omega (arith, first e))
head_unique of_greater (of_line m) x y p q e = absurd (omega (arith, first e))
head_unique of_greater (of_sum m) x y p q e = absurd (omega (arith, first e))
head_unique of_greater of_greater x y p q e = (refl, rest_of e)
head_unique of_greater (of_root m fs) x y p q e = absurd (omega (arith, first e))
head_unique (of_root n es) (of_line m) x y p q e = absurd (omega (arith, first e))
head_unique (of_root n es) (of_sum m) x y p q e = absurd (omega (arith, first e))
head_unique (of_root n es) of_greater x y p q e = absurd (omega (arith, first e))
head_unique (of_root n es) (of_root m fs) x y p q e =
    let same : n ≡ m = omega (arith, first e) in
    let behind = entries_unique es fs x y (p.2.count ∙ ap above_count same ∙ sym q.2.count) (rest_of e) in
    ((λ t. of_root (same t) (behind.0 t)), behind.1)

-- the entries of a lawful table are so many, in range
pub lawful_entered : (n : ℕ) (above : List ℕ) → LawfulAbove n above → Entered (above_count n) above
lawful_entered n above law = record {
  count = law.count;
  in_range = λ k l.
      let p = place_onto n k l in
      let here = ap (λ x. get_or above x 0) p.4 in
      omega (arith, here, entry_above n above p.0 p.1 p.2, law.lawful.range p.0 p.1 (omega (arith, p.2, p.3), p.3));
}

-- the words of a tree begin with its head, and go on with its branches
pub record Headed (t : Tree) (depth : ℕ) (ws : List ℕ) : Type 0 where
  pub head : Head
  pub forest : Forest
  pub rest : List ℕ
  pub of : HeadOf t head forest
  pub opens : Opens depth ws head rest
  pub lawful : HeadLawful head
  pub branches : Branches forest (suc depth) rest
  pub count : branch_count forest ≡ due head

pub headed : (t : Tree) (depth : ℕ) (ws : List ℕ) → Branch t depth ws → Headed t depth ws
headed (line n) depth ws b = record {
  head = of_line n;
  forest = none;
  rest = [];
  of = (refl, refl);
  opens = record { shallow = b.0; words = b.2; in_range = b.1 };
  lawful = tt;
  branches = refl;
  count = refl;
}
headed (trees.sum f) depth ws b = record {
  head = of_sum (branch_count f);
  forest = f;
  rest = b.2;
  of = (refl, refl);
  opens = record { shallow = b.0; words = b.3; in_range = b.1 };
  lawful = tt;
  branches = b.4;
  count = refl;
}
headed (greater t u) depth ws b = record {
  head = of_greater;
  forest = more t (more u none);
  rest = b.1 ++ b.2;
  of = (refl, refl);
  opens = record { shallow = b.0; words = b.3; in_range = tt };
  lawful = tt;
  branches = (b.1, b.2, refl, b.4, (b.2, [], sym (append-nil b.2), b.5, refl));
  count = refl;
}
headed (root above f) depth ws b = record {
  head = of_root (branch_count f) above;
  forest = f;
  rest = b.2;
  of = (refl, refl);
  opens = record { shallow = b.0; words = b.3; in_range = (b.1.lawful.branches.0, b.1.lawful.branches.1, lawful_entered _ above b.1) };
  lawful = b.1;
  branches = b.4;
  count = refl;
}
headed (choice x y t u) depth ws b = absurd b

-- the same words with more behind them
pub opens_more : {depth : ℕ} {bs : List ℕ} {h : Head} {rest : List ℕ} (ws cs : List ℕ) → Opens depth bs h rest → ws ≡ bs ++ cs → Opens depth ws h (rest ++ cs)
opens_more {h = h} {rest = rest} ws cs o e = record {
  shallow = o.shallow;
  words = e ∙ ap (λ x. x ++ cs) o.words ∙ append_assoc (head_words h) rest cs;
  in_range = o.in_range;
}

pub opens_unique : {d c : ℕ} {ws : List ℕ} {h k : Head} {x y : List ℕ} → Opens d ws h x → Opens c ws k y → (h ≡ k) × (x ≡ y)
opens_unique {h = h} {k = k} {x = x} {y = y} o p = head_unique h k x y o.in_range p.in_range (sym o.words ∙ p.words)

-- Words are one tree at most, and say where it ends. Assumes nothing.
use Rattle.std.proofs.Common.{◌≡◌, ℕ, suc, ◌≤◌, List, [], ◌∷◌, ◌++◌, sym, refl, ap, ◌∙◌, subst, append_assoc, arith}
use Rattle.modules.specs.Trees as trees
use Rattle.modules.specs.Trees.{Tree, Forest, line, greater, root, choice, none, more, branch_count}
use Rattle.words.specs.Grammar.{Branch, Branches, OneReading}
use Rattle.words.specs.Heads.{Head, of_line, of_sum, of_greater, of_root, head_words, due, HeadOf}
use Rattle.words.specs.Words.{word, entry_words, sum_kind, greater_kind, root_kind}
use Rattle.words.proofs.Heading.{headed, opens_more, opens_unique}

-- the tree of a head and of the branches behind it
first_two : Forest → Tree
first_two none = line 0
first_two (more t none) = line 0
first_two (more t (more u f)) = greater t u

rebuilt : Head → Forest → Tree
rebuilt (of_line n) f = line n
rebuilt (of_sum n) f = trees.sum f
rebuilt of_greater f = first_two f
rebuilt (of_root n es) f = root es f

is_rebuilt : (t : Tree) (h : Head) (f : Forest) → HeadOf t h f → t ≡ rebuilt h f
unfolding rebuilt first_two
is_rebuilt (line n) h f o = sym (λ i. rebuilt (o.0 i) (o.1 i))
is_rebuilt (trees.sum g) h f o = sym (λ i. rebuilt (o.0 i) (o.1 i))
is_rebuilt (greater t u) h f o = sym (λ i. rebuilt (o.0 i) (o.1 i))
is_rebuilt (root es g) h f o = sym (λ i. rebuilt (o.0 i) (o.1 i))
is_rebuilt (choice a b t u) h f o = absurd o

-- Whatever tree is read off the same words, it is this one, and ends at the same place.
abbrev Alone : Tree → Type 0
Alone t =
    (u : Tree) (d c : ℕ) (bs cs x y : List ℕ) → Branch t d bs → Branch u c cs → bs ++ x ≡ cs ++ y → (t ≡ u) × (bs ≡ cs) × (x ≡ y)

abbrev AllAlone : Forest → Type 0
AllAlone f =
    (g : Forest) (d c : ℕ) (bs cs x y : List ℕ) → branch_count f ≡ branch_count g → Branches f d bs → Branches g c cs → bs ++ x ≡ cs ++ y
    → (f ≡ g) × (bs ≡ cs) × (x ≡ y)

none_alone : AllAlone none
none_alone none d c bs cs x y n p q e = (refl, p ∙ sym q, ap (λ l. l ++ x) (sym p) ∙ e ∙ ap (λ l. l ++ y) q)
none_alone (more u g) d c bs cs x y n p q e = absurd (omega arith)

more_alone : (t : Tree) (f : Forest) → Alone t → AllAlone f → AllAlone (more t f)
more_alone t f first others none d c bs cs x y n p q e = absurd (omega arith)
more_alone t f first others (more u g) d c bs cs x y n p q e =
    let left : bs ++ x ≡ p.0 ++ (p.1 ++ x) = ap (λ l. l ++ x) p.2 ∙ append_assoc p.0 p.1 x in
    let right : cs ++ y ≡ q.0 ++ (q.1 ++ y) = ap (λ l. l ++ y) q.2 ∙ append_assoc q.0 q.1 y in
    let one = first u d c p.0 q.0 (p.1 ++ x) (q.1 ++ y) p.3 q.3 (sym left ∙ e ∙ right) in
    let rest = others g d c p.1 q.1 x y (omega arith) p.4 q.4 one.2 in
    ((λ i. more (one.0 i) (rest.0 i)), p.2 ∙ (λ i. one.1 i ++ rest.1 i) ∙ sym q.2, rest.2)

-- a tree stands alone if its branches do
alone_from : (t : Tree) → ((f : Forest) (h : Head) → HeadOf t h f → AllAlone f) → Alone t
alone_from t below u d c bs cs x y p q e =
    let one = headed t d bs p in
    let other = headed u c cs q in
    let same = opens_unique (opens_more (bs ++ x) x one.opens refl) (opens_more (bs ++ x) y other.opens e) in
    let counts : branch_count one.forest ≡ branch_count other.forest = one.count ∙ ap due same.0 ∙ sym other.count in
    let rest = below one.forest one.head one.of other.forest (suc d) (suc c) one.rest other.rest x y counts one.branches other.branches same.1 in (
      is_rebuilt t _ _ one.of ∙ (λ i. rebuilt (same.0 i) (rest.0 i)) ∙ sym (is_rebuilt u _ _ other.of),
      one.opens.words ∙ (λ i. head_words (same.0 i) ++ rest.1 i) ∙ sym other.opens.words,
      rest.2,
    )

mutual
  pub alone : (t : Tree) → Alone t
  alone (line n) = alone_from (line n) (λ f h o. subst AllAlone (sym o.1) none_alone)
  alone (trees.sum f) = alone_from (trees.sum f) (λ g h o. subst AllAlone (sym o.1) (all_alone f))
  alone (greater t u) =
      alone_from (greater t u) (λ g h o. subst AllAlone (sym o.1) (more_alone t (more u none) (alone t) (more_alone u none (alone u) none_alone)))
  alone (root es f) = alone_from (root es f) (λ g h o. subst AllAlone (sym o.1) (all_alone f))
  alone (choice a b t u) = λ v d c bs cs x y p q e. absurd p

  pub all_alone : (f : Forest) → AllAlone f
  all_alone none = none_alone
  all_alone (more t f) = more_alone t f (alone t) (all_alone f)

-- a tree is written in one way
mutual
  same_words : (t : Tree) (d c : ℕ) (bs cs : List ℕ) → Branch t d bs → Branch t c cs → bs ≡ cs
  same_words (line n) d c bs cs p q = p.2 ∙ sym q.2
  same_words (trees.sum f) d c bs cs p q =
      p.3 ∙ ap (λ l. word sum_kind (branch_count f) ∷ l) (same_words_all f (suc d) (suc c) p.2 q.2 p.4 q.4) ∙ sym q.3
  same_words (greater t u) d c bs cs p q =
      let one = same_words t (suc d) (suc c) p.1 q.1 p.4 q.4 in
      let two = same_words u (suc d) (suc c) p.2 q.2 p.5 q.5 in
      p.3 ∙ (λ i. word greater_kind 2 ∷ (one i ++ two i)) ∙ sym q.3
  same_words (root above f) d c bs cs p q =
      p.3 ∙ ap (λ l. word root_kind (branch_count f) ∷ (entry_words above ++ l)) (same_words_all f (suc d) (suc c) p.2 q.2 p.4 q.4) ∙ sym q.3
  same_words (choice a b t u) d c bs cs p q = absurd p

  pub same_words_all : (f : Forest) (d c : ℕ) (bs cs : List ℕ) → Branches f d bs → Branches f c cs → bs ≡ cs
  same_words_all none d c bs cs p q = p ∙ sym q
  same_words_all (more t f) d c bs cs p q =
      let one = same_words t d c p.0 q.0 p.3 q.3 in
      let rest = same_words_all f d c p.1 q.1 p.4 q.4 in
      p.2 ∙ (λ i. one i ++ rest i) ∙ sym q.2

-- a branch may stand less deep
mutual
  pub shallower : (t : Tree) (d c : ℕ) (bs : List ℕ) → d ≤ c → Branch t c bs → Branch t d bs
  shallower (line n) d c bs l p = (omega (arith, l, p.0), p.1, p.2)
  shallower (trees.sum f) d c bs l p = (omega (arith, l, p.0), p.1, p.2, p.3, shallower_all f (suc d) (suc c) p.2 (omega arith) p.4)
  shallower (greater t u) d c bs l p =
      (omega (arith, l, p.0), p.1, p.2, p.3, shallower t (suc d) (suc c) p.1 (omega arith) p.4, shallower u (suc d) (suc c) p.2 (omega arith) p.5)
  shallower (root above f) d c bs l p = (omega (arith, l, p.0), p.1, p.2, p.3, shallower_all f (suc d) (suc c) p.2 (omega arith) p.4)
  shallower (choice a b t u) d c bs l p = absurd p

  shallower_all : (f : Forest) (d c : ℕ) (bs : List ℕ) → d ≤ c → Branches f c bs → Branches f d bs
  shallower_all none d c bs l p = p
  shallower_all (more t f) d c bs l p = (p.0, p.1, p.2, shallower t d c p.0 l p.3, shallower_all f d c p.1 l p.4)

-- a tree has one head, and one list of branches behind it
pub one_head : (t : Tree) (h k : Head) (f g : Forest) → HeadOf t h f → HeadOf t k g → (h ≡ k) × (f ≡ g)
one_head (line n) h k f g p q = (p.0 ∙ sym q.0, p.1 ∙ sym q.1)
one_head (trees.sum e) h k f g p q = (p.0 ∙ sym q.0, p.1 ∙ sym q.1)
one_head (greater t u) h k f g p q = (p.0 ∙ sym q.0, p.1 ∙ sym q.1)
one_head (root es e) h k f g p q = (p.0 ∙ sym q.0, p.1 ∙ sym q.1)
one_head (choice a b t u) h k f g p q = absurd p

pub reads_once : OneReading
reads_once = record {
  one_tree = λ ws t u p q. (alone t u 1 1 ws ws [] [] p.1 q.1 refl).0;
  one_writing = λ ws vs t p q. same_words t 1 1 ws vs p.1 q.1;
}

-- A head, with as many branches behind it as are due, is a branch of a tree. Assumes nothing.
use Rattle.std.proofs.Common.{◌≡◌, ℕ, suc, ◌+◌, ◌≤◌, List, [], ◌∷◌, ◌++◌, length, Ok, Err, Result, sym, refl, ap, ◌∙◌, subst, append_assoc, append-nil, add-one, arith, length-append}
use Rattle.correlation.specs.Tables.{LawfulAbove}
use Rattle.modules.specs.Trees as trees
use Rattle.modules.specs.Trees.{Tree, Forest, line, greater, root, choice, none, more, branch_count}
use Rattle.refusals.specs.declared.Refusal.{Refusal}
use Rattle.words.specs.Cursors.{IsBehind}
use Rattle.words.specs.Faults.{Fault, Faults}
use Rattle.words.specs.Grammar.{Branch, Branches}
use Rattle.words.specs.Heads.{Head, of_line, of_sum, of_greater, of_root, head_words, due, HeadInRange, HeadLawful, HeadOf, Opens}
use Rattle.words.specs.Items.{Shows, OwnItem}
use Rattle.words.specs.Steps.{BranchesRead}
use Rattle.words.specs.Words.{word, entry_words, line_kind, sum_kind, greater_kind, root_kind, most_depth}
use Rattle.words.specs.declared.cursor.Cursor.{Cursor}
use Rattle.words.specs.declared.item.Item.{Item}
use Rattle.words.proofs.Heading.{headed}
use Rattle.words.proofs.Parts.{place_behind}

-- the tree of a head and of branches
pub composed : (h : Head) (f : Forest) (depth : ℕ) (bs : List ℕ) → depth ≤ most_depth → HeadInRange h → HeadLawful h → branch_count f ≡ due h → Branches f (suc depth) bs
    → (t : Tree) × HeadOf t h f × Branch t depth (head_words h ++ bs)
composed (of_line n) none depth bs shallow range law count b = (line n, (refl, refl), (shallow, range, ap (λ l. word line_kind n ∷ l) b))
composed (of_line n) (more t f) depth bs shallow range law count b = absurd (omega arith)
composed (of_sum n) f depth bs shallow range law count b =
    (trees.sum f, (ap of_sum (sym count), refl), (shallow, (omega arith, omega arith), bs, ap (λ k. word sum_kind k ∷ bs) (sym count), b))
composed of_greater none depth bs shallow range law count b = absurd (omega arith)
composed of_greater (more t none) depth bs shallow range law count b = absurd (omega arith)
composed of_greater (more t (more u none)) depth bs shallow range law count b =
    let second : b.1 ≡ b.4.0 = b.4.2 ∙ ap (λ l. b.4.0 ++ l) b.4.4 ∙ append-nil b.4.0 in
    (greater t u, (refl, refl), (shallow, b.0, b.4.0, ap (λ l. word greater_kind 2 ∷ l) (b.2 ∙ ap (λ l. b.0 ++ l) second), b.3, b.4.3))
composed of_greater (more t (more u (more v f))) depth bs shallow range law count b = absurd (omega arith)
composed (of_root n es) f depth bs shallow range law count b = (
  root es f,
  (ap (λ k. of_root k es) (sym count), refl),
  (shallow, subst (λ k. LawfulAbove k es) (sym count) law, bs, ap (λ k. word root_kind k ∷ (entry_words es ++ bs)) (sym count), b),
)

-- what reading a head and then its branches makes
pub record Whole (depth : ℕ) (ws : List ℕ) (h : Head) (bs left : List ℕ) : Type 0 where
  pub tree : Tree
  pub own : List ℕ
  pub words : ws ≡ own ++ left
  pub branch : Branch tree depth own
  pub item : (i : Item) → Shows i h (bs ++ []) → OwnItem tree depth [] i

pub whole : {depth : ℕ} {ws rest : List ℕ} {h : Head} → Opens depth ws h rest → HeadLawful h → (f : Forest) (n : ℕ) (bs left : List ℕ) → rest ≡ bs ++ left → branch_count f ≡ n → n ≡ due h → Branches f (depth + 1) bs → Whole depth ws h bs left
whole {depth = depth} {h = h} o law f n bs left e count count' b =
    let deeper = subst (λ d. Branches f d bs) (add-one depth) b in
    let made = composed h f depth bs o.shallow o.in_range law (count ∙ count') deeper in
    record {
      tree = made.0;
      own = head_words h ++ bs;
      words = o.words ∙ ap (λ l. head_words h ++ l) e ∙ sym (append_assoc (head_words h) bs left);
      branch = made.2;
      item = λ i shows. (h, f, bs, made.1, deeper, shows);
    }

-- a head takes a word at least, and so does a branch
pub head_some : (h : Head) → 1 ≤ length (head_words h)
head_some (of_line n) = omega arith
head_some (of_sum n) = omega arith
head_some of_greater = omega arith
head_some (of_root n es) = omega arith

pub branch_some : (t : Tree) (depth : ℕ) (bs : List ℕ) → Branch t depth bs → 1 ≤ length bs
branch_some t depth bs b =
    let own = headed t depth bs b in
    omega (arith, head_some own.head, simp length-append at (ap length own.opens.words))

-- a fault of the branches is one of the branch
pub under_read : {depth : ℕ} {h : Head} {e : Refusal} (n : ℕ) (from behind : Cursor) → Opens depth from.words.now h behind.words.now → IsBehind from behind → HeadLawful h → n ≡ due h
    → Faults n (depth + 1) behind.place behind.words.now e → Fault depth from.place from.words.now e
under_read {depth = depth} {h = h} {e = e} n from behind o next law count faults =
    let at = place_behind from behind (head_words h) o.words next in
    let here = subst (λ p. Faults n (depth + 1) p behind.words.now e) at faults in
    let due_here = subst (λ m. Faults m (depth + 1) (from.place + length (head_words h)) behind.words.now e) count here in
    Fault.under h behind.words.now o law (subst (λ d. Faults (due h) d (from.place + length (head_words h)) behind.words.now e) (add-one depth) due_here)

-- a branch, and then the others
pub more_read : (n m depth : ℕ) (t : Tree) (from rest : Cursor) (bs : List ℕ) (r : Result Cursor Refusal) → n ≡ suc m → from.words.now ≡ bs ++ rest.words.now → IsBehind from rest → Branch t depth bs
    → BranchesRead m depth rest r → BranchesRead n depth from r
more_read n m depth t from rest bs (Ok left) one e next b read =
    let (f, cs, e', count, branches, behind) = read in
    (more t f, bs ++ cs, e ∙ ap (λ l. bs ++ l) e' ∙ sym (append_assoc bs cs left.words.now), omega (arith, count, one), (bs, cs, refl, b, branches), behind ∙ next)
more_read n m depth t from rest bs (Err x) one e next b faults =
    Faults.behind m t bs rest.words.now one e b (subst (λ p. Faults m depth p rest.words.now x) (place_behind from rest bs e next) faults)

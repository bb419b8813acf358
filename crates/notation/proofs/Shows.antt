-- A tree's text is its head's and then its branches', each behind a new line. Assumes nothing.
use Rattle.std.proofs.Common.{◌≡◌, ℕ, suc, ◌+◌, ◌-◌, ◌<◌, ◌≤◌, List, ◌++◌, length, Ok, Err, codes, sym, refl, ap, ◌∙◌, subst, append_assoc, arith, lit≤, length-append, Bor}
use Rattle.modules.specs.Trees as trees
use Rattle.modules.specs.Trees.{Tree, Forest, line, greater, root, choice, none, more, branch_count}
use Rattle.refusals.specs.declared.Refusal.{Refusal}
use Rattle.words.proofs.Heading.{headed, opens_more, opens_unique}
use Rattle.words.proofs.OneFault.{head_sound}
use Rattle.words.proofs.Parts.{entered_values}
use Rattle.words.specs.Grammar.{Branches}
use Rattle.words.specs.Heads.{Head, of_line, of_sum, of_greater, of_root, due, HeadInRange, HeadOf, Opens}
use Rattle.words.specs.Items.{FirstItem, Shows, values}
use Rattle.words.specs.declared.item.Item.{Item}
use Rattle.words.specs.declared.item.Item.TheVariants.{Root}
use Rattle.notation.specs.Plain.{new_line, spaced, tree_text, branches_text}
use Rattle.notation.specs.Shown.{head_text, Headed, HeadWritten, Starts, StartAll, BranchWritten, ListWritten}

-- Heads.
pub never_refused : (ws : List ℕ) (e : Refusal) → Headed ws → FirstItem ws (Err e) → ⊥
never_refused ws e head fault = head_sound head.2 fault

pub root_written : (ws before opening middle after : List ℕ) (item : Item) (n : ℕ) (es bs : Bor (List ℕ)) → item ≡ Root n es bs → FirstItem ws (Ok item)
    → opening ≡ before ++ codes "root[" → middle ≡ opening ++ spaced (values es.now) → after ≡ middle ++ codes "](" → HeadWritten ws before after n bs.now
root_written ws before opening middle after item n es bs is (h, r, o, shown) opened listed closed =
    let shows = subst (λ x. Shows x h r) is shown in
    let own = subst (λ x. Opens 1 ws x r) shows.1 o in
    let same : values es.now ≡ shows.0 = ap values shows.2 ∙ entered_values _ shows.0 own.in_range.2 in (
      of_root n shows.0,
      subst (Opens 1 ws (of_root n shows.0)) (sym shows.3) own,
      refl,
      closed ∙ ap (λ t. t ++ codes "](") (listed ∙ (λ j. opened j ++ spaced (same j))) ∙ append_assoc (before ++ codes "root[") (spaced shows.0) (codes "](")
          ∙ append_assoc before (codes "root[") (spaced shows.0 ++ codes "]("),
    )

-- Branches.
pub opens_shorter : {depth : ℕ} (ws : List ℕ) (h : Head) (rest : List ℕ) → Opens depth ws h rest → length rest < length ws
opens_shorter ws (of_line n) rest o = omega (arith, ap length o.words)
opens_shorter ws (of_sum n) rest o = omega (arith, ap length o.words)
opens_shorter ws of_greater rest o = omega (arith, ap length o.words)
opens_shorter ws (of_root n es) rest o = omega (arith, simp length-append at (ap length o.words))

-- the head of the tree that the words begin with
pub has_head : (ws : List ℕ) (t : Tree) (behind : List ℕ) → Starts ws t behind → Headed ws
has_head ws t behind (depth, bs, e, b) =
    let own = headed t depth bs b in
    let whole = opens_more ws behind own.opens e in
    (own.head, own.rest ++ behind, record { shallow = lit≤ tt; words = whole.words; in_range = whole.in_range })

-- what stands behind a branch is shorter
pub behind_shorter : (ws : List ℕ) (t : Tree) (behind : List ℕ) → Starts ws t behind → length behind < length ws
behind_shorter ws t behind s =
    let own = headed t s.0 s.1 s.3 in
    let whole = opens_more ws behind own.opens s.2 in
    let shorter : length (own.rest ++ behind) < length ws = opens_shorter ws own.head (own.rest ++ behind) whole in
    omega (arith, shorter, length-append own.rest behind)

-- behind the head stand the tree's branches
pub started : (ws rest : List ℕ) (h : Head) (t : Tree) (behind : List ℕ) → Opens 1 ws h rest → Starts ws t behind → (f : Forest) × HeadOf t h f × StartAll (due h) rest f behind
started ws rest h t behind o (depth, bs, e, b) =
    let own = headed t depth bs b in
    let same = opens_unique o (opens_more ws behind own.opens e) in
    (own.forest, subst (λ x. HeadOf t x own.forest) (sym same.0) own.of, (own.count ∙ ap due (sym same.0), suc depth, own.rest, same.1, own.branches))

line_text : (i : ℕ) (t : Tree) (h : Head) (f : Forest) → HeadOf t h f → HeadInRange h → due h ≡ 0 → tree_text i t ≡ head_text h
line_text i (line n) h f o r z = ap head_text (sym o.0)
line_text i (trees.sum g) h f o r z = absurd (omega (arith, (subst HeadInRange o.0 r).0, ap due o.0, z))
line_text i (greater t u) h f o r z = absurd (omega (arith, ap due o.0, z))
line_text i (root es g) h f o r z = absurd (omega (arith, (subst HeadInRange o.0 r).0, ap due o.0, z))
line_text i (choice a b t u) h f o r z = absurd o

list_text : (i : ℕ) (t : Tree) (h : Head) (f : Forest) → HeadOf t h f → (due h ≡ 0 → ⊥) → tree_text i t ≡ head_text h ++ branches_text i f
list_text i (line n) h f o some = absurd (some (ap due o.0))
list_text i (trees.sum g) h f o some = sym (λ j. head_text (o.0 j) ++ branches_text i (o.1 j))
list_text i (greater t u) h f o some = sym (λ j. head_text (o.0 j) ++ branches_text i (o.1 j))
list_text i (root es g) h f o some =
    ap (λ x. codes "root[" ++ x) (sym (append_assoc (spaced es) (codes "](") (branches_text i g))) ∙ sym (λ j. head_text (o.0 j) ++ branches_text i (o.1 j))
list_text i (choice a b t u) h f o some = absurd o

no_branches : (n : ℕ) (ws : List ℕ) (f : Forest) (behind : List ℕ) → n ≡ 0 → StartAll n ws f behind → ws ≡ behind
no_branches n ws none behind z s = s.3 ∙ ap (λ x. x ++ behind) s.4
no_branches n ws (more t f) behind z s = absurd (omega (arith, s.0, z))

-- a head with no branches is a whole tree
pub head_alone : (i : ℕ) (ws before after : List ℕ) (n : ℕ) (rest : List ℕ) → n ≡ 0 → HeadWritten ws before after n rest → BranchWritten i ws before after rest
head_alone i ws before after n rest z (h, o, is, text) t behind s =
    let (f, of, all) = started ws rest h t behind o s in
    (no_branches (due h) rest f behind (sym is ∙ z) all, text ∙ ap (λ x. before ++ x) (sym (line_text i t h f of o.in_range (sym is ∙ z))))

-- the branches behind a head
pub branches_behind : (ws before after : List ℕ) (n : ℕ) (rest : List ℕ) (t : Tree) (behind : List ℕ) → HeadWritten ws before after n rest → Starts ws t behind → (f : Forest) × (end : List ℕ) × StartAll n rest f end
branches_behind ws before after n rest t behind (h, o, is, text) s =
    let (f, of, all) = started ws rest h t behind o s in
    (f, behind, subst (λ m. StartAll m rest f behind) (sym is) all)

-- a head, and then its branches
pub head_and_branches : (i : ℕ) (ws before middle after : List ℕ) (n : ℕ) (rest left : List ℕ) → (n ≡ 0 → ⊥) → HeadWritten ws before middle n rest → ListWritten i n rest middle after left → BranchWritten i ws before after left
head_and_branches i ws before middle after n rest left some (h, o, is, text) listed t behind s =
    let (f, of, all) = started ws rest h t behind o s in
    let got = listed f behind (subst (λ m. StartAll m rest f behind) (sym is) all) in
    (got.0, got.1 ∙ ap (λ x. x ++ branches_text i f) text ∙ append_assoc before (head_text h) (branches_text i f) ∙ ap (λ x. before ++ x) (sym (list_text i t h f of (λ z. some (is ∙ z)))))

-- Lists.
first_of : (n : ℕ) (ws : List ℕ) (t : Tree) (f : Forest) (behind : List ℕ) → StartAll n ws (more t f) behind → (cs : List ℕ) × Starts ws t (cs ++ behind) × (depth : ℕ) × Branches f depth cs
first_of n ws t f behind (count, depth, bs, e, (cs, ds, parts, b, others)) =
    (ds, (depth, cs, e ∙ ap (λ x. x ++ behind) parts ∙ append_assoc cs ds behind, b), depth, others)

-- the first of one or more
pub first_starts : (n : ℕ) (ws : List ℕ) (f : Forest) (behind : List ℕ) → 1 ≤ n → StartAll n ws f behind → (t : Tree) × (end : List ℕ) × Starts ws t end
first_starts n ws none behind some s = absurd (omega (arith, s.0, some))
first_starts n ws (more t f) behind some s = let first = first_of n ws t f behind s in (t, first.0 ++ behind, first.1)

-- the others stand behind the first
pub others_start : (i n : ℕ) (ws before after rest : List ℕ) (f : Forest) (behind : List ℕ) → 1 ≤ n → StartAll n ws f behind → BranchWritten i ws before after rest → (g : Forest) × (end : List ℕ) × StartAll (n - 1) rest g end
others_start i n ws before after rest none behind some s written = absurd (omega (arith, s.0, some))
others_start i n ws before after rest (more t f) behind some s written =
    let first = first_of n ws t f behind s in
    (f, behind, (omega (arith, s.0), first.2, first.0, (written t (first.0 ++ behind) first.1).0, first.3))

pub rest_shorter : (i : ℕ) (ws before after rest : List ℕ) (t : Tree) (behind : List ℕ) → Starts ws t behind → BranchWritten i ws before after rest → length rest < length ws
rest_shorter i ws before after rest t behind s written = omega (arith, ap length (written t behind s).0, behind_shorter ws t behind s)

-- the last branch, and the `)` behind it
pub last_written : (i n : ℕ) (ws before lined written fed after rest : List ℕ) → n ≡ 1 → lined ≡ before ++ new_line (i + 2) → BranchWritten (i + 2) ws lined written rest → fed ≡ written ++ new_line i → after ≡ fed ++ codes ")"
    → ListWritten i n ws before after rest
last_written i n ws before lined written fed after rest one begun first feed close none behind s = absurd (omega (arith, s.0, one))
last_written i n ws before lined written fed after rest one begun first feed close (more t none) behind s =
    let own = first_of n ws t none behind s in
    let got = first t (own.0 ++ behind) own.1 in
    let text = tree_text (i + 2) t in (
      got.0 ∙ ap (λ x. x ++ behind) own.3,
      close ∙ ap (λ x. x ++ codes ")") (feed ∙ ap (λ x. x ++ new_line i) (got.1 ∙ ap (λ x. x ++ text) begun)) ∙ simp append_assoc,
    )
last_written i n ws before lined written fed after rest one begun first feed close (more t (more u g)) behind s = absurd (omega (arith, s.0, one))

-- a branch, a comma, and those behind it
pub more_written : (i n : ℕ) (ws before lined written parted after rest left : List ℕ) → (n ≡ 1 → ⊥) → lined ≡ before ++ new_line (i + 2) → BranchWritten (i + 2) ws lined written rest → parted ≡ written ++ codes "," → ListWritten i (n - 1) rest parted after left
    → 1 ≤ n → ListWritten i n ws before after left
more_written i n ws before lined written parted after rest left many begun first comma others some none behind s = absurd (omega (arith, s.0, some))
more_written i n ws before lined written parted after rest left many begun first comma others some (more t none) behind s = absurd (many (sym s.0))
more_written i n ws before lined written parted after rest left many begun first comma others some (more t (more u g)) behind s =
    let own = first_of n ws t (more u g) behind s in
    let got = first t (own.0 ++ behind) own.1 in
    let text = tree_text (i + 2) t in
    let behind_it = others (more u g) behind (omega (arith, s.0), own.2, own.0, got.0, own.3) in (
      behind_it.0,
      behind_it.1 ∙ ap (λ x. x ++ branches_text i (more u g)) (comma ∙ ap (λ x. x ++ codes ",") (got.1 ∙ ap (λ x. x ++ text) begun)) ∙ simp append_assoc,
    )

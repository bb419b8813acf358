-- The words of a written tree from a place on: what is left of a root's entries, and branches behind them. Assumes nothing.
use mathlib.Core.List.{tail}
use Rattle.std.proofs.Math.Logic.{∥∥₁_map, ∥∥₁_elim, ∥∥₁_prop}
use Rattle.std.proofs.Common.{◌≡◌, ℕ, zero, suc, ◌+◌, ◌<◌, ◌≤◌, List, [], ◌∷◌, ◌++◌, ◌-◌, length, get_or, take, drop, Some, None, sym, refl, ap, ◌∙◌, subst, subst₂, append_assoc, append-nil, le_refl, arith}
use Rattle.modules.specs.Trees.{Tree, Forest, none, more, gross_all}
use Rattle.modules.specs.declared.sheet.Sheet.{Sheet}
use Rattle.std.proofs.lemmas.List.{at_drop_more, take_rest}
use Rattle.words.specs.Grammar.{Branch, Branches, Reads}
use Rattle.words.specs.Heads.{Head, HeadInRange, Opens, of_line, of_sum, of_greater, of_root, head_words}
use Rattle.words.specs.Items.{Shows, values}
use Rattle.words.specs.Words.{word, entry_words, entry_kind, value_room}
use Rattle.words.specs.declared.item.Item.{Item}
use Rattle.words.specs.declared.item.Item.TheVariants.{Line, Sum, Greater, Root}
use Rattle.words.proofs.Parts.{entered_values}
use Rattle.words.proofs.Heading.{Headed, headed, opens_more}
use Rattle.written.specs.Forests.{join, joined_gross}
use Rattle.written.specs.Known.{branch_tabled}
use Rattle.written.specs.Reading.{forest_of, tree_of, Readable}
use Rattle.written.specs.Standing.{Small, branch_stands, entry_stands, entries_stand, entered_small}
use Rattle.written.specs.Taking.{ItemOf, TakesBranches, shown}
use Rattle.written.proofs.Heads.{adds}

-- the words are these branches one behind the other, each at a depth of its own
abbrev pub Laid : Forest → List ℕ → Type 0
Laid none ws = ws ≡ []
Laid (more t f) ws = (depth : ℕ) × (bs : List ℕ) × (cs : List ℕ) × (ws ≡ bs ++ cs) × Branch t depth bs × Laid f cs

laid_stands : (f : Forest) (ws : List ℕ) → Laid f ws → forest_of ws ≡ f
laid_stands none ws e = ap forest_of e
laid_stands (more t f) ws l = ap forest_of l.3 ∙ branch_stands t l.0 l.1 l.2 l.4 ∙ ap (more t) (laid_stands f l.2 l.5)

branches_laid : (f g : Forest) (depth : ℕ) (ws rest : List ℕ) → Branches f depth ws → Laid g rest → Laid (join f g) (ws ++ rest)
branches_laid none g depth ws rest b l = subst (λ x. Laid g (x ++ rest)) (sym b) l
branches_laid (more t f) g depth ws rest b l =
    (depth, b.0, b.1 ++ rest, ap (λ x. x ++ rest) b.2 ∙ append_assoc b.0 b.1 rest, b.3, branches_laid f g depth b.1 rest b.4 l)

-- entries, and branches behind them
pub record Left (ws : List ℕ) : Type 0 where
  pub entries : List ℕ
  pub small : Small entries
  pub behind : List ℕ
  pub words : ws ≡ entry_words entries ++ behind
  pub forest : Forest
  pub laid : Laid forest behind

left_stands : (ws : List ℕ) (l : Left ws) → forest_of ws ≡ l.forest
left_stands ws l = ap forest_of l.words ∙ entries_stand l.entries l.behind l.small ∙ laid_stands l.forest l.behind l.laid

pub read_left : (ws : List ℕ) (t : Tree) → Reads ws t → Left ws
read_left ws t reads =
    record { entries = []; small = λ i l. absurd (omega arith); behind = ws; words = refl; forest = more t none; laid = (1, ws, [], sym (append-nil ws), reads.1, refl) }

-- the entries that stand behind the word of a head
abbrev entries_of : Head → List ℕ
entries_of (of_line n) = []
entries_of (of_sum n) = []
entries_of of_greater = []
entries_of (of_root n es) = es

head_rest : (h : Head) (rest : List ℕ) → tail (head_words h ++ rest) ≡ entry_words (entries_of h) ++ rest
head_rest (of_line n) rest = refl
head_rest (of_sum n) rest = refl
head_rest of_greater rest = refl
head_rest (of_root n es) rest = refl

head_small : (h : Head) → HeadInRange h → Small (entries_of h)
head_small (of_line n) range = λ i l. absurd (omega arith)
head_small (of_sum n) range = λ i l. absurd (omega arith)
head_small of_greater range = λ i l. absurd (omega arith)
head_small (of_root n es) range = entered_small _ es range.2

first : {xs ys : List ℕ} → xs ≡ ys → get_or xs 0 0 ≡ get_or ys 0 0
first e = ap (λ l. get_or l 0 0) e

-- what stands first: an entry, or a branch
data At (w : ℕ) (ws : List ℕ) : Type 0 where
  an_entry : (e : ℕ) → e < value_room → w ≡ word entry_kind e → Left ws → At w ws
  a_branch : (t : Tree) (f : Forest) → Laid (more t f) (w ∷ ws) → At w ws

at_by : (w : ℕ) (ws es behind : List ℕ) (f : Forest) → Small es → w ∷ ws ≡ entry_words es ++ behind → Laid f behind → At w ws
at_by w ws [] behind none small e l = absurd (omega (arith, ap length e, ap length l))
at_by w ws [] behind (more t f) small e l = a_branch t f (l.0, l.1, l.2, e ∙ l.3, l.4, l.5)
at_by w ws (x ∷ es) behind f small e l =
    an_entry x (small 0 (omega arith)) (first e) (record { entries = es; small = λ i k. small (suc i) (omega arith); behind = behind; words = ap tail e; forest = f; laid = l })

at : (w : ℕ) (ws : List ℕ) → Left (w ∷ ws) → At w ws
at w ws l = at_by w ws l.entries l.behind l.forest l.small l.words l.laid

-- behind the word of a branch stand its own branches, and those behind it
module _ (w : ℕ) (ws : List ℕ) (t : Tree) (f : Forest) (l : Laid (more t f) (w ∷ ws)) where
  own : Headed t l.0 l.1
  own = headed t l.0 l.1 l.4

  own_opens : Opens l.0 (w ∷ ws) own.head (own.rest ++ l.2)
  own_opens = opens_more (w ∷ ws) l.2 own.opens l.3

  branch_left : Left ws
  branch_left = record {
    entries = entries_of own.head;
    small = head_small own.head own.opens.in_range;
    behind = own.rest ++ l.2;
    words = ap tail own_opens.words ∙ head_rest own.head (own.rest ++ l.2);
    forest = join own.forest f;
    laid = branches_laid own.forest f (suc l.0) own.rest l.2 own.branches l.5;
  }

  branch_taken : forest_of ws ≡ join own.forest f
  unfolding own branch_left
  branch_taken = left_stands ws branch_left

entry_left : (w : ℕ) (ws : List ℕ) (e : ℕ) → e < value_room → w ≡ word entry_kind e → forest_of (w ∷ ws) ≡ forest_of ws
entry_left w ws e small is = ap (λ x. forest_of (x ∷ ws)) is ∙ entry_stands e ws small

left_behind : (w : ℕ) (ws : List ℕ) → At w ws → Left ws
left_behind w ws (an_entry e small is left) = left
left_behind w ws (a_branch t f l) = branch_left w ws t f l

left_drop : (i : ℕ) (ws : List ℕ) → Left ws → Left (drop i ws)
left_drop zero ws l = l
left_drop (suc i) [] l = l
left_drop (suc i) (w ∷ ws) l = left_drop i ws (left_behind w ws (at w ws l))

-- a word takes nothing off the gross of those behind it
gross_more : (w : ℕ) (ws : List ℕ) (s : Sheet) → At w ws → gross_all (forest_of ws) s ≤ gross_all (forest_of (w ∷ ws)) s
gross_more w ws s (an_entry e small is left) = omega (arith, ap (λ f. gross_all f s) (entry_left w ws e small is))
gross_more w ws s (a_branch t f l) =
    let its = own w ws t f l in
    omega (arith, ap (λ g. gross_all g s) (branch_taken w ws t f l), ap (λ g. gross_all g s) (laid_stands (more t f) (w ∷ ws) l), joined_gross its.forest f s, (adds t its.head its.forest its.of).gross_is s)

pub gross_drop : (i : ℕ) (ws : List ℕ) (s : Sheet) → Left ws → gross_all (forest_of (drop i ws)) s ≤ gross_all (forest_of ws) s
gross_drop zero ws s l = le_refl _
gross_drop (suc i) [] s l = le_refl _
gross_drop (suc i) (w ∷ ws) s l =
    let here = at w ws l in
    omega (arith, gross_drop i ws s (left_behind w ws here), gross_more w ws s here)

-- no item begins at an entry
passed : (w : ℕ) (ws : List ℕ) → At w ws → ItemOf w ws None → forest_of (w ∷ ws) ≡ forest_of ws
passed w ws (an_entry e small is left) found = entry_left w ws e small is
passed w ws (a_branch t f l) found =
    let opens = own_opens w ws t f l in
    absurd (found _ _ opens.in_range opens.words)

shown_is : (item : Item) (h : Head) (ws : List ℕ) → HeadInRange h → Shows item h ws → shown item ≡ h
shown_is (Line n) h ws range shows = sym shows
shown_is (Sum n branches) h ws range shows = sym shows.0
shown_is (Greater branches) h ws range shows = sym shows.0
shown_is (Root n entries branches) h ws range shows =
    let known = subst HeadInRange shows.1 range in
    ap (of_root n) (ap values shows.2 ∙ entered_values _ shows.0 known.2) ∙ sym shows.1

-- a branch takes its own branches off those behind its word
branch_takes : (w : ℕ) (ws : List ℕ) (t : Tree) (f : Forest) (l : Laid (more t f) (w ∷ ws)) → TakesBranches (own w ws t f l).head (forest_of ws) (forest_of (w ∷ ws))
branch_takes w ws t f l =
    let its = own w ws t f l in
    record {
      tree = t;
      own = its.forest;
      rest = f;
      of = its.of;
      in_range = its.opens.in_range;
      lawful = its.lawful;
      tabled = branch_tabled t l.0 l.1 l.4;
      taken = branch_taken w ws t f l;
      put = laid_stands (more t f) (w ∷ ws) l;
    }

takes : (w : ℕ) (ws : List ℕ) (item : Item) → At w ws → ItemOf w ws (Some item) → TakesBranches (shown item) (forest_of ws) (forest_of (w ∷ ws))
takes w ws item (an_entry e small is left) found = absurd (found.1 e small is)
takes w ws item (a_branch t f l) found =
    let opens = own_opens w ws t f l in
    let same : shown item ≡ (own w ws t f l).head = shown_is item _ _ opens.in_range (found.0 _ _ opens.in_range opens.words) in
    subst (λ h. TakesBranches h (forest_of ws) (forest_of (w ∷ ws))) (sym same) (branch_takes w ws t f l)

-- what a word is by itself: an entry, or the first word of a head
pub data Word (w : ℕ) (ws : List ℕ) : Type 0 where
  entry : (e : ℕ) → e < value_room → w ≡ word entry_kind e → forest_of (w ∷ ws) ≡ forest_of ws → Word w ws
  head : (h : Head) (rest : List ℕ) → w ∷ ws ≡ head_words h ++ rest → TakesBranches h (forest_of ws) (forest_of (w ∷ ws)) → Word w ws

word_at : (w : ℕ) (ws : List ℕ) → At w ws → Word w ws
word_at w ws (an_entry e small is left) = Word.entry e small is (entry_left w ws e small is)
word_at w ws (a_branch t f l) = Word.head _ _ (own_opens w ws t f l).words (branch_takes w ws t f l)

pub word_split : (ws : List ℕ) (i : ℕ) → i < length ws → drop i ws ≡ get_or ws i 0 ∷ drop (i + 1) ws
word_split ws i within = at_drop_more (λ l. l) ws i 0 within

pub word_here : (ws : List ℕ) → Readable ws → (i : ℕ) → i < length ws → ∥ Word (get_or ws i 0) (drop (i + 1) ws) ∥₁
word_here ws reads i within = ∥∥₁_map reads (λ r. word_at _ _ (at _ _ (subst Left (word_split ws i within) (left_drop i ws (read_left ws (tree_of ws) r)))))

-- the same of the word before a place, where the words from the place on stand for the branches f
module _ (ws : List ℕ) (reads : Readable ws) (place : ℕ) (some : 0 < place) (within : place ≤ length ws) (f : Forest) (is : ∥ forest_of (drop place ws) ≡ f ∥₁) where
  split : drop (place - 1) ws ≡ get_or ws (place - 1) 0 ∷ drop place ws
  split =
      let next : place - 1 + 1 ≡ place = omega arith in
      at_drop_more (λ l. l) ws (place - 1) 0 (omega arith) ∙ ap (λ k. get_or ws (place - 1) 0 ∷ drop k ws) next

  here : ∥ At (get_or ws (place - 1) 0) (drop place ws) ∥₁
  here = ∥∥₁_map reads (λ r. at _ _ (subst Left split (left_drop (place - 1) ws (read_left ws (tree_of ws) r))))

  -- the words behind it, as they are handed on
  behind_it : take (length ws - (place - 1 + 1)) (drop (place - 1 + 1) ws) ≡ drop place ws
  behind_it =
      let next : place - 1 + 1 ≡ place = omega arith in
      take_rest ws (place - 1 + 1) ∙ ap (λ k. drop k ws) next

  pub passed_here : ItemOf (get_or ws (place - 1) 0) (take (length ws - (place - 1 + 1)) (drop (place - 1 + 1) ws)) None → ∥ forest_of (drop (place - 1) ws) ≡ f ∥₁
  passed_here found =
      let none = subst (λ l. ItemOf (get_or ws (place - 1) 0) l None) behind_it found in
      ∥∥₁_elim here ∥∥₁_prop (λ a. ∥∥₁_map is (λ known. ap forest_of split ∙ passed _ _ a none ∙ known))

  pub takes_here : (item : Item) → ItemOf (get_or ws (place - 1) 0) (take (length ws - (place - 1 + 1)) (drop (place - 1 + 1) ws)) (Some item) → ∥ TakesBranches (shown item) f (forest_of (drop (place - 1) ws)) ∥₁
  takes_here item found =
      let its = subst (λ l. ItemOf (get_or ws (place - 1) 0) l (Some item)) behind_it found in
      ∥∥₁_elim here ∥∥₁_prop (λ a. ∥∥₁_map is (λ known. subst₂ (TakesBranches (shown item)) known (sym (ap forest_of split)) (takes _ _ item a its)))

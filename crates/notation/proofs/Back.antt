-- The text of a tree is cut into the tokens of its sketch, and the sketch stands for the tree's words. Assumes nothing.
use Rattle.std.proofs.Common.{◌≡◌, ℕ, zero, suc, ◌+◌, ◌^◌, ◌<◌, ◌≤◌, true, false, not, ◌&&◌, List, [], ◌∷◌, ◌++◌, map, length, get_or, replicate, Some, None, codes, decimal, Option, sym, refl, ap, ◌∙◌, append_assoc, append-nil, arith}
use Rattle.correlation.proofs.Lawful.{above_in_range}
use Rattle.modules.specs.Trees as trees
use Rattle.modules.specs.Trees.{Tree, Forest, branch_count}
use Rattle.digits.proofs.Decimals.{own, number_decimal}
use Rattle.digits.specs.Numbers.{number_up_to}
use Rattle.std.proofs.lemmas.Fmt.{decimal_nonempty, digits_decimal}
use Rattle.std.proofs.lemmas.Str.Parse.{tells_all_ascii_digits}
use Rattle.std.proofs.lemmas.Bool.{cond-false, or_from, ne_eqb}
use Rattle.std.specs.List.{AllByRecursion}
use Rattle.std.specs.Option.{option_map}
use Rattle.std.specs.Str.{all_ascii_digits, bytes_eq}
use Rattle.words.specs.Grammar.{Branch, Branches}
use Rattle.words.specs.Words.{word, entry_words, entry_kind}
use Rattle.notation.specs.Pieces.{is_in_run, goes_on, joins, pieces}
use Rattle.notation.specs.Plain.{new_line, spaced, tree_text, branches_text, further_text}
use Rattle.notation.specs.Sketches.{Sketch, Sketches, sum, greater, root, line, over, none, more, tokens_of, tokens_of_all, behind, words_of, words_of_all, count, depth, deepest, Notation, Noted}
use Rattle.notation.specs.Tokens.{largest, clipped, number_of, name_of, mark_of, or_else, token_of_piece, before, tokens_in, tokens}
use Rattle.notation.specs.declared.token.Token.{Token}
use Rattle.notation.specs.declared.token.Token.TheVariants.{Line, Sum, Greater, Root, Number, Open, Comma, EntriesOpen, EntriesClose}
use Rattle.notation.proofs.Runs.{alone_first, joined_first, run_no_space}
use Rattle.notation.proofs.Whole.{one_notation}

-- tokens, and behind them those of o
abbrev onto : List Token → Option (List Token) → Option (List Token)
onto [] o = o
onto (t ∷ ts) o = before (Some t) (onto ts o)

onto_append : (ts us : List Token) (o : Option (List Token)) → onto (ts ++ us) o ≡ onto ts (onto us o)
onto_append [] us o = refl
onto_append (t ∷ ts) us o = ap (before (Some t)) (onto_append ts us o)

onto_some : (ts us : List Token) → onto ts (Some us) ≡ Some (ts ++ us)
onto_some [] us = refl
onto_some (t ∷ ts) us = ap (before (Some t)) (onto_some ts us)

-- a run that ends here is one piece
run_cut : (b : ℕ) (p rest : List ℕ) → AllByRecursion (λ c. is_in_run c ≡ true) (b ∷ p) → goes_on rest ≡ false → pieces ((b ∷ p) ++ rest) ≡ (b ∷ p) ∷ pieces rest
run_cut b [] rest h e = alone_first b rest (run_no_space b h.0) (ap (λ t. t && goes_on rest) h.0 ∙ e)
run_cut b (c ∷ p) rest h e = joined_first b ((c ∷ p) ++ rest) h.0 h.1.0 ∙ ap (joins b) (run_cut c p rest h.1 e)

digit_runs : (b : ℕ) → 48 ≤ b → b ≤ 57 → is_in_run b ≡ true
digit_runs b low high =
    ap not (or_from _ _
    (or_from _ _ (ne_eqb b 32 (λ e. omega arith)) (or_from _ _ (ne_eqb b 9 (λ e. omega arith)) (or_from _ _ (ne_eqb b 13 (λ e. omega arith)) (ne_eqb b 10 (λ e. omega arith)))))
    (or_from _ _ (ne_eqb b 40 (λ e. omega arith)) (or_from _ _ (ne_eqb b 41 (λ e. omega arith)) (or_from _ _ (ne_eqb b 44 (λ e. omega arith)) (or_from _ _ (ne_eqb b 91 (λ e. omega arith)) (ne_eqb b 93 (λ e. omega arith)))))))

digits_run : (ds : List ℕ) → all_ascii_digits ds ≡ true → AllByRecursion (λ c. is_in_run c ≡ true) ds
digits_run [] h = tt
digits_run (c ∷ cs) h = let p = tells_all_ascii_digits.parts c cs h in (digit_runs c p.0.0 p.0.1, digits_run cs p.1)

-- digits are no mark and no name
digits_token : (c : ℕ) (cs : List ℕ) → 48 ≤ c → c ≤ 57 → token_of_piece (c ∷ cs) ≡ number_of (c ∷ cs)
digits_token c cs low high =
    ap (λ o. or_else o (name_of (c ∷ cs))) no_mark
    ∙ cond-false _ _ _ (ap (λ t. t && bytes_eq cs (codes "ine")) (ne_eqb c 108 (λ e. omega arith)))
    ∙ cond-false _ _ _ (ap (λ t. t && bytes_eq cs (codes "um")) (ne_eqb c 115 (λ e. omega arith)))
    ∙ cond-false _ _ _ (ap (λ t. t && bytes_eq cs (codes "reater")) (ne_eqb c 103 (λ e. omega arith)))
    ∙ cond-false _ _ _ (ap (λ t. t && bytes_eq cs (codes "oot")) (ne_eqb c 114 (λ e. omega arith)))
  where
    no_mark : mark_of c ≡ None
    no_mark =
        cond-false _ _ _ (ne_eqb c 40 (λ e. omega arith)) ∙ cond-false _ _ _ (ne_eqb c 41 (λ e. omega arith)) ∙ cond-false _ _ _ (ne_eqb c 44 (λ e. omega arith))
        ∙ cond-false _ _ _ (ne_eqb c 91 (λ e. omega arith)) ∙ cond-false _ _ _ (ne_eqb c 93 (λ e. omega arith))

digits_cut : (ds rest : List ℕ) (n : ℕ) → 0 < length ds → all_ascii_digits ds ≡ true → number_up_to largest ds ≡ Some n → goes_on rest ≡ false → tokens (ds ++ rest) ≡ before (Some (Number n)) (tokens rest)
digits_cut [] rest n some digits is e = absurd (omega arith)
digits_cut (c ∷ cs) rest n some digits is e =
    let first = (tells_all_ascii_digits.parts c cs digits).0 in
    ap tokens_in (run_cut c cs rest (digits_run (c ∷ cs) digits) e)
    ∙ ap (λ o. before o (tokens rest)) (digits_token c cs first.0 first.1 ∙ ap (option_map Number) is)

number_cut : (n : ℕ) (rest : List ℕ) → n ≤ largest → goes_on rest ≡ false → tokens (decimal n ++ rest) ≡ before (Some (Number n)) (tokens rest)
number_cut n rest small e =
    let fits : n < 2 ^ 64 = omega arith in
    digits_cut (decimal n) rest n (decimal_nonempty n fits) (digits_decimal own n fits) (number_decimal largest n small fits) e

spaces_cut : (i : ℕ) (rest : List ℕ) → tokens (replicate i 32 ++ rest) ≡ tokens rest
spaces_cut zero rest = refl
spaces_cut (suc i) rest = spaces_cut i rest

line_cut : (i : ℕ) (rest : List ℕ) → tokens (new_line i ++ rest) ≡ tokens rest
line_cut i rest = spaces_cut i rest

entries_cut : (es : List ℕ) (rest : List ℕ) → AllByRecursion (λ e. e ≤ largest) es → goes_on rest ≡ false → tokens (spaced es ++ rest) ≡ onto (map Number es) (tokens rest)
entries_cut [] rest h e = refl
entries_cut (n ∷ []) rest h e = number_cut n rest h.0 e
entries_cut (n ∷ m ∷ es) rest h e =
    ap tokens (append_assoc (decimal n) (32 ∷ spaced (m ∷ es)) rest) ∙ number_cut n (32 ∷ (spaced (m ∷ es) ++ rest)) h.0 refl
    ∙ ap (before (Some (Number n))) (entries_cut (m ∷ es) rest h.1 e)

-- the sketch of a tree; a choice has none, and stands for no words
abbrev mutual
  sketch_of : Tree → Sketch
  sketch_of (trees.line n) = line n
  sketch_of (trees.sum f) = over sum (sketches_of f)
  sketch_of (trees.greater t u) = over greater (more (sketch_of t) (more (sketch_of u) none))
  sketch_of (trees.root es f) = over (root es) (sketches_of f)
  sketch_of (trees.choice a b t u) = line 0

  sketches_of : Forest → Sketches
  sketches_of trees.none = none
  sketches_of (trees.more t f) = more (sketch_of t) (sketches_of f)

all_small : (es : List ℕ) → ((k : ℕ) → k < length es → get_or es k 0 ≤ 100) → AllByRecursion (λ e. e ≤ largest) es
all_small [] h = tt
all_small (e ∷ es) h = (omega (arith, h 0 (omega arith)), all_small es (λ k l. h (suc k) (omega arith)))

-- how a list of branches goes on behind a branch
behind_cut : (i : ℕ) (f : Forest) (rest : List ℕ) → goes_on (further_text i f ++ rest) ≡ false
behind_cut i trees.none rest = refl
behind_cut i (trees.more t f) rest = refl

-- a branch on its own line, and those behind it
branch_step : (i : ℕ) (t : Tree) (f : Forest) (rest : List ℕ)
    → ((r : List ℕ) → goes_on r ≡ false → tokens (tree_text (i + 2) t ++ r) ≡ onto (tokens_of (sketch_of t)) (tokens r))
    → tokens (further_text i f ++ rest) ≡ onto (behind (sketches_of f)) (tokens rest)
    → tokens ((new_line (i + 2) ++ (tree_text (i + 2) t ++ further_text i f)) ++ rest) ≡ onto (tokens_of (sketch_of t) ++ behind (sketches_of f)) (tokens rest)
branch_step i t f rest first others =
    ap tokens (append_assoc (new_line (i + 2)) (tree_text (i + 2) t ++ further_text i f) rest)
    ∙ line_cut (i + 2) ((tree_text (i + 2) t ++ further_text i f) ++ rest)
    ∙ ap tokens (append_assoc (tree_text (i + 2) t) (further_text i f) rest)
    ∙ first (further_text i f ++ rest) (behind_cut i f rest)
    ∙ ap (onto (tokens_of (sketch_of t))) others
    ∙ sym (onto_append (tokens_of (sketch_of t)) (behind (sketches_of f)) (tokens rest))

last_step : (i : ℕ) (rest : List ℕ) → tokens (further_text i trees.none ++ rest) ≡ onto (behind none) (tokens rest)
last_step i rest = ap tokens (append_assoc (new_line i) (codes ")") rest) ∙ line_cut i (codes ")" ++ rest)

mutual
  tree_cut : (i d : ℕ) (t : Tree) (ws rest : List ℕ) → Branch t d ws → goes_on rest ≡ false → tokens (tree_text i t ++ rest) ≡ onto (tokens_of (sketch_of t)) (tokens rest)
  tree_cut i d (trees.line n) ws rest b e = ap (before (Some Line)) (number_cut n rest (omega (arith, b.1.1)) e)
  tree_cut i d (trees.sum f) ws rest b e = ap (λ o. before (Some Sum) (before (Some Open) o)) (forest_cut i (suc d) f b.2 rest b.4)
  tree_cut i d (trees.greater t u) ws rest b e =
      ap (λ o. before (Some Greater) (before (Some Open) o))
      (branch_step i t (trees.more u trees.none) rest (λ r h. tree_cut (i + 2) (suc d) t b.1 r b.4 h)
      (ap (before (Some Comma)) (branch_step i u trees.none rest (λ r h. tree_cut (i + 2) (suc d) u b.2 r b.5 h) (last_step i rest))))
  tree_cut i d (trees.root es f) ws rest b e =
      ap (λ o. before (Some Root) (before (Some EntriesOpen) o))
      (ap tokens (append_assoc (spaced es) (codes "](" ++ branches_text i f) rest)
      ∙ entries_cut es ((codes "](" ++ branches_text i f) ++ rest) (all_small es (above_in_range (branch_count f) es b.1)) refl
      ∙ ap (λ o. onto (map Number es) (before (Some EntriesClose) (before (Some Open) o))) (forest_cut i (suc d) f b.2 rest b.4)
      ∙ sym (onto_append (map Number es ++ EntriesClose ∷ Open ∷ []) (tokens_of_all (sketches_of f)) (tokens rest) ∙ onto_append (map Number es) (EntriesClose ∷ Open ∷ []) _))
  tree_cut i d (trees.choice x y t u) ws rest b e = absurd b

  forest_cut : (i d : ℕ) (f : Forest) (ws rest : List ℕ) → Branches f d ws → tokens (branches_text i f ++ rest) ≡ onto (tokens_of_all (sketches_of f)) (tokens rest)
  forest_cut i d trees.none ws rest b = refl
  forest_cut i d (trees.more t f) ws rest b = branch_step i t f rest (λ r h. tree_cut (i + 2) d t b.0 r b.3 h) (further_cut i d f b.1 rest b.4)

  further_cut : (i d : ℕ) (f : Forest) (ws rest : List ℕ) → Branches f d ws → tokens (further_text i f ++ rest) ≡ onto (behind (sketches_of f)) (tokens rest)
  further_cut i d trees.none ws rest b = last_step i rest
  further_cut i d (trees.more t f) ws rest b =
      ap (before (Some Comma)) (branch_step i t f rest (λ r h. tree_cut (i + 2) d t b.0 r b.3 h) (further_cut i d f b.1 rest b.4))

counted : (f : Forest) → count (sketches_of f) ≡ branch_count f
counted trees.none = refl
counted (trees.more t f) = ap (λ n. 1 + n) (counted f)

same_clipped : (n : ℕ) → n ≤ 8 → clipped n ≡ n
same_clipped n few = omega arith

entries_same : (es : List ℕ) → AllByRecursion (λ e. e ≤ largest) es → entry_words (map clipped es) ≡ entry_words es
entries_same [] h = refl
entries_same (e ∷ es) h =
    let one : clipped e ≡ e = omega (arith, h.0) in
    let others = entries_same es h.1 in
    λ j. word entry_kind (one j) ∷ others j

mutual
  tree_words : (d : ℕ) (t : Tree) (ws : List ℕ) → Branch t d ws → words_of (sketch_of t) ≡ ws
  tree_words d (trees.line n) ws b = let one : clipped n ≡ n = omega (arith, b.1.1) in ap (λ k. word 1 k ∷ []) one ∙ sym b.2
  tree_words d (trees.sum f) ws b =
      let n = ap clipped (counted f) ∙ same_clipped (branch_count f) b.1.1 in
      let w = forest_words (suc d) f b.2 b.4 in
      (λ j. word 2 (n j) ∷ w j) ∙ sym b.3
  tree_words d (trees.greater t u) ws b =
      let v = tree_words (suc d) t b.1 b.4 in
      let w = append-nil (words_of (sketch_of u)) ∙ tree_words (suc d) u b.2 b.5 in
      (λ j. word 3 2 ∷ (v j ++ w j)) ∙ sym b.3
  tree_words d (trees.root es f) ws b =
      let n = ap clipped (counted f) ∙ same_clipped (branch_count f) b.1.lawful.branches.1 in
      let x = entries_same es (all_small es (above_in_range (branch_count f) es b.1)) in
      let w = forest_words (suc d) f b.2 b.4 in
      (λ j. word 4 (n j) ∷ (x j ++ w j)) ∙ sym b.3
  tree_words d (trees.choice x y t u) ws b = absurd b

  forest_words : (d : ℕ) (f : Forest) (ws : List ℕ) → Branches f d ws → words_of_all (sketches_of f) ≡ ws
  forest_words d trees.none ws b = sym b
  forest_words d (trees.more t f) ws b =
      let v = tree_words d t b.0 b.3 in
      let w = forest_words d f b.1 b.4 in
      (λ j. v j ++ w j) ∙ sym b.2

mutual
  tree_depth : (d : ℕ) (t : Tree) (ws : List ℕ) → Branch t d ws → depth (sketch_of t) + d ≤ 7
  tree_depth d (trees.line n) ws b = omega (arith, b.0)
  tree_depth d (trees.sum f) ws b = omega (arith, forest_depth (suc d) f b.2 (omega (arith, b.0)) b.4)
  tree_depth d (trees.greater t u) ws b = omega (arith, tree_depth (suc d) t b.1 b.4, tree_depth (suc d) u b.2 b.5)
  tree_depth d (trees.root es f) ws b = omega (arith, forest_depth (suc d) f b.2 (omega (arith, b.0)) b.4)
  tree_depth d (trees.choice x y t u) ws b = absurd b

  forest_depth : (d : ℕ) (f : Forest) (ws : List ℕ) → d ≤ 7 → Branches f d ws → deepest (sketches_of f) + d ≤ 7
  forest_depth d trees.none ws low b = omega arith
  forest_depth d (trees.more t f) ws low b = omega (arith, tree_depth d t b.0 b.3, forest_depth d f b.1 low b.4)

-- the text of a tree is the notation of its sketch, behind however many spaces it stands
back : (i : ℕ) (text : List ℕ) (t : Tree) (ws : List ℕ) → Branch t 1 ws → text ≡ tree_text i t → Notation text (sketch_of t)
back i text t ws b is =
    record {
      written = ap tokens (is ∙ sym (append-nil (tree_text i t))) ∙ tree_cut i 1 t ws [] b refl ∙ onto_some (tokens_of (sketch_of t)) [] ∙ ap Some (append-nil (tokens_of (sketch_of t)));
      shallow = omega (arith, tree_depth 1 t ws b);
    }

-- and stands for the tree's words
pub noted_text : (i : ℕ) (text : List ℕ) (t : Tree) (ws : List ℕ) → Branch t 1 ws → text ≡ tree_text i t → Noted text ws
noted_text i text t ws b is =
    let own = back i text t ws b is in
    (sketch_of t, own, sym (tree_words 1 t ws b), λ u other. one_notation text (sketch_of t) u own other)

pub noted_back : (text vs : List ℕ) → Noted text vs → (t : Tree) (ws : List ℕ) → Branch t 1 ws → text ≡ tree_text 0 t → vs ≡ ws
noted_back text vs noted t ws b is =
    noted.2 ∙ ap words_of (sym (noted.3 (sketch_of t) (back 0 text t ws b is))) ∙ tree_words 1 t ws b

pub none_back : (text : List ℕ) → ((s : Sketch) → Notation text s → ⊥) → (t : Tree) (ws : List ℕ) → Branch t 1 ws → text ≡ tree_text 0 t → ⊥
none_back text lacks t ws b is = lacks (sketch_of t) (back 0 text t ws b is)

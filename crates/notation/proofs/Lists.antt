-- Lists of branches, read one behind the other. Assumes nothing.
use Rattle.std.proofs.Common.{◌≡◌, ℕ, ◌+◌, ◌-◌, ◌≤◌, max, List, [], ◌∷◌, ◌++◌, map, length, set, Some, None, Option, sym, refl, ap, ◌∙◌, subst, append_assoc, append-nil, arith}
use Rattle.std.proofs.lemmas.List.{set_at}
use Rattle.words.specs.Words.{word, entry_words, kind_number}
use Rattle.words.specs.declared.kind.Kind.{Kind}
use Rattle.notation.specs.Sketches.{Over, Sketch, Sketches, sum, greater, root, line, over, none, more, over_tokens, over_words, tokens_of, tokens_of_all, behind, words_of, words_of_all, count, depth, deepest}
use Rattle.notation.specs.Steps.{NoHead, NoClose, Read, NoSketch, ReadAll, NoSketches, NoBranches, Begins, over_kind}
use Rattle.notation.specs.Tokens.{clipped}
use Rattle.notation.specs.declared.token.Token.{Token}
use Rattle.notation.specs.declared.token.Token.TheVariants.{Close, Comma}
use Rattle.notation.proofs.Heads.{first_rank, first_same, rest_same}
use Rattle.notation.proofs.Prefixes.{one_over, one_sketch, line_or_over}

-- one branch more behind those that are there
abbrev pub put : Sketches → Sketch → Sketches
put none s = more s none
put (more u f) s = more u (put f s)

-- the tokens of branches, each with a comma behind it
abbrev pub fronts : Sketches → List Token
fronts none = []
fronts (more s f) = tokens_of s ++ Comma ∷ fronts f

fronts_behind : (f : Sketches) (s : Sketch) (rest : List Token) → Comma ∷ (fronts f ++ (tokens_of s ++ Close ∷ rest)) ≡ behind (put f s) ++ rest
fronts_behind none s rest = ap (λ x. Comma ∷ x) (sym (append_assoc (tokens_of s) (Close ∷ []) rest))
fronts_behind (more u f) s rest =
    ap (λ x. Comma ∷ x) (append_assoc (tokens_of u) (Comma ∷ fronts f) _ ∙ ap (λ x. tokens_of u ++ x) (fronts_behind f s rest) ∙ sym (append_assoc (tokens_of u) (behind (put f s)) rest))

fronts_close : (f : Sketches) (s : Sketch) (rest : List Token) → fronts f ++ (tokens_of s ++ Close ∷ rest) ≡ tokens_of_all (put f s) ++ rest
fronts_close none s rest = sym (append_assoc (tokens_of s) (Close ∷ []) rest)
fronts_close (more u f) s rest =
    append_assoc (tokens_of u) (Comma ∷ fronts f) _ ∙ ap (λ x. tokens_of u ++ x) (fronts_behind f s rest) ∙ sym (append_assoc (tokens_of u) (behind (put f s)) rest)

fronts_more : (f : Sketches) (s : Sketch) (rest : List Token) → fronts f ++ (tokens_of s ++ Comma ∷ rest) ≡ fronts (put f s) ++ rest
fronts_more none s rest = sym (append_assoc (tokens_of s) (Comma ∷ []) rest)
fronts_more (more u f) s rest =
    append_assoc (tokens_of u) (Comma ∷ fronts f) _ ∙ ap (λ x. tokens_of u ++ Comma ∷ x) (fronts_more f s rest) ∙ sym (append_assoc (tokens_of u) (Comma ∷ fronts (put f s)) rest)

words_put : (f : Sketches) (s : Sketch) → words_of_all (put f s) ≡ words_of_all f ++ words_of s
words_put none s = append-nil (words_of s)
words_put (more u f) s = ap (λ x. words_of u ++ x) (words_put f s) ∙ sym (append_assoc (words_of u) (words_of_all f) (words_of s))

count_put : (f : Sketches) (s : Sketch) → count (put f s) ≡ count f + 1
count_put none s = refl
count_put (more u f) s = omega (arith, count_put f s)

deepest_put : (f : Sketches) (s : Sketch) → deepest (put f s) ≡ max (deepest f) (depth s)
deepest_put none s = omega arith
deepest_put (more u f) s = omega (arith, deepest_put f s)

-- the branches that were read, each with its comma
pub record Sofar (levels : ℕ) (ts left : List Token) (before now : List ℕ) (n : ℕ) (f : Sketches) : Type 0 where
  pub tokens : ts ≡ fronts f ++ left
  pub words : now ≡ before ++ words_of_all f
  pub counted : n ≡ clipped (count f)
  pub shallow : deepest f ≤ levels
  pub none_behind : NoBranches levels left → NoBranches levels ts

module _ {levels : ℕ} {ts left : List Token} {before now : List ℕ} {n : ℕ} {f : Sketches} (so : Sofar levels ts left before now n f) where
  module _ {behind_it : List Token} {after : List ℕ} {s : Sketch} (got : Read levels left now after behind_it s) where
    on_words : after ≡ before ++ words_of_all (put f s)
    on_words =
        got.words ∙ ap (λ x. x ++ words_of s) so.words ∙ append_assoc before (words_of_all f) (words_of s)
        ∙ ap (λ x. before ++ x) (sym (words_put f s))

    pub list_ends : (rest : List Token) → behind_it ≡ Close ∷ rest → ReadAll levels ts before after (clipped (n + 1)) rest (put f s)
    list_ends rest e =
        record {
          tokens = so.tokens ∙ ap (λ x. fronts f ++ x) (got.tokens ∙ ap (λ x. tokens_of s ++ x) e) ∙ fronts_close f s rest;
          words = on_words;
          counted = omega (arith, so.counted, count_put f s);
          shallow = omega (arith, deepest_put f s, so.shallow, got.shallow);
        }

    pub list_goes_on : (rest : List Token) → behind_it ≡ Comma ∷ rest → Sofar levels ts rest before after (clipped (n + 1)) (put f s)
    list_goes_on rest e =
        record {
          tokens = so.tokens ∙ ap (λ x. fronts f ++ x) (got.tokens ∙ ap (λ x. tokens_of s ++ x) e) ∙ fronts_more f s rest;
          words = on_words;
          counted = omega (arith, so.counted, count_put f s);
          shallow = omega (arith, deepest_put f s, so.shallow, got.shallow);
          none_behind = λ lacks. so.none_behind (further lacks);
        }
      where
        further : NoBranches levels rest → NoBranches levels left
        further lacks u none q du dg e2 =
            omega (arith, ap first_rank (sym e ∙ (one_sketch s u behind_it (behind none ++ q) (sym got.tokens ∙ e2)).1))
        further lacks u (more v g) q du dg e2 =
            lacks v g q (omega arith) (omega arith)
            (rest_same _ _ _ _ (sym e ∙ (one_sketch s u behind_it (behind (more v g) ++ q) (sym got.tokens ∙ e2)).1) ∙ append_assoc (tokens_of v) (behind g) q)

    pub list_breaks : (t : Token) (rest : List Token) → behind_it ≡ t ∷ rest → (t ≡ Close → ⊥) → (t ≡ Comma → ⊥) → NoBranches levels ts
    list_breaks t rest e no-close no-comma = so.none_behind broken
      where
        broken : NoBranches levels left
        broken u none q du dg e2 = no-close (first_same _ _ _ _ (sym e ∙ (one_sketch s u behind_it (behind none ++ q) (sym got.tokens ∙ e2)).1))
        broken u (more v g) q du dg e2 = no-comma (first_same _ _ _ _ (sym e ∙ (one_sketch s u behind_it (behind (more v g) ++ q) (sym got.tokens ∙ e2)).1))

    pub list_stops : behind_it ≡ [] → NoBranches levels ts
    list_stops e = so.none_behind stopped
      where
        stopped : NoBranches levels left
        stopped u none q du dg e2 = omega (arith, ap first_rank (sym e ∙ (one_sketch s u behind_it (behind none ++ q) (sym got.tokens ∙ e2)).1))
        stopped u (more v g) q du dg e2 = omega (arith, ap first_rank (sym e ∙ (one_sketch s u behind_it (behind (more v g) ++ q) (sym got.tokens ∙ e2)).1))

  pub no_branch_left : NoSketch levels left → NoBranches levels ts
  no_branch_left lacks = so.none_behind (λ s g rest d dg e. lacks s (behind g ++ rest) d e)

-- no list, where it does not end at once and no branch is written there
pub no_list : (levels : ℕ) (ts : List Token) → NoClose ts → NoBranches levels ts → NoSketches levels ts
no_list levels ts no-close lacks none rest d e = no-close rest e
no_list levels ts no-close lacks (more s f) rest d e = lacks s f rest (omega arith) (omega arith) (e ∙ append_assoc (tokens_of s) (behind f) rest)

some_depth : (s : Sketch) → 1 ≤ depth s
some_depth (line n) = omega arith
some_depth (over o f) = omega arith

pub no_levels : (levels : ℕ) (ts : List Token) → levels ≡ 0 → NoSketch levels ts
no_levels levels ts e s rest d is = omega (arith, some_depth s)

pub no_head_no_sketch : (levels : ℕ) (ts : List Token) → NoHead ts → NoSketch levels ts
no_head_no_sketch levels ts lacks (line n) rest d e = lacks.no_line n rest e
no_head_no_sketch levels ts lacks (over o f) rest d e = lacks.no_over o (tokens_of_all f ++ rest) (e ∙ append_assoc (over_tokens o) (tokens_of_all f) rest)

-- a head with a list behind it, or none
module _ (levels : ℕ) (ts listed : List Token) (o : Over) (is : ts ≡ over_tokens o ++ listed) where
  pub no_list_no_sketch : NoSketches (levels - 1) listed → NoSketch levels ts
  no_list_no_sketch lacks (line n) rest d e = line_or_over n o rest listed (sym e ∙ is)
  no_list_no_sketch lacks (over p g) rest d e =
      lacks g rest (omega arith) (one_over o p listed (tokens_of_all g ++ rest) (sym is ∙ e ∙ append_assoc (over_tokens p) (tokens_of_all g) rest)).1

-- the words behind the first of what stands over a list
abbrev over_rest : Over → List ℕ
over_rest sum = []
over_rest greater = []
over_rest (root es) = entry_words (map clipped es)

over_parts : (o : Over) (n : ℕ) → over_words o n ≡ word (over_kind o) n ∷ over_rest o
over_parts sum n = refl
over_parts greater n = refl
over_parts (root es) n = refl

pub line_read : (levels : ℕ) (ts : List Token) (before after : List ℕ) (b : Option Kind) (rest : List Token)
    → 1 ≤ levels → b ≡ None → Begins b ts before after rest → (s : Sketch) × Read levels ts before after rest s
line_read levels ts before after b rest deep is begun =
    let h = subst (λ k. Begins k ts before after rest) is begun in
    (line h.0, record { tokens = h.1; words = h.2; shallow = deep })

-- a head with a list behind it
module _ (levels : ℕ) (ts listed : List Token) (before opened : List ℕ) (b : Option Kind) (k : Kind) (is : b ≡ Some k) (begun : Begins b ts before opened listed) where
  abbrev head : Begins (Some k) ts before opened listed
  head = subst (λ x. Begins x ts before opened listed) is begun

  pub no_list_read : NoSketches (levels - 1) listed → NoSketch levels ts
  no_list_read = no_list_no_sketch levels ts listed head.0 head.2

  module _ (after : List ℕ) (n : ℕ) (rest : List Token) (list : (f : Sketches) × ReadAll (levels - 1) listed opened after n rest f) where
    abbrev o : Over
    o = head.0

    abbrev words_behind : List ℕ
    words_behind = over_rest o ++ words_of_all list.0

    whole : after ≡ before ++ word (over_kind o) 0 ∷ words_behind
    whole =
        list.1.words ∙ ap (λ x. x ++ words_of_all list.0) head.3 ∙ append_assoc before (over_words o 0) (words_of_all list.0)
        ∙ ap (λ x. before ++ (x ++ words_of_all list.0)) (over_parts o 0)

    -- its count is written into its word
    pub sketch_read : 1 ≤ levels → (at : ℕ) → at ≡ length before → (w : ℕ) → w ≡ word (kind_number k) n → (s : Sketch) × Read levels ts before (set after at w) rest s
    sketch_read deep at place w is_word = (
      over o list.0,
      record {
        tokens = head.2 ∙ ap (λ x. over_tokens o ++ x) list.1.tokens ∙ sym (append_assoc (over_tokens o) (tokens_of_all list.0) rest);
        words = ap (λ x. set x at w) whole ∙ set_at before _ _ w at (sym place) ∙ ap (λ x. before ++ x) (ap (λ x. x ∷ words_behind) counted ∙ ap (λ x. x ++ words_of_all list.0) (sym (over_parts o (clipped (count list.0)))));
        shallow = omega (arith, list.1.shallow);
      },
    )
      where
        counted : w ≡ word (over_kind o) (clipped (count list.0))
        counted = is_word ∙ (λ i. word (head.1 i) (list.1.counted i))

-- no branch is read yet
pub list_begins : (levels : ℕ) (ts left : List Token) (before now : List ℕ) → left ≡ ts → now ≡ before → Sofar levels ts left before now 0 none
list_begins levels ts left before now same kept =
    record { tokens = sym same; words = kept ∙ sym (append-nil before); counted = omega arith; shallow = omega arith; none_behind = subst (NoBranches levels) same }

pub list_empty : (levels : ℕ) (ts rest : List Token) (before after : List ℕ) → ts ≡ Close ∷ rest → after ≡ before → ReadAll levels ts before after 0 rest none
list_empty levels ts rest before after e kept = record { tokens = e; words = kept ∙ sym (append-nil before); counted = omega arith; shallow = omega arith }

-- What each word of a written tree adds to the gross and the roundings of those behind it. Assumes nothing.
use mathlib.Core.HLevel.{×_prop}
use Rattle.std.proofs.Math.Logic.{∥∥₁_elim}
use Rattle.std.proofs.Math.Bridge.{le_prop}
use Rattle.std.proofs.Math.Nat.{ℕ_set}
use Rattle.std.proofs.lemmas.Bool.{false≢true}
use Rattle.std.proofs.Common.{Bool, false, Decides, ◌≡◌, ℕ, ◌+◌, ◌/◌, ◌%◌, ◌<◌, List, ◌∷◌, length, get_or, drop, sym, ap, ◌∙◌, subst, arith}
use Rattle.modules.specs.Sheets.{IsLine, line_units}
use Rattle.modules.specs.Trees.{gross, gross_all, roundings, roundings_all}
use Rattle.modules.specs.declared.sheet.Sheet.{Sheet}
use Rattle.words.specs.Heads.{of_line, of_sum, of_greater, of_root}
use Rattle.words.specs.Words.{line_kind, root_kind, value_room}
use Rattle.written.specs.Known.{reads_alone}
use Rattle.written.specs.Reading.{forest_of, tree_of, Readable}
use Rattle.written.proofs.Suffixes.{Word, word_split, word_here}
use Rattle.written.proofs.Walked.{gross_taken, roundings_taken}

first : {xs ys : List ℕ} → xs ≡ ys → get_or xs 0 0 ≡ get_or ys 0 0
first e = ap (λ l. get_or l 0 0) e

module _ (w : ℕ) (ws : List ℕ) where
  line_is : Word w ws → line_kind ≡ w / value_room → IsLine (w % value_room)
  line_is (Word.entry e small is same) kind = absurd (omega (arith, kind, is))
  line_is (Word.head (of_line n) rest is takes) kind =
      let same : n ≡ w % value_room = omega (arith, kind, first is) in
      subst IsLine same takes.in_range
  line_is (Word.head (of_sum n) rest is takes) kind = absurd (omega (arith, kind, first is, takes.in_range))
  line_is (Word.head of_greater rest is takes) kind = absurd (omega (arith, kind, first is))
  line_is (Word.head (of_root n es) rest is takes) kind = absurd (omega (arith, kind, first is, takes.in_range.0, takes.in_range.1))

module _ (w : ℕ) (ws : List ℕ) (s : Sheet) where
  line_gross : Word w ws → line_kind ≡ w / value_room → gross_all (forest_of (w ∷ ws)) s ≡ line_units s (w % value_room) + gross_all (forest_of ws) s
  line_gross (Word.entry e small is same) kind = absurd (omega (arith, kind, is))
  line_gross (Word.head (of_line n) rest is takes) kind =
      let same : n ≡ w % value_room = omega (arith, kind, first is) in
      gross_taken ∣ takes ∣₁ s ∙ ap (λ k. line_units s k + gross_all (forest_of ws) s) same
  line_gross (Word.head (of_sum n) rest is takes) kind = absurd (omega (arith, kind, first is, takes.in_range))
  line_gross (Word.head of_greater rest is takes) kind = absurd (omega (arith, kind, first is))
  line_gross (Word.head (of_root n es) rest is takes) kind = absurd (omega (arith, kind, first is, takes.in_range.0, takes.in_range.1))

  rest_gross : Word w ws → (line_kind ≡ w / value_room → ⊥) → gross_all (forest_of (w ∷ ws)) s ≡ gross_all (forest_of ws) s
  rest_gross (Word.entry e small is same) other = ap (λ f. gross_all f s) same
  rest_gross (Word.head (of_line n) rest is takes) other = absurd (other (omega (arith, first is, takes.in_range)))
  rest_gross (Word.head (of_sum n) rest is takes) other = omega (arith, gross_taken ∣ takes ∣₁ s)
  rest_gross (Word.head of_greater rest is takes) other = omega (arith, gross_taken ∣ takes ∣₁ s)
  rest_gross (Word.head (of_root n es) rest is takes) other = omega (arith, gross_taken ∣ takes ∣₁ s)

  line_roundings : Word w ws → line_kind ≡ w / value_room → roundings_all (forest_of (w ∷ ws)) s ≡ 1 + roundings_all (forest_of ws) s
  line_roundings (Word.entry e small is same) kind = absurd (omega (arith, kind, is))
  line_roundings (Word.head (of_line n) rest is takes) kind = omega (arith, roundings_taken ∣ takes ∣₁ s)
  line_roundings (Word.head (of_sum n) rest is takes) kind = absurd (omega (arith, kind, first is, takes.in_range))
  line_roundings (Word.head of_greater rest is takes) kind = absurd (omega (arith, kind, first is))
  line_roundings (Word.head (of_root n es) rest is takes) kind = omega (arith, roundings_taken ∣ takes ∣₁ s)

  root_roundings : Word w ws → root_kind ≡ w / value_room → roundings_all (forest_of (w ∷ ws)) s ≡ 1 + roundings_all (forest_of ws) s
  root_roundings (Word.entry e small is same) kind = absurd (omega (arith, kind, is))
  root_roundings (Word.head (of_line n) rest is takes) kind = omega (arith, roundings_taken ∣ takes ∣₁ s)
  root_roundings (Word.head (of_sum n) rest is takes) kind = absurd (omega (arith, kind, first is, takes.in_range))
  root_roundings (Word.head of_greater rest is takes) kind = absurd (omega (arith, kind, first is))
  root_roundings (Word.head (of_root n es) rest is takes) kind = omega (arith, roundings_taken ∣ takes ∣₁ s)

  rest_roundings : Word w ws → (line_kind ≡ w / value_room → ⊥) → (root_kind ≡ w / value_room → ⊥) → roundings_all (forest_of (w ∷ ws)) s ≡ roundings_all (forest_of ws) s
  rest_roundings (Word.entry e small is same) line root = ap (λ f. roundings_all f s) same
  rest_roundings (Word.head (of_line n) rest is takes) line root = absurd (line (omega (arith, first is, takes.in_range)))
  rest_roundings (Word.head (of_sum n) rest is takes) line root = omega (arith, roundings_taken ∣ takes ∣₁ s)
  rest_roundings (Word.head of_greater rest is takes) line root = omega (arith, roundings_taken ∣ takes ∣₁ s)
  rest_roundings (Word.head (of_root n es) rest is takes) line root = absurd (root (omega (arith, first is, takes.in_range.0, takes.in_range.1)))

-- the same of the word at a place
module _ (ws : List ℕ) (reads : Readable ws) (i : ℕ) (within : i < length ws) where
  pub line_here : line_kind ≡ get_or ws i 0 / value_room → IsLine (get_or ws i 0 % value_room)
  line_here kind = ∥∥₁_elim (word_here ws reads i within) (×_prop le_prop le_prop) (λ a. line_is _ _ a kind)

  module _ (s : Sheet) where
    pub gross_of_line : line_kind ≡ get_or ws i 0 / value_room → gross_all (forest_of (drop i ws)) s ≡ line_units s (get_or ws i 0 % value_room) + gross_all (forest_of (drop (i + 1) ws)) s
    gross_of_line kind = ∥∥₁_elim (word_here ws reads i within) (ℕ_set _ _) (λ a. ap (λ l. gross_all (forest_of l) s) (word_split ws i within) ∙ line_gross _ _ s a kind)

    pub gross_of_rest : (line_kind ≡ get_or ws i 0 / value_room → ⊥) → gross_all (forest_of (drop i ws)) s ≡ gross_all (forest_of (drop (i + 1) ws)) s
    gross_of_rest other = ∥∥₁_elim (word_here ws reads i within) (ℕ_set _ _) (λ a. ap (λ l. gross_all (forest_of l) s) (word_split ws i within) ∙ rest_gross _ _ s a other)

    pub rounding_of_line : line_kind ≡ get_or ws i 0 / value_room → roundings_all (forest_of (drop i ws)) s ≡ 1 + roundings_all (forest_of (drop (i + 1) ws)) s
    rounding_of_line kind = ∥∥₁_elim (word_here ws reads i within) (ℕ_set _ _) (λ a. ap (λ l. roundings_all (forest_of l) s) (word_split ws i within) ∙ line_roundings _ _ s a kind)

    pub rounding_of_root : root_kind ≡ get_or ws i 0 / value_room → roundings_all (forest_of (drop i ws)) s ≡ 1 + roundings_all (forest_of (drop (i + 1) ws)) s
    rounding_of_root kind = ∥∥₁_elim (word_here ws reads i within) (ℕ_set _ _) (λ a. ap (λ l. roundings_all (forest_of l) s) (word_split ws i within) ∙ root_roundings _ _ s a kind)

    pub no_rounding : (line_kind ≡ get_or ws i 0 / value_room → ⊥) → (root_kind ≡ get_or ws i 0 / value_room → ⊥) → roundings_all (forest_of (drop i ws)) s ≡ roundings_all (forest_of (drop (i + 1) ws)) s
    no_rounding line root = ∥∥₁_elim (word_here ws reads i within) (ℕ_set _ _) (λ a. ap (λ l. roundings_all (forest_of l) s) (word_split ws i within) ∙ rest_roundings _ _ s a line root)

-- what a test denies
pub denied : {b : Bool} {P : Type 0} → Decides b P → b ≡ false → P → ⊥
denied test unlike p = false≢true (sym unlike ∙ test.1 p)

-- all the words are the tree alone
pub read_gross : (ws : List ℕ) (s : Sheet) → Readable ws → gross_all (forest_of ws) s ≡ gross (tree_of ws) s
read_gross ws s reads = ∥∥₁_elim reads (ℕ_set _ _) (λ r. omega (arith, ap (λ f. gross_all f s) (reads_alone ws (tree_of ws) r)))

pub read_roundings : (ws : List ℕ) (s : Sheet) → Readable ws → roundings_all (forest_of ws) s ≡ roundings (tree_of ws) s
read_roundings ws s reads = ∥∥₁_elim reads (ℕ_set _ _) (λ r. omega (arith, ap (λ f. roundings_all f s) (reads_alone ws (tree_of ws) r)))

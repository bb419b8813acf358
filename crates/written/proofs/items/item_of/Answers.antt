-- What is left to show of `item_of`.
use mathlib.Core.List.{tail}
use Rattle.std.proofs.Common.{◌≡◌, ℕ, ◌/◌, ◌%◌, ◌<◌, List, ◌∷◌, ◌++◌, length, get_or, take, drop, None, Bor, sym, ap, ◌∙◌, arith, length-append}
use Rattle.correlation.specs.Tables.{above_count}
use Rattle.std.proofs.lemmas.List.{take_at, drop_at}
use Rattle.words.proofs.Parts.{counted, length_entry_words}
use Rattle.words.specs.Heads.{Head, HeadInRange, of_line, of_sum, of_greater, of_root, head_words}
use Rattle.words.specs.Items.{Shows}
use Rattle.words.specs.Words.{entry_words, kind_number, root_kind, value_room}
use Rattle.words.specs.declared.kind.Kind.{Kind}
use Rattle.words.specs.declared.kind.Kind.TheVariants as kinds
use Rattle.words.specs.declared.item.Item.TheVariants.{Root}
use Rattle.written.specs.Taking.{ItemOf}
use Rattle.written.proofs.items.item_of.Goals as goal

first : {xs ys : List ℕ} → xs ≡ ys → get_or xs 0 0 ≡ get_or ys 0 0
first e = ap (λ l. get_or l 0 0) e

-- a word of no kind begins no head
no_kind : (w : ℕ) (ws : List ℕ) → ((k : Kind) → kind_number k ≡ w / value_room → ⊥) → ItemOf w ws None
no_kind w ws other (of_line n) rest range is = other kinds.Line (omega (arith, first is))
no_kind w ws other (of_sum n) rest range is = other kinds.Sum (omega (arith, first is))
no_kind w ws other of_greater rest range is = other kinds.Greater (omega (arith, first is))
no_kind w ws other (of_root n es) rest range is = other kinds.Root (omega (arith, first is))

pub returns-in_err-of : goal.returns-in_err-of
returns-in_err-of c = rw c.from_residual.ensures (no_kind _ _ c.in_err-of.ensures)

-- the word of a root, with so many entries by its value
module _ (w n k : ℕ) (ws : List ℕ) (value : n ≡ w % value_room) (kind : root_kind ≡ w / value_room) (count : k ≡ above_count n) where
  -- the entries that its head has are so many
  entered : (m : ℕ) (es rest : List ℕ) → HeadInRange (of_root m es) → w ∷ ws ≡ head_words (of_root m es) ++ rest → (m ≡ n) × (length (entry_words es) ≡ k)
  entered m es rest range is =
      let same : m ≡ n = omega (arith, value, kind, first is) in
      (same, length_entry_words es ∙ range.2.count ∙ ap above_count same ∙ sym count)

  too_few : length ws < k → ItemOf w ws None
  too_few few (of_line m) rest range is = omega (arith, kind, first is)
  too_few few (of_sum m) rest range is = omega (arith, kind, first is)
  too_few few of_greater rest range is = omega (arith, kind, first is)
  too_few few (of_root m es) rest range is =
      omega (arith, few, (entered m es rest range is).1, length-append (entry_words es) rest, ap length (ap tail is))

  shows : (entries branches : Bor (List ℕ)) → entries.now ≡ take k ws → branches.now ≡ drop k ws → (h : Head) (rest : List ℕ) → HeadInRange h → w ∷ ws ≡ head_words h ++ rest → Shows (Root n entries branches) h rest
  shows entries branches front back (of_line m) rest range is = absurd (omega (arith, kind, first is))
  shows entries branches front back (of_sum m) rest range is = absurd (omega (arith, kind, first is))
  shows entries branches front back of_greater rest range is = absurd (omega (arith, kind, first is))
  shows entries branches front back (of_root m es) rest range is =
      let own = entered m es rest range is in (
        es,
        ap (λ x. of_root x es) own.0,
        front ∙ ap (λ l. take k (tail l)) is ∙ take_at (entry_words es) rest k own.1,
        back ∙ ap (λ l. drop k (tail l)) is ∙ drop_at (entry_words es) rest k own.1,
      )

pub returns-in_err-entries-in-Root : goal.returns-in_err-entries-in-Root
returns-in_err-entries-in-Root c =
    let count = counted _ _ (sym c.in_ok-entry_count-in-Root.ensures) in
    let kind = ap kind_number (sym c.in-Root.is) ∙ c.in_ok-of.ensures in
    rw c.from_residual-in_err-entries-in-Root.ensures (too_few _ _ _ _ c.value_of-count.ensures kind count c.in_err-entries-in-Root.ensures.cases)

pub returns-in_ok-entries-in-Root : goal.returns-in_ok-entries-in-Root
returns-in_ok-entries-in-Root c =
    let count = counted _ _ (sym c.in_ok-entry_count-in-Root.ensures) in
    let kind = ap kind_number (sym c.in-Root.is) ∙ c.in_ok-of.ensures in
    let parts = c.in_ok-entries-in-Root in
    (shows _ _ _ _ c.value_of-count.ensures kind count parts.entries parts.branches parts.ensures.cases.1 parts.ensures.cases.2, λ e small is. omega (arith, kind, is))

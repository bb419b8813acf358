-- Words are judged from left to right: what a place tells, whatever stands behind it.
use Rattle.std.specs.Prelude.{◌≡◌, ℕ, suc, ◌+◌, ◌<◌, ◌≤◌, ◌⊎◌, List, ◌++◌, length}
use Rattle.correlation.specs.Tables.{most_branches, above_count}
use Rattle.refusals.specs.declared.Refusal.{Refusal}
use Rattle.refusals.specs.declared.Refusal.TheVariants.{TooManyWords, WordsEndEarly, KindNotAllowed, ValueOutOfRange, TableNotLawful, TooDeep, WordsLeftOver}
use Rattle.words.specs.Faults.{Refused}
use Rattle.words.specs.Words.{most_words}

-- the refusal is told after n words, the last of which is at fault; or, of a table, after its root's entries at most
abbrev pub ToldAfter : ℕ → Refusal → Type 0
ToldAfter n e =
    (place : ℕ)
    × ((((e ≡ KindNotAllowed place) ⊎ (e ≡ ValueOutOfRange place) ⊎ (e ≡ TooDeep place) ⊎ (e ≡ WordsLeftOver place)) × (n ≡ suc place))
    ⊎ ((e ≡ TableNotLawful place) × (place < n) × (n ≤ suc place + above_count most_branches)))

-- 20 is told of too many words, and 21 at the end of all; any other refusal of so many words in front,
-- whatever stands behind them
pub data Placed (ws : List ℕ) (e : Refusal) : Type 0 where
  over : most_words < length ws → e ≡ TooManyWords most_words → Placed ws e
  short : e ≡ WordsEndEarly (length ws) → Placed ws e
  after : (front behind : List ℕ) → ws ≡ front ++ behind → ToldAfter (length front) e
      → ((others : List ℕ) → length (front ++ others) ≤ most_words → Refused (front ++ others) e) → Placed ws e

-- the same of every refusal of the words
abbrev pub LeftToRight : List ℕ → Type 0
LeftToRight ws = (e : Refusal) → Refused ws e → Placed ws e

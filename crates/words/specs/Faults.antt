-- What is wrong with words: the first fault, from left to right, with its number and its place.
use Rattle.std.specs.Prelude.{◌≡◌, ℕ, suc, ◌+◌, ◌<◌, ◌≤◌, ◌⊎◌, List, [], ◌∷◌, ◌++◌, length, ◌≢◌}
use Rattle.correlation.specs.Tables.{above_count}
use Rattle.modules.specs.Trees.{Tree}
use Rattle.refusals.specs.declared.Refusal.{Refusal}
use Rattle.refusals.specs.declared.Refusal.TheVariants.{TooManyWords, WordsEndEarly, KindNotAllowed, ValueOutOfRange, TableNotLawful, TooDeep, WordsLeftOver}
use Rattle.words.specs.Grammar.{Branch, Reads}
use Rattle.words.specs.Heads.{Head, Entered, Opens, HeadLawful, head_words, due}
use Rattle.words.specs.Words as words
use Rattle.words.specs.Words.{entry_words, BranchKind, ValueInRange, root_kind, entry_kind, value_room, most_entry, most_words, most_depth}

-- the words begin with one of this kind and this value, and go on with the rest
pub record Begins (ws : List ℕ) (kind value : ℕ) (rest : List ℕ) : Type 0 where
  pub words : ws ≡ words.word kind value ∷ rest
  pub below : value < value_room

-- no entry in range stands at this place, where one is due
pub data NoEntry (place : ℕ) (ws : List ℕ) (e : Refusal) : Type 0 where
  ends : ws ≡ [] → e ≡ WordsEndEarly place → NoEntry place ws e
  kind : (k v : ℕ) (rest : List ℕ) → Begins ws k v rest → (k ≢ entry_kind) → e ≡ KindNotAllowed place → NoEntry place ws e
  value : (v : ℕ) (rest : List ℕ) → Begins ws entry_kind v rest → most_entry < v → e ≡ ValueOutOfRange place → NoEntry place ws e

-- of n entries that are due, the first that is none: m stand before it
abbrev pub EntryFault : ℕ → ℕ → List ℕ → Refusal → Type 0
EntryFault n place ws e =
    (m : ℕ) × (es : List ℕ) × (rest : List ℕ) × (m < n) × Entered m es × (ws ≡ entry_words es ++ rest) × NoEntry (place + m) rest e

-- what is wrong with a word of this kind and this value, where a branch is due: 22, 23, 25, in that order
pub data WordFault (k v depth place : ℕ) (e : Refusal) : Type 0 where
  kind : (BranchKind k → ⊥) → e ≡ KindNotAllowed place → WordFault k v depth place e
  value : BranchKind k → (ValueInRange k v → ⊥) → e ≡ ValueOutOfRange place → WordFault k v depth place e
  deep : ValueInRange k v → most_depth < depth → e ≡ TooDeep place → WordFault k v depth place e

-- what is wrong with the head of a branch that is due at this depth and this place:
-- 21 where no word is left; then at its word; then at a root's entries
pub data HeadFault (depth place : ℕ) (ws : List ℕ) (e : Refusal) : Type 0 where
  ends : ws ≡ [] → e ≡ WordsEndEarly place → HeadFault depth place ws e
  word : (k v : ℕ) (rest : List ℕ) → Begins ws k v rest → WordFault k v depth place e → HeadFault depth place ws e
  entries : (v : ℕ) (rest : List ℕ) → Begins ws root_kind v rest → ValueInRange root_kind v → depth ≤ most_depth
      → EntryFault (above_count v) (suc place) rest e → HeadFault depth place ws e

mutual
  -- The first fault where a branch is due at this depth and this place, and these words follow:
  -- in its head; then 24 at its word; then in its branches.
  pub data Fault : ℕ → ℕ → List ℕ → Refusal → Type 0 where
    head : {depth place : ℕ} {ws : List ℕ} {e : Refusal} → HeadFault depth place ws e → Fault depth place ws e
    table : {depth place : ℕ} {ws : List ℕ} {e : Refusal} (h : Head) (rest : List ℕ) → Opens depth ws h rest
        → (HeadLawful h → ⊥) → e ≡ TableNotLawful place → Fault depth place ws e
    under : {depth place : ℕ} {ws : List ℕ} {e : Refusal} (h : Head) (rest : List ℕ) → Opens depth ws h rest
        → HeadLawful h → Faults (due h) (suc depth) (place + length (head_words h)) rest e → Fault depth place ws e

  -- of n branches that are due one behind the other, the first fault: in the first of them, or behind it
  pub data Faults : ℕ → ℕ → ℕ → List ℕ → Refusal → Type 0 where
    here : {n depth place : ℕ} {ws : List ℕ} {e : Refusal} → 1 ≤ n → Fault depth place ws e → Faults n depth place ws e
    behind : {n depth place : ℕ} {ws : List ℕ} {e : Refusal} (m : ℕ) (t : Tree) (bs cs : List ℕ) → n ≡ suc m
        → ws ≡ bs ++ cs → Branch t depth bs → Faults m depth (place + length bs) cs e → Faults n depth place ws e

-- a whole tree is read, and words are left behind it
abbrev pub LeftOver : List ℕ → Refusal → Type 0
LeftOver ws e = (t : Tree) × (bs : List ℕ) × (cs : List ℕ) × (ws ≡ bs ++ cs) × (cs ≢ []) × Branch t 1 bs × (e ≡ WordsLeftOver (length bs))

-- The refusal of words: 20 before all, then their first fault, and 26 where a whole tree is read and words are left.
abbrev pub Refused : List ℕ → Refusal → Type 0
Refused ws e =
    ((most_words < length ws) × (e ≡ TooManyWords most_words))
    ⊎ ((length ws ≤ most_words) × Fault 1 0 ws e)
    ⊎ ((length ws ≤ most_words) × LeftOver ws e)

-- words are refused exactly where they read as no tree
pub record RefusedExactly (ws : List ℕ) : Type 0 where
  pub not_both : (t : Tree) (e : Refusal) → Reads ws t → Refused ws e → ⊥
  pub one_refusal : (e d : Refusal) → Refused ws e → Refused ws d → e ≡ d
  pub or_read : ((t : Tree) → Reads ws t → ⊥) → (e : Refusal) × Refused ws e

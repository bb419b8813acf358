-- What each step of the reader says of the words.
use Rattle.std.specs.Prelude.{◌≡◌, ◌≢◌, ℕ, ◌≤◌, List, [], ◌++◌, Ok, Err, Result}
use Rattle.correlation.specs.Tables.{above_count}
use Rattle.modules.specs.Trees.{Forest, branch_count}
use Rattle.refusals.specs.declared.Refusal.{Refusal}
use Rattle.refusals.specs.declared.Refusal.TheVariants.{WordsEndEarly, KindNotAllowed, TableNotLawful}
use Rattle.words.specs.Cursors.{IsBehind}
use Rattle.words.specs.Faults.{Begins, NoEntry, HeadFault, EntryFault, Fault, Faults}
use Rattle.words.specs.Grammar.{Branches}
use Rattle.words.specs.Heads.{Head, HeadInRange, HeadLawful, Entered, Opens, of_root}
use Rattle.words.specs.Items.{BranchRead, Shows}
use Rattle.words.specs.Words.{entry_kind, kind_number, entry_words, most_entry}
use Rattle.words.specs.declared.cursor.Cursor.{Cursor}
use Rattle.words.specs.declared.item.Item.{Item}
use Rattle.words.specs.declared.kind.Kind.{Kind}

-- no word of any kind stands at this place
pub data NoWord (place : ℕ) (ws : List ℕ) (e : Refusal) : Type 0 where
  ends : ws ≡ [] → e ≡ WordsEndEarly place → NoWord place ws e
  kind : (k v : ℕ) (rest : List ℕ) → Begins ws k v rest → ((known : Kind) → kind_number known ≢ k) → e ≡ KindNotAllowed place → NoWord place ws e

-- the kind and the value of the word that stands next, and what stands behind it
abbrev pub WordSplit : Cursor → Result (Kind × ℕ × Cursor) Refusal → Type 0
WordSplit from (Ok p) = Begins from.words.now (kind_number p.0) p.1 p.2.words.now × IsBehind from p.2
WordSplit from (Err e) = NoWord from.place from.words.now e

-- an entry in range is read, and the rest is left; or none stands there
abbrev pub EntryRead : Cursor → Result Cursor Refusal → Type 0
EntryRead from (Ok rest) = (v : ℕ) × Begins from.words.now entry_kind v rest.words.now × (v ≤ most_entry) × IsBehind from rest
EntryRead from (Err e) = NoEntry from.place from.words.now e

-- n entries are read, and the rest is left; or the first that is none is told
abbrev pub EntriesRead : ℕ → Cursor → Result Cursor Refusal → Type 0
EntriesRead n from (Ok rest) =
    (es : List ℕ) × Entered n es × (from.words.now ≡ entry_words es ++ rest.words.now) × IsBehind from rest
EntriesRead n from (Err e) = EntryFault n from.place from.words.now e

-- a root of n branches, behind whose word these words stand: its entries, and what stands behind them; or the first that is none
abbrev pub RootOpening : ℕ → Cursor → Result (Item × Cursor) Refusal → Type 0
RootOpening n from (Ok p) =
    (es : List ℕ) × Entered (above_count n) es × (from.words.now ≡ entry_words es ++ p.1.words.now) × Shows p.0 (of_root n es) p.1.words.now × IsBehind from p.1
RootOpening n from (Err e) = EntryFault (above_count n) from.place from.words.now e

-- the head that the words begin with, and what stands behind it; or what is wrong with it
abbrev pub Opening : ℕ → Cursor → Result (Item × Cursor) Refusal → Type 0
Opening depth from (Ok p) = (h : Head) × Opens depth from.words.now h p.1.words.now × Shows p.0 h p.1.words.now × IsBehind from p.1
Opening depth from (Err e) = HeadFault depth from.place from.words.now e

-- the table of whatever head the item shows is lawful; or it is not
abbrev pub TableChecked : Item → ℕ → Result (Unit {0}) Refusal → Type 0
TableChecked item place (Ok u) = (h : Head) (ws : List ℕ) → HeadInRange h → Shows item h ws → HeadLawful h
TableChecked item place (Err e) =
    ((h : Head) (ws : List ℕ) → HeadInRange h → Shows item h ws → HeadLawful h → ⊥) × (e ≡ TableNotLawful place)

-- a branch is read, and the rest is left; or the first fault is told
abbrev pub ReadFrom : ℕ → Cursor → Result (Item × Cursor) Refusal → Type 0
ReadFrom depth from (Ok p) = BranchRead depth from.place from.words.now (Ok (p.0, p.1.words)) × IsBehind from p.1
ReadFrom depth from (Err e) = Fault depth from.place from.words.now e

-- n branches are read, one behind the other, and the rest is left; or the first fault is told
abbrev pub BranchesRead : ℕ → ℕ → Cursor → Result Cursor Refusal → Type 0
BranchesRead n depth from (Ok rest) =
    (f : Forest) × (bs : List ℕ) × (from.words.now ≡ bs ++ rest.words.now) × (branch_count f ≡ n) × Branches f depth bs × IsBehind from rest
BranchesRead n depth from (Err e) = Faults n depth from.place from.words.now e

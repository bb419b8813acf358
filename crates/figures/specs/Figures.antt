-- Worked figures of the rule book, each with what holds of it.
use Rattle.std.specs.Prelude.{◌≡◌, ℕ, ◌*◌, false, List, [], ◌∷◌, replicate, ℤ, pos, negsuc, Ok, Err, Result}
use Rattle.correlation.specs.Answers.{charge_of_branch, HasAbove, Replaced}
use Rattle.correlation.specs.Roots.{root}
use Rattle.correlation.specs.Tables.{LawfulAbove, entry}
use Rattle.correlation.specs.declared.table.Table.{Table}
use Rattle.limits.specs.Capital.{bins_of}
use Rattle.limits.specs.Limits.{stock_capital, mutual_capital}
use Rattle.limits.specs.declared.bins.Bins.{Bins}
use Rattle.modules.specs.Answers.{Priced}
use Rattle.modules.specs.Charged.{charged}
use Rattle.modules.specs.Sheets.{line_count, with_total}
use Rattle.modules.specs.Trees.{Tree, gross, roundings}
use Rattle.modules.specs.declared.sheet.Sheet.{Sheet}
use Rattle.ratio.specs.Classes.{class_of}
use Rattle.ratio.specs.Ratios.{held_against}
use Rattle.ratio.specs.declared.class.SupervisoryClass.{SupervisoryClass}
use Rattle.ratio.specs.declared.class.SupervisoryClass.TheVariants.{NoAction, First}
use Rattle.refusals.specs.Numbers.{number_of}
use Rattle.refusals.specs.declared.Refusal.{Refusal}
use Rattle.required.specs.Answers.{required_answer}
use Rattle.required.specs.Exact.{figure_unit, exact_figure}
use Rattle.required.specs.declared.settings.Settings.{Settings}
use Rattle.words.specs.Grammar.{Reads}

-- a table is given by its size and its entries above the diagonal, row by row
pub data Figure : Type 0 where
  -- the table is lawful
  lawful : (size : ℕ) (above : List ℕ) → Figure
  -- the table is refused by this number
  refused : (size : ℕ) (above : List ℕ) (number : ℕ) → Figure
  -- the root of the charges under the table is w
  rooted : (size : ℕ) (above charges : List ℕ) (w : ℕ) → Figure
  -- the words read as a tree with this gross, these roundings and this charge, where lines have these totals and the others 0
  written : (words : List ℕ) (totals : List (ℕ × ℕ)) (gross roundings charge : ℕ) → Figure
  -- a module that charges this is answered this operational charge, tax effect and required capital
  needed : (settings : Settings) (charge operational tax required : ℕ) → Figure
  -- the exact figure of required capital at w/k is n/d
  exact : (settings : Settings) (w k n d : ℕ) → Figure
  -- against required capital, a rule that counts hundredths of the bins has this ratio and class
  rated : (capital : Bins → ℕ → ℕ → ℕ) (required : ℕ) (uncapped : ℤ) (capped : List ℕ) (ratio : ℕ) (class : SupervisoryClass) → Figure
  -- the ratio is of this class
  classed : (ratio : ℕ) (class : SupervisoryClass) → Figure

-- the number that an answer refuses by
abbrev pub RefusedBy : ℕ → Result (Unit {0}) Refusal → Type 0
RefusedBy number (Ok u) = ⊥
RefusedBy number (Err e) = number_of e ≡ number

-- the sheet with these bins, and nothing on any line
abbrev pub sheet_of : ℤ → List ℕ → Sheet
sheet_of uncapped capped = record { lines = replicate line_count 0; uncapped = uncapped; capped = capped }

-- the sheet of lines with their totals, and nothing in any bin
abbrev pub sheet_with : List (ℕ × ℕ) → Sheet
sheet_with [] = sheet_of (pos 0) (replicate 6 0)
sheet_with (p ∷ ps) = with_total (sheet_with ps) p.0 p.1

abbrev pub Holds : Figure → Type 0
Holds (lawful size above) = LawfulAbove size above
Holds (refused size above number) =
    (before after : Table) (answer : Result (Unit {0}) Refusal) → Replaced (LawfulAbove size above) (HasAbove size above) before after answer → RefusedBy number answer
Holds (rooted size above charges w) = LawfulAbove size above × (root size (entry size above) (charge_of_branch charges) ≡ w)
Holds (written words totals g n c) =
    (t : Tree) × Reads words t × (gross t (sheet_with totals) ≡ g) × (roundings t (sheet_with totals) ≡ n) × (charged t (sheet_with totals) ≡ c)
Holds (needed s a operational tax required) =
    (t : Tree) (sheet : Sheet)
    → Priced (gross t sheet) (roundings t sheet)
    → required_answer s t sheet a ≡ Ok (record { charge = a; operational = operational; tax_effect = tax; required = required; roundings = roundings t sheet })
Holds (exact s w k n d) = d * exact_figure s w k ≡ n * (k * figure_unit)
Holds (rated capital required uncapped capped ratio class) =
    held_against required (sheet_of uncapped capped) 100 (capital (bins_of (sheet_of uncapped capped)) required 1) ≡ Ok (record { ratio = ratio; class = class })
Holds (classed ratio class) = class_of ratio ≡ class

-- premium 1000, last year 800 and estimate 5000 of life with risk; tax rate 28%, refund 10, profit 100, and this net deferred tax
abbrev pub worked : ℤ → Settings
worked net = record {
  life = record { premium = pos 1000; last_premium = pos 800; estimate = pos 5000 };
  life_without_risk = pos 0;
  non_life = record { premium = pos 0; last_premium = pos 0; estimate = pos 0 };
  tax_rate = pos 2800;
  carry_back_refund = pos 10;
  profit = pos 100;
  net_deferred_tax = net;
  management_deduction = pos 0;
}

abbrev pub figures : List Figure
figures =
    -- three branches, 0 between the first two and 70 elsewhere; then 71 elsewhere
    lawful 3 (0 ∷ 70 ∷ 70 ∷ [])
    ∷ refused 3 (0 ∷ 71 ∷ 71 ∷ []) 24
    -- charges 300 and 400 at entry 0
    ∷ rooted 2 (0 ∷ []) (300 ∷ 400 ∷ []) 500
    -- a written root of lines 1 and 14 at 25, with 100 units on each
    ∷ written (0x40000002 ∷ 0x50000019 ∷ 0x10000001 ∷ 0x1000000E ∷ []) ((1, 1000000) ∷ (14, 1000000) ∷ []) 200 3 159
    -- charge 159 with no net deferred tax, and with −50
    ∷ needed (worked (pos 0)) 159 32 24 167
    ∷ needed (worked (negsuc 49)) 159 32 0 191
    -- the exact figures at 158 and 159
    ∷ exact (worked (pos 0)) 158 1 1656 10
    ∷ exact (worked (pos 0)) 159 1 1668 10
    -- required capital 167 and bins 150, 30 and 60, under the stock rule (10%) and the mutual rule
    ∷ rated (stock_capital false) 167 (pos 150) (30 ∷ 60 ∷ 0 ∷ 0 ∷ 0 ∷ 0 ∷ []) 13532 NoAction
    ∷ rated mutual_capital 167 (pos 150) (30 ∷ 60 ∷ 0 ∷ 0 ∷ 0 ∷ 0 ∷ []) 14371 NoAction
    ∷ classed 9999 First
    ∷ []

-- What statements are answered, each under the table and the sheet that the ones before it left.
use Rattle.std.specs.Prelude.{◌≡◌, ℕ, ◌^◌, ◌<◌, ◌≤◌, List, [], ◌∷◌, Some, None, Ok, Err, vec_items, Option, Result, Vec}
use Rattle.correlation.specs.Answers.{unlawful, Independent, HasAbove, root_answer}
use Rattle.correlation.specs.Tables.{LawfulAbove}
use Rattle.correlation.specs.declared.table.Table.{Table}
use Rattle.refusals.specs.declared.Refusal.{Refusal}
use Rattle.modules.specs.declared.answer.Charge.{Charge}
use Rattle.modules.specs.Answers.{charge_answer}
use Rattle.modules.specs.Charged.{charged}
use Rattle.modules.specs.Sheets.{Blank, LineSet}
use Rattle.modules.specs.Trees.{Tree}
use Rattle.modules.specs.declared.sheet.Sheet.{Sheet}
use Rattle.standard.specs.Standard.{standard_tree, non_life_lines, catastrophe_lines}
use Rattle.script.specs.Meaning.{Said, table, root, total, price_standard, meaning}
use Rattle.script.specs.declared.Fault.{Fault}
use Rattle.script.specs.declared.Fault.TheVariants.{Memory, Line}
use Rattle.session.specs.declared.answer.Answer.{Answer}
use Rattle.session.specs.declared.answer.Answer.TheVariants as answer
use Rattle.session.specs.declared.answer.Declined.{Declined}
use Rattle.session.specs.declared.answer.Declined.TheVariants.{OutOfRange, Refused}
use Rattle.session.specs.declared.answer.LineTotal.{LineTotal}
use Rattle.session.specs.declared.state.State.{State}
use Rattle.std.specs.declared.alloc.Global.{Global}
use Rattle.std.specs.List.{AllByRecursion}

-- each number is a charge: it has at most 32 bits
abbrev pub Charges : List ℕ → Type 0
Charges ns = AllByRecursion (λ n. n < 2 ^ 32) ns

-- the same numbers, where each has at most 32 bits
abbrev pub Narrowed : List ℕ → Option (Vec ℕ Global) → Type 0
Narrowed ns None = Charges ns → ⊥
Narrowed ns (Some v) = Charges ns × (vec_items v ≡ ns)

-- Each relation below sets out the answer to one statement, in every case.

-- a lawful table stands from now on; any other leaves the one before it
abbrev pub TableAnswered : ℕ → List ℕ → Table → Table → Result ℕ Refusal → Type 0
TableAnswered n entries before after (Ok size) = LawfulAbove n entries × HasAbove n entries after × (size ≡ n)
TableAnswered n entries before after (Err e) = (LawfulAbove n entries → ⊥) × (e ≡ unlawful) × (after ≡ before)

-- the root of the charges under the table that stands, or its refusal
abbrev pub RootAnswered : List ℕ → Table → Result ℕ Declined → Type 0
RootAnswered charges t (Ok w) = Charges charges × (root_answer t charges ≡ Ok w)
RootAnswered charges t (Err OutOfRange) = Charges charges → ⊥
RootAnswered charges t (Err (Refused e)) = Charges charges × (root_answer t charges ≡ Err e)

-- what all line totals together may be at most, in ten-thousandths of a unit
abbrev pub most_total : ℕ
most_total = 2000000000000

-- a line's total is set; a total out of range, and then a line out of range, leave the sheet
abbrev pub TotalAnswered : ℕ → ℕ → Sheet → Sheet → Result LineTotal Declined → Type 0
TotalAnswered n t before after (Ok set) = (t ≤ most_total) × LineSet n t before after (Ok tt) × (set.line ≡ n) × (set.total ≡ t)
TotalAnswered n t before after (Err OutOfRange) = (most_total < t) × (after ≡ before)
TotalAnswered n t before after (Err (Refused e)) = (t ≤ most_total) × LineSet n t before after (Err e)

-- the standard tree with the sums of lines 2 to 9 and 10 to 13 for its two modules
abbrev pub line_tree : Tree
line_tree = standard_tree non_life_lines catastrophe_lines

-- its price at the sheet
abbrev pub PriceAnswered : Sheet → Result Charge Refusal → Type 0
PriceAnswered s r = r ≡ charge_answer line_tree s (charged line_tree s)

-- what is answered to one statement, with the table and the sheet that stand before and after it; an answer to another statement is none
abbrev pub Answered : Said → State → State → Answer → Type 0
Answered (table n entries) before after a =
    (r : Result ℕ Refusal) × (a ≡ answer.Table r) × TableAnswered n entries before.table after.table r × (after.sheet ≡ before.sheet)
Answered (root charges) before after a = (r : Result ℕ Declined) × (a ≡ answer.Root r) × RootAnswered charges before.table r × (after ≡ before)
Answered (total n t) before after a =
    (r : Result LineTotal Declined) × (a ≡ answer.Total r) × TotalAnswered n t before.sheet after.sheet r × (after.table ≡ before.table)
Answered price_standard before after a = (r : Result Charge Refusal) × (a ≡ answer.Price r) × PriceAnswered before.sheet r × (after ≡ before)

-- what is answered to statements in order, from the state that stands first to the one that stands last
abbrev pub Ran : List Said → State → List Answer → State → Type 0
Ran [] first [] last = last ≡ first
Ran [] first (a ∷ answers) last = ⊥
Ran (s ∷ ss) first [] last = ⊥
Ran (s ∷ ss) first (a ∷ answers) last = (next : State) × Answered s first next a × Ran ss next answers last

-- a run begins with a table of one branch and a blank sheet
abbrev pub First : State → Type 0
First x = Independent 1 x.table × Blank x.sheet

abbrev pub Started : List Said → List Answer → Type 0
Started ss answers = (first : State) × (last : State) × First first × Ran ss first answers last

-- what is answered to a text: its statements are run, unless a line is misread or memory ran out
abbrev pub TextAnswered : List ℕ → Result (Vec Answer Global) Fault → Type 0
TextAnswered text (Ok answers) = (ss : List Said) × (meaning text ≡ Ok ss) × Started ss (vec_items answers)
TextAnswered text (Err Memory) = Unit {0}
TextAnswered text (Err (Line n m)) = meaning text ≡ Err (n, m)

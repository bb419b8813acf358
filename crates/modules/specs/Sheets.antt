-- What a sheet says of lines and bins, and what setting one of them leaves.
use Rattle.std.specs.Prelude.{◌≡◌, ℕ, ◌+◌, ◌-◌, ◌*◌, ◌/◌, ◌≤◌, cond, ◌&&◌, List, replicate, ℤ, pos, Some, None, Ok, Err, Option, Result, nat_le, slice_index, slice_set}
use Rattle.modules.specs.declared.sheet.Sheet.{Sheet}
use Rattle.refusals.specs.declared.Refusal.{Refusal}
use Rattle.refusals.specs.declared.Refusal.TheVariants.{UnknownLineOrBin, ValueOutOfRange}

-- how many lines a sheet has; they are numbered from 1
abbrev pub line_count : ℕ
line_count = 29

abbrev pub IsLine : ℕ → Type 0
IsLine n = (1 ≤ n) × (n ≤ line_count)

-- bins 2 to 7 hold capital that counts up to a limit
abbrev pub IsCapped : ℕ → Type 0
IsCapped n = (2 ≤ n) × (n ≤ 7)

-- the exact total of a line, in ten-thousandths of a unit
abbrev pub total_of : Sheet → ℕ → ℕ
total_of s n = slice_index s.lines (n - 1)

-- the total of one of bins 2 to 7, in units
abbrev pub capped_of : Sheet → ℕ → ℕ
capped_of s n = slice_index s.capped (n - 2)

-- every total is 0
abbrev pub Blank : Sheet → Type 0
Blank s = s ≡ record { lines = replicate line_count 0; uncapped = pos 0; capped = replicate 6 0 }

-- the sheet with one total set
abbrev pub with_total : Sheet → ℕ → ℕ → Sheet
with_total s n t = record { lines = slice_set s.lines (n - 1) t; uncapped = s.uncapped; capped = s.capped }

abbrev pub with_uncapped : Sheet → ℤ → Sheet
with_uncapped s t = record { lines = s.lines; uncapped = t; capped = s.capped }

abbrev pub with_capped : Sheet → ℕ → ℕ → Sheet
with_capped s n t = record { lines = s.lines; uncapped = s.uncapped; capped = slice_set s.capped (n - 2) t }

-- the total of a number from first to last, where totals stand in order of their numbers
abbrev pub numbered_answer : List ℕ → ℕ → ℕ → ℕ → Option ℕ
numbered_answer ts first last n = cond (nat_le first n && nat_le n last) (Some (slice_index ts (n - first))) None

abbrev pub total_answer : Sheet → ℕ → Option ℕ
total_answer s = numbered_answer s.lines 1 line_count

abbrev pub capped_answer : Sheet → ℕ → Option ℕ
capped_answer s = numbered_answer s.capped 2 7

-- the total of such a number is set; any other is refused
abbrev pub NumberedSet : ℕ → ℕ → Refusal → ℕ → ℕ → List ℕ → List ℕ → Result (Unit {0}) Refusal → Type 0
NumberedSet first last refusal n t before after (Ok u) = ((first ≤ n) × (n ≤ last)) × (after ≡ slice_set before (n - first) t)
NumberedSet first last refusal n t before after (Err e) = ((first ≤ n) × (n ≤ last) → ⊥) × (e ≡ refusal) × (after ≡ before)

-- a line that there is has its total set; any other is refused 23 at 0
abbrev pub LineSet : ℕ → ℕ → Sheet → Sheet → Result (Unit {0}) Refusal → Type 0
LineSet n t before after (Ok u) = IsLine n × (after ≡ with_total before n t)
LineSet n t before after (Err e) = (IsLine n → ⊥) × (e ≡ ValueOutOfRange 0) × (after ≡ before)

-- the same of bins 2 to 7; any other is refused 14
abbrev pub CappedSet : ℕ → ℕ → Sheet → Sheet → Result (Unit {0}) Refusal → Type 0
CappedSet n t before after (Ok u) = IsCapped n × (after ≡ with_capped before n t)
CappedSet n t before after (Err e) = (IsCapped n → ⊥) × (e ≡ UnknownLineOrBin) × (after ≡ before)

-- u is the least whole number of units that is not below the total t
pub record RoundedUp (t u : ℕ) : Type 0 where
  pub enough : t ≤ 10000 * u
  pub least : (v : ℕ) → t ≤ 10000 * v → u ≤ v

-- that number
unfoldable pub units : ℕ → ℕ
units t = (t + 9999) / 10000

-- the rounded-up total of a line
abbrev pub line_units : Sheet → ℕ → ℕ
line_units s n = units (total_of s n)

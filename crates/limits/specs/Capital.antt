-- The capital of a sheet, by its bins.
use Rattle.std.specs.Prelude.{ℕ, ◌+◌, ℤ, pos, negsuc, Ok, Err, Result}
use Rattle.limits.specs.declared.bins.Bins.{Bins}
use Rattle.modules.specs.Sheets.{capped_of}
use Rattle.modules.specs.declared.sheet.Sheet.{Sheet}
use Rattle.refusals.specs.declared.Refusal.{Refusal}
use Rattle.refusals.specs.declared.Refusal.TheVariants.{UncappedBelowZero}

-- a total of bin 1 that is below 0 is refused 33; where it is not, x is answered
abbrev pub unless_below : {A : Type 0} → ℤ → A → Result A Refusal
unless_below (pos total) x = Ok x
unless_below (negsuc total) x = Err UncappedBelowZero

-- a total as a whole number, where it is not below 0
abbrev pub whole : ℤ → ℕ
whole (pos total) = total
whole (negsuc total) = 0

-- bins 1 to 7, in units
abbrev pub bins_of : Sheet → Bins
bins_of s = record {
  uncapped = whole s.uncapped;
  limited = capped_of s 2;
  paid = capped_of s 3;
  unpaid = capped_of s 4;
  pension = capped_of s 5;
  deferred = capped_of s 6;
  software = capped_of s 7;
}

-- all of them together
abbrev pub all_of : Bins → ℕ
all_of b = b.uncapped + b.limited + b.paid + b.unpaid + b.pension + b.deferred + b.software

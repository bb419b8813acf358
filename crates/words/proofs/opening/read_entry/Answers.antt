-- The kind and the value of the first word tell whether it is an entry.
use Rattle.std.proofs.Common.{refl}
use Rattle.words.specs.Faults.NoEntry.{kind, value}
use Rattle.words.specs.Steps.{EntryRead}
use Rattle.words.proofs.Parts.{handed_on, no_entry, entry_alone}
use Rattle.words.proofs.opening.read_entry.Goals as goal

pub returns-in_err-kind : goal.returns-in_err-kind
returns-in_err-kind c = handed_on (EntryRead c.args.from) c.from_residual.ensures.1 (no_entry _ _ _ c.in_err-kind.ensures)

pub returns-in-Entry : goal.returns-in-Entry
returns-in-Entry c = value _ _ (rw c.in-Entry.is at c.in_ok-kind.ensures.0) c.if-value-gt-MOST_ENTRY.true refl

pub returns-in_default : goal.returns-in_default
returns-in_default c = kind _ _ _ c.in_ok-kind.ensures.0 (λ same. c.in_default.not-Entry (entry_alone _ same)) refl

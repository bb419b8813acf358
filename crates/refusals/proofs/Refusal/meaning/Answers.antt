-- Each arm's text is the meaning of the refusal that led there.
use Rattle.std.proofs.Common.{sym, ap}
use Rattle.refusals.specs.Numbers.{meaning_of}
use Rattle.refusals.proofs.Refusal.meaning.Goals as goal

pub returns-in-KeyOutOfRange : goal.returns-in-KeyOutOfRange
returns-in-KeyOutOfRange c = ap meaning_of (sym c.in-KeyOutOfRange.is)

pub returns-in-AmountOutOfRange : goal.returns-in-AmountOutOfRange
returns-in-AmountOutOfRange c = ap meaning_of (sym c.in-AmountOutOfRange.is)

pub returns-in-MarkOutOfRange : goal.returns-in-MarkOutOfRange
returns-in-MarkOutOfRange c = ap meaning_of (sym c.in-MarkOutOfRange.is)

pub returns-in-TotalsTooLarge : goal.returns-in-TotalsTooLarge
returns-in-TotalsTooLarge c = ap meaning_of (sym c.in-TotalsTooLarge.is)

pub returns-in-TooManyWords : goal.returns-in-TooManyWords
returns-in-TooManyWords c = ap meaning_of (sym c.in-TooManyWords.is)

pub returns-in-ValueOutOfRange : goal.returns-in-ValueOutOfRange
returns-in-ValueOutOfRange c = ap meaning_of (sym c.in-ValueOutOfRange.is)

pub returns-in-WordsLeftOver : goal.returns-in-WordsLeftOver
returns-in-WordsLeftOver c = ap meaning_of (sym c.in-WordsLeftOver.is)

pub returns-in-GrossTooLarge : goal.returns-in-GrossTooLarge
returns-in-GrossTooLarge c = ap meaning_of (sym c.in-GrossTooLarge.is)

pub returns-in-TooManyRoundings : goal.returns-in-TooManyRoundings
returns-in-TooManyRoundings c = ap meaning_of (sym c.in-TooManyRoundings.is)

pub returns-in-SettingOutOfRange : goal.returns-in-SettingOutOfRange
returns-in-SettingOutOfRange c = ap meaning_of (sym c.in-SettingOutOfRange.is)

-- The number, the place, the meaning and the printed form of every refusal.
use Rattle.std.specs.Prelude.{ℕ, List, ◌++◌, Some, None, codes, decimal, Option}
use Rattle.refusals.specs.declared.Refusal.{Refusal}
use Rattle.refusals.specs.declared.Refusal.TheVariants.{KeyOutOfRange, KeyStanding, NoSuchKey, UnknownLineOrBin, AmountOutOfRange, MarkOutOfRange, PlacesTaken, TotalsTooLarge, TooManyWords, WordsEndEarly, KindNotAllowed, ValueOutOfRange, TableNotLawful, TooDeep, WordsLeftOver, GrossTooLarge, TooManyRoundings, SettingOutOfRange, RequiredIsZero, UncappedBelowZero}

abbrev pub number_of : Refusal → ℕ
number_of KeyOutOfRange = 11
number_of KeyStanding = 12
number_of NoSuchKey = 13
number_of UnknownLineOrBin = 14
number_of AmountOutOfRange = 15
number_of MarkOutOfRange = 16
number_of PlacesTaken = 17
number_of TotalsTooLarge = 18
number_of (TooManyWords at) = 20
number_of (WordsEndEarly at) = 21
number_of (KindNotAllowed at) = 22
number_of (ValueOutOfRange at) = 23
number_of (TableNotLawful at) = 24
number_of (TooDeep at) = 25
number_of (WordsLeftOver at) = 26
number_of GrossTooLarge = 27
number_of TooManyRoundings = 28
number_of SettingOutOfRange = 31
number_of RequiredIsZero = 32
number_of UncappedBelowZero = 33

-- refusals 20 to 26 are of words, and tell the place of the word at fault
abbrev pub place_of : Refusal → Option ℕ
place_of KeyOutOfRange = None
place_of KeyStanding = None
place_of NoSuchKey = None
place_of UnknownLineOrBin = None
place_of AmountOutOfRange = None
place_of MarkOutOfRange = None
place_of PlacesTaken = None
place_of TotalsTooLarge = None
place_of (TooManyWords at) = Some at
place_of (WordsEndEarly at) = Some at
place_of (KindNotAllowed at) = Some at
place_of (ValueOutOfRange at) = Some at
place_of (TableNotLawful at) = Some at
place_of (TooDeep at) = Some at
place_of (WordsLeftOver at) = Some at
place_of GrossTooLarge = None
place_of TooManyRoundings = None
place_of SettingOutOfRange = None
place_of RequiredIsZero = None
place_of UncappedBelowZero = None

abbrev pub meaning_of : Refusal → List ℕ
meaning_of KeyOutOfRange = codes "the key is out of range"
meaning_of KeyStanding = codes "a record stands under this key"
meaning_of NoSuchKey = codes "no record stands under this key"
meaning_of UnknownLineOrBin = codes "there is no such line or bin"
meaning_of AmountOutOfRange = codes "the amount is out of range"
meaning_of MarkOutOfRange = codes "the mark is out of range"
meaning_of PlacesTaken = codes "all usable places are taken"
meaning_of TotalsTooLarge = codes "the line totals together would be too large"
meaning_of (TooManyWords at) = codes "there are more than 512 words"
meaning_of (WordsEndEarly at) = codes "the words end early"
meaning_of (KindNotAllowed at) = codes "a word of this kind may not stand here"
meaning_of (ValueOutOfRange at) = codes "the value is out of range"
meaning_of (TableNotLawful at) = codes "the correlation table is not lawful"
meaning_of (TooDeep at) = codes "the tree is too deep"
meaning_of (WordsLeftOver at) = codes "words are left over after the tree"
meaning_of GrossTooLarge = codes "the gross is too large"
meaning_of TooManyRoundings = codes "there are too many roundings"
meaning_of SettingOutOfRange = codes "a setting is out of range"
meaning_of RequiredIsZero = codes "required capital is 0"
meaning_of UncappedBelowZero = codes "uncapped capital is below 0"

-- the number, the place where there is one, and the meaning
abbrev pub told_at : ℕ → Option ℕ → List ℕ → List ℕ
told_at number None meaning = decimal number ++ (codes ": " ++ meaning)
told_at number (Some place) meaning = decimal number ++ (codes " at " ++ (decimal place ++ (codes ": " ++ meaning)))

-- what is printed of a refusal
abbrev pub told : Refusal → List ℕ
told x = told_at (number_of x) (place_of x) (meaning_of x)

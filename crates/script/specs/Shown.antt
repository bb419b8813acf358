-- What a fault is printed as.
use Rattle.std.specs.Prelude.{ℕ, List, ◌++◌, codes, decimal}
use Rattle.script.specs.declared.Fault.{Fault}
use Rattle.script.specs.declared.Fault.TheVariants.{Memory, Line}
use Rattle.script.specs.declared.Misread.{Misread}
use Rattle.script.specs.declared.Misread.TheVariants.{UnknownStatement, SizeMissing, NotANumber, TotalParts, UnknownTree}

-- what is wrong with a line
abbrev pub misread_text : Misread → List ℕ
misread_text UnknownStatement = codes "unknown statement"
misread_text SizeMissing = codes "the table has no size"
misread_text NotANumber = codes "not a number"
misread_text TotalParts = codes "a total has a line and an amount"
misread_text UnknownTree = codes "unknown tree"

-- the same with the number of the line
abbrev pub fault_text : Fault → List ℕ
fault_text Memory = codes "out of memory"
fault_text (Line n m) = codes "line " ++ (decimal n ++ (codes ": " ++ misread_text m))

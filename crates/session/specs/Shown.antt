-- What an answer is printed as.
use Rattle.std.specs.Prelude.{ℕ, List, ◌++◌, codes, decimal, Ok, Err}
use Rattle.refusals.specs.Numbers.{told}
use Rattle.session.specs.declared.answer.Answer.{Answer}
use Rattle.session.specs.declared.answer.Answer.TheVariants.{Table, Root, Total, Price}
use Rattle.session.specs.declared.answer.Declined.TheVariants.{OutOfRange, Refused}

abbrev pub answer_text : Answer → List ℕ
answer_text (Table (Ok size)) = codes "table: lawful, " ++ (decimal size ++ codes " branches")
answer_text (Table (Err refusal)) = codes "table: refused " ++ told refusal
answer_text (Root (Ok root)) = codes "root: " ++ decimal root
answer_text (Root (Err OutOfRange)) = codes "root: out of range: a charge is above 4294967295"
answer_text (Root (Err (Refused refusal))) = codes "root: refused " ++ told refusal
answer_text (Total (Ok set)) = codes "total: line " ++ (decimal set.line ++ (codes " is " ++ decimal set.total))
answer_text (Total (Err OutOfRange)) = codes "total: out of range: the amount is above 2000000000000"
answer_text (Total (Err (Refused refusal))) = codes "total: refused " ++ told refusal
answer_text (Price (Ok c)) =
    codes "price standard: gross " ++ (decimal c.gross ++ (codes ", roundings " ++ (decimal c.roundings ++ (codes ", charge " ++ decimal c.amount))))
answer_text (Price (Err refusal)) = codes "price standard: refused " ++ told refusal

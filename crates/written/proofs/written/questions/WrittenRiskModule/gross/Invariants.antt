-- What the loop of `Written::gross` keeps: the gross of the words so far, and of those from there on.
use Rattle.std.proofs.Common.{◌≡◌, ◌+◌, ◌*◌, ◌≤◌, drop}
use Rattle.modules.specs.Answers.{most_gross}
use Rattle.modules.specs.Trees.{gross_all}
use Rattle.written.specs.Reading.{forest_of}
use Rattle.written.proofs.written.questions.WrittenRiskModule.gross.Given as goal

abbrev pub invariant-loop-word : goal.invariant-loop-word
invariant-loop-word l =
    (l.gross + gross_all (forest_of (drop l.word-index l.words)) l.sheet ≡ gross_all (forest_of l.words) l.sheet)
    × (l.gross ≤ most_gross * l.word-index)

-- What the loop of `Written::roundings` keeps: the roundings of the words so far, and of those from there on.
use Rattle.std.proofs.Common.{◌≡◌, ◌+◌, ◌≤◌, drop}
use Rattle.modules.specs.Trees.{roundings_all}
use Rattle.written.specs.Reading.{forest_of}
use Rattle.written.proofs.written.questions.WrittenRiskModule.roundings.Given as goal

abbrev pub invariant-loop-word : goal.invariant-loop-word
invariant-loop-word l =
    (l.roundings + roundings_all (forest_of (drop l.word-index l.words)) l._sheet ≡ roundings_all (forest_of l.words) l._sheet)
    × (l.roundings ≤ l.word-index)

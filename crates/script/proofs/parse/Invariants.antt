-- The statements so far, and what the lines still to come say, are the meaning of the text.
use Rattle.std.proofs.Common.{◌≡◌, ◌+◌, drop, map, length, vec_items}
use Rattle.script.specs.Meaning.{said, lines_from, meaning}
use Rattle.script.specs.Pieces.{lines_of}
use Rattle.script.proofs.Turns.{then}
use Rattle.script.proofs.parse.Given as goal

abbrev pub invariant-loop-above : goal.invariant-loop-above
invariant-loop-above l =
    then (map said (vec_items l.statements)) (lines_from (length l.yielded + 1) (drop (length l.yielded) (lines_of l.text))) ≡ meaning l.text

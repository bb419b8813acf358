-- What stands before the rest are entries in range, as many as were read.
use Rattle.std.proofs.Common.{◌≡◌, ℕ, List, ◌++◌}
use Rattle.words.specs.Cursors.{IsBehind}
use Rattle.words.specs.Heads.{Entered}
use Rattle.words.specs.Words.{entry_words}
use Rattle.words.proofs.opening.read_entries.Given as goal

abbrev pub invariant-loop : goal.invariant-loop
invariant-loop l = (es : List ℕ) × Entered l.counter es × (l.fn.from.words.now ≡ entry_words es ++ l.rest.words.now) × IsBehind l.fn.from l.rest

-- What the loop of `narrowed` keeps.
use Rattle.std.proofs.Common.{◌≡◌, take, vec_items}
use Rattle.session.specs.Runs.{Charges}
use Rattle.session.proofs.run.narrowed.Given as goal

abbrev pub invariant-loop-n : goal.invariant-loop-n
invariant-loop-n l = (vec_items l.narrow ≡ take l.n-index l.numbers) × Charges (take l.n-index l.numbers)

-- The digits that are left, read behind those that were read, give the number of all.
use Rattle.std.proofs.Common.{◌≡◌, ◌≤◌, drop}
use Rattle.digits.proofs.Saturates.{number_from}
use Rattle.digits.proofs.number.Given as goal

abbrev pub invariant-loop-b : goal.invariant-loop-b
invariant-loop-b l = (number_from l.most l.n (drop l.b-index l.digits) ≡ number_from l.most 0 l.digits) × (l.n ≤ l.most)

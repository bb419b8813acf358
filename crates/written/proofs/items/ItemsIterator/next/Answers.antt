-- What is left to show of `Items::next`.
use Rattle.std.proofs.Common.{◌≤◌, length, ap, arith}
use Rattle.written.proofs.Suffixes.{passed_here, takes_here}
use Rattle.written.proofs.items.ItemsIterator.next.Goals as goal

pub returns-in-Some-clause-steps : goal.returns-in-Some-clause-steps
returns-in-Some-clause-steps c =
    let self = c.loop-place.self in
    let same = c.loop-place.invariant.1 in
    let within : c.loop-place.place ≤ length self.words.now = omega (arith, c.loop-place.invariant.0, self.within) in (
      ap (λ s. s.words.now) same,
      omega (arith, c.loop-place-test.true, c.loop-place.invariant.0, ap (λ s. s.left) same),
      takes_here self.words.now self.reads c.loop-place.place c.loop-place-test.true within _ c.loop-place.invariant.2 c.in-Some.item c.in-Some.ensures,
    )

pub loop-place-preserved : goal.loop-place-preserved
loop-place-preserved c =
    let self = c.loop-place.self in
    let within : c.loop-place.place ≤ length self.words.now = omega (arith, c.loop-place.invariant.0, self.within) in (
      omega (arith, c.loop-place.invariant.0),
      c.loop-place.invariant.1,
      passed_here self.words.now self.reads c.loop-place.place c.loop-place-test.true within _ c.loop-place.invariant.2 c.in_default.ensures,
    )

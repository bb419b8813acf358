-- What is left to show of `InRange::raw_charge`.
use Rattle.required.proofs.Small.{non_life_in}
use Rattle.required.proofs.ranges.InRange.raw_charge.Goals as goal

pub invariant_of-part-2-clause-in_range : goal.invariant_of-part-2-clause-in_range
invariant_of-part-2-clause-in_range c = non_life_in c.args.self.now.settings c.args.self.now.in_range

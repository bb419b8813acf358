-- What is left to show of `made`.
use Rattle.standard.specs.Standing.{tables_lawful}
use Rattle.standard.proofs.spread.Spread.made.Goals as goal

pub with_spread-requires-clause-lawful : goal.with_spread-requires-clause-lawful
with_spread-requires-clause-lawful c = tables_lawful.up

pub with_spread-requires-in-Down-clause-lawful : goal.with_spread-requires-in-Down-clause-lawful
with_spread-requires-in-Down-clause-lawful c = tables_lawful.down

-- What is left to show of `shares`.
use Rattle.standard.specs.Standing.{tables_lawful}
use Rattle.standard.proofs.shares.shares.Goals as goal

pub root-requires : goal.root-requires
root-requires c = tables_lawful.shares

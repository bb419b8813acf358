-- What is left to show of `standard`.
use Rattle.standard.specs.Standing.{tables_lawful, twenty}
use Rattle.standard.proofs.standard.Goals as goal

pub root-requires : goal.root-requires
root-requires g c = tables_lawful.top

pub returns-clause-twenty : goal.returns-clause-twenty
returns-clause-twenty g c = twenty _ _

-- What is left to show of `standard_tables_lawful`.
use Rattle.standard.specs.Standing.{tables_lawful}
use Rattle.standard.proofs.standard_tables_lawful.Goals as goal

pub returns : goal.returns
returns c = tables_lawful

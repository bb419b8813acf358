-- What is left to show of `answers`.
use Rattle.std.proofs.Common.{map, vec_items, subst}
use Rattle.script.specs.Meaning.{said}
use Rattle.session.specs.Runs.{Started}
use Rattle.session.proofs.run.answers.Goals as goal

pub returns : goal.returns
returns c = (
  map said (vec_items c.in_ok-statements.statements),
  c.in_ok-statements.ensures.meaning,
  subst (λ l. Started (map said l) (vec_items c.in_ok-run.field-0)) c.as_slice.ensures.value c.in_ok-run.ensures,
)

-- What the loop of `run` keeps.
use Rattle.std.proofs.Common.{map, take, vec_items}
use Rattle.script.specs.Meaning.{said}
use Rattle.session.specs.Runs.{Ran}
use Rattle.session.proofs.run.run.Given as goal

abbrev pub invariant-loop-statement : goal.invariant-loop-statement
invariant-loop-statement l = Ran (map said (take l.statement-index l.statements)) l.initial.state (vec_items l.answers) l.state

-- What is left to show of `answer_table`.
use Rattle.std.proofs.Common.{◌^◌, ◌<◌, refl, subst, arith}
use Rattle.correlation.proofs.Lawful.{above_in_range}
use Rattle.std.proofs.ByRecursion.{All-from_get_or}
use Rattle.session.specs.Runs.{Narrowed}
use Rattle.session.proofs.run.answer_table.Goals as goal

pub returns-in_default : goal.returns-in_default
returns-in_default c = (
  λ law. subst (Narrowed c.args.entries.now) c.in_default.is c.in_ok-narrow.ensures (All-from_get_or (λ n. n < 2 ^ 32) c.args.entries.now 0 (λ k within. omega (arith, above_in_range c.args.size c.args.entries.now law k within))),
  refl,
  refl,
)

-- What is left to show of `exact_figure_never_falls`.
use Rattle.required.proofs.Lawful.{never_falls}
use Rattle.required.proofs.capital.exact_figure_never_falls.Goals as goal

pub returns : goal.returns
returns c = never_falls

-- What is left to show of `exact_figure_rises_slowly`.
use Rattle.required.proofs.Lawful.{rises_slowly}
use Rattle.required.proofs.capital.exact_figure_rises_slowly.Goals as goal

pub returns : goal.returns
returns c = rises_slowly

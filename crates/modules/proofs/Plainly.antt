-- What the five kinds charge for a tree keeps within its bounds. Assumes nothing.
use Rattle.modules.specs.Answers.{Bounded, BoundedAll}
use Rattle.modules.specs.Bounds.{Tabled, TabledAll}
use Rattle.modules.specs.Charged.{charged, charged_all}
use Rattle.modules.specs.Trees as trees
use Rattle.modules.specs.Trees.{Tree, Forest, line, greater, root, choice, none, more}
use Rattle.modules.specs.declared.sheet.Sheet.{Sheet}
use Rattle.modules.specs.Charging.{line_bounded, sum_bounded, greater_bounded, root_bounded, choice_bounded}

mutual
  pub charged_bounded : (t : Tree) → Tabled t → (s : Sheet) → Bounded t s (charged t s)
  charged_bounded (line n) h s = line_bounded n s
  charged_bounded (trees.sum f) h s = sum_bounded f s (charged_all f s) (charged_all_bounded f h s)
  charged_bounded (greater t u) h s = greater_bounded t u s (charged t s) (charged u s) (charged_bounded t h.0 s) (charged_bounded u h.1 s)
  charged_bounded (root above f) h s = root_bounded above f s (charged_all f s) h.0 (charged_all_bounded f h.1 s)
  charged_bounded (choice a b t u) h s = choice_bounded a b t u s (charged t s) (charged u s) (charged_bounded t h.0 s) (charged_bounded u h.1 s)

  charged_all_bounded : (f : Forest) → TabledAll f → (s : Sheet) → BoundedAll f s (charged_all f s)
  charged_all_bounded none h s = tt
  charged_all_bounded (more t f) h s = (charged_bounded t h.0 s, charged_all_bounded f h.1 s)

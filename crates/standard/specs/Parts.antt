-- The trees of the parts of the standard tree that are made when they are asked.
use Rattle.modules.specs.Trees.{Tree}
use Rattle.standard.specs.Standard.{up_tree, down_tree}
use Rattle.standard.specs.declared.spread.Spread.{Spread}
use Rattle.standard.specs.declared.spread.Spread.TheVariants.{Up, Down}

abbrev pub spread_of : Spread → Tree
spread_of Up = up_tree
spread_of Down = down_tree

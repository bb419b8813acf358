-- A tree of more lines than a type can hold.
use Rattle.std.specs.Prelude.{ℕ, zero, suc}
use Rattle.modules.specs.Trees.{Tree, line, greater}

-- line 1, and so many times the greater of line 1 and what was there before
unfoldable pub tower : ℕ → Tree
tower zero = line 1
tower (suc n) = greater (line 1) (tower n)

-- The tree and the charge of a root over branches.
use Rattle.std.specs.Prelude.{◌≡◌, ℕ, cond, ◌⊎◌, List, Ok, Err, Result, ◌==◌, ◌≢◌}
use Rattle.correlation.specs.Answers.{size_of, above_of, entry_of, charge_of_branch}
use Rattle.correlation.specs.Roots as roots
use Rattle.correlation.specs.declared.table.Table.{Table}
use Rattle.modules.specs.Trees.{Tree, Forest, Few, root, sum, none, branch_count}
use Rattle.refusals.specs.declared.Refusal.{Refusal}
use Rattle.refusals.specs.declared.Refusal.TheVariants.{TableNotLawful, ValueOutOfRange}

-- A root is made only of a table and as many branches as the table has. Its type cannot say so,
-- and so it is said here what other parts would stand for: nothing.
abbrev pub root_tree : Table → Forest → Tree
root_tree t f = cond (branch_count f == size_of t) (root (above_of t) f) (sum none)

abbrev pub root_value : Table → Forest → List ℕ → ℕ
root_value t f charges = cond (branch_count f == size_of t) (roots.root (size_of t) (entry_of t) (charge_of_branch charges)) 0

-- made of 1 to 8 branches and a table of their number; else refused 23 at 0 for the branches, and then 24 at 0 for the table
abbrev pub RootMade : {M : Type 0} (t : Table) (f : Forest) (parts : M → Type 0) → Result M Refusal → Type 0
RootMade t f parts (Ok m) = Few f × (branch_count f ≡ size_of t) × parts m
RootMade t f parts (Err e) = ((Few f → ⊥) × (e ≡ ValueOutOfRange 0)) ⊎ (Few f × (branch_count f ≢ size_of t) × (e ≡ TableNotLawful 0))

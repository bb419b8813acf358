-- The tables of the standard tree are lawful, and its roundings are counted. Assumes nothing.
use Rattle.std.specs.Prelude.{◌≡◌, refl, Bool, true, false, cond, ℕ, [], ◌∷◌}
use Rattle.std.proofs.Common.{rules, arith}
use Rattle.correlation.proofs.Computed.{lawful_by}
use Rattle.modules.specs.Bounds.{Tabled, TabledAll}
use Rattle.modules.specs.Trees.{Tree, line, first_taken}
use Rattle.standard.specs.Parts.{spread_of}
use Rattle.standard.specs.Standard.{TablesLawful, Twenty, top_entries, up_entries, down_entries, shares_entries, emerging_entries, forest_of, equity_tree, real_estate_tree, currency_tree, non_life_lines, catastrophe_lines}
use Rattle.standard.specs.declared.spread.Spread.{Spread}
use Rattle.standard.specs.declared.spread.Spread.TheVariants.{Up, Down}

pub tables_lawful : TablesLawful
tables_lawful = record {
  top = lawful_by 5 top_entries refl;
  up = lawful_by 6 up_entries refl;
  down = lawful_by 6 down_entries refl;
  shares = lawful_by 4 shares_entries refl;
  emerging = lawful_by 2 emerging_entries refl;
}

-- either branch of market has as many
same : (b : Bool) (n : ℕ) → cond b n n ≡ n
same true n = refl
same false n = refl

pub twenty : (t u : Tree) → Twenty t u
twenty t u s = omega (arith, same (first_taken s 15 16) 17)

-- so every table of the parts is
pub equity_tabled : Tabled equity_tree
equity_tabled = search (rules, tables_lawful.shares.lawful, tables_lawful.emerging.lawful)

rest_tabled : TabledAll (forest_of (equity_tree ∷ real_estate_tree ∷ currency_tree ∷ line 28 ∷ []))
rest_tabled = (equity_tabled, search rules)

pub spread_tabled : (m : Spread) → Tabled (spread_of m)
spread_tabled Up = (tables_lawful.up.lawful, (tt, (tt, rest_tabled)))
spread_tabled Down = (tables_lawful.down.lawful, (tt, (tt, rest_tabled)))

-- sums of lines have no table
pub non_life_lines_tabled : Tabled non_life_lines
non_life_lines_tabled = search rules

pub catastrophe_lines_tabled : Tabled catastrophe_lines
catastrophe_lines_tabled = search rules

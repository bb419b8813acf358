-- A table is lawful of the values or not, and has no more entries than the largest.
use Rattle.std.proofs.Common.{refl, arith}
use Rattle.words.proofs.Parts.{count_few, length_values}
use Rattle.words.proofs.table.table_of.Goals as goal

pub returns-then-entries-gt-ENTRIES : goal.returns-then-entries-gt-ENTRIES
returns-then-entries-gt-ENTRIES c =
    ((λ law. omega (arith, length_values c.args.entries.now, law.count, count_few c.args.count law.lawful.branches.1, c.if-entries-gt-ENTRIES.true)), refl)

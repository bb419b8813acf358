-- What is left to show of `Table::root`.
use Rattle.std.proofs.Common.{Ok, sym, ap, ◌∙◌}
use Rattle.std.proofs.lemmas.Bool.{eq-eqb, ne_eqb, cond-true, cond-false}
use Rattle.correlation.specs.Answers.{size_of, entry_of}
use Rattle.correlation.specs.Roots.{least_root, RootLaws}
use Rattle.correlation.specs.declared.table.Table.{Table}
use Rattle.correlation.proofs.Laws.{root_laws}
use Rattle.correlation.proofs.Standing.{table_lawful}
use Rattle.correlation.proofs.table.Table.root.Goals as goal

laws : (t : Table) → RootLaws (size_of t) (entry_of t)
laws t = root_laws (size_of t) (entry_of t) (table_lawful t)

pub returns-then-charges-size : goal.returns-then-charges-size
returns-then-charges-size c = record { value = sym (cond-false _ _ _ (ne_eqb _ _ (λ e. c.if-charges-size.true (e ∙ sym c.size.ensures)))); laws = laws c.args.self.now }

pub returns : goal.returns
returns c = record {
  value = ap Ok (c.root_of.ensures ∙ ap least_root c.form.ensures.value) ∙ sym (cond-true _ _ _ (eq-eqb _ _ (c.if-charges-size.false ∙ c.size.ensures)));
  laws = laws c.args.self.now;
}

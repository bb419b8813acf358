-- The values of a root's entries are the entries that its head has.
use Rattle.std.proofs.Common.{◌≡◌, rules}
use Rattle.refusals.specs.declared.Refusal.TheVariants.{TableNotLawful}
use Rattle.words.specs.Steps.{TableChecked}
use Rattle.words.proofs.Parts.{handed_on}
use Rattle.words.proofs.Opened.{shown_lawful, shown_unlawful, lawful_made, unlawful_refused}
use Rattle.words.proofs.item.Item.check_table.Goals as goal

pub returns-in_err-map_err : goal.returns-in_err-map_err
returns-in_err-map_err c =
    let told : c.in_err-map_err.field-0.0 ≡ TableNotLawful c.args.place = search rules in
    handed_on (TableChecked c.args.self c.args.place) c.from_residual.ensures.1 (shown_unlawful _ _ _ _ c.in-Root.is (unlawful_refused _ _ _ c.table_of.ensures c.in_err-map_err.ensures.variant), told)

pub returns-in_ok-map_err : goal.returns-in_ok-map_err
returns-in_ok-map_err c = shown_lawful _ _ _ _ c.in-Root.is (lawful_made _ _ _ c.table_of.ensures c.in_ok-map_err.ensures.variant)

-- What is left to show of `charge_of`.
use mathlib.Core.HLevel.{×_prop}
use Rattle.std.proofs.Math.Logic.{∥∥₁_elim}
use Rattle.std.proofs.Math.Bridge.{le_prop}
use Rattle.std.proofs.Common.{◌≡◌, ℕ, true, eqb, ◌≤◌, List, length, take, Ok, Bor, sym, ap, ◌∙◌, subst, arith}
use Rattle.correlation.proofs.Standing.{above_root}
use Rattle.correlation.specs.Answers.{size_of, charge_of_branch, root_answer, HasAbove}
use Rattle.correlation.specs.Roots as roots
use Rattle.correlation.specs.Tables.{entry}
use Rattle.correlation.specs.declared.table.Table.{Table}
use Rattle.std.proofs.lemmas.Bool.{eq-eqb, cond-true}
use Rattle.std.proofs.lemmas.List.{length-take-le}
use Rattle.words.specs.Heads.{HeadInRange, HeadLawful, due}
use Rattle.words.specs.declared.item.Item.{Item}
use Rattle.words.specs.declared.item.Item.TheVariants.{Root}
use Rattle.written.specs.Taking.{head_charge, shown}
use Rattle.written.proofs.charging.charge_of.Goals as goal

pub units-requires : goal.units-requires
units-requires c = ∥∥₁_elim c.requires.known (×_prop le_prop le_prop) (λ k. subst (λ x. HeadInRange (shown x)) c.in-Line.is k.0)

pub unreachable-requires-in_default-table_of : goal.unreachable-requires-in_default-table_of
unreachable-requires-in_default-table_of c =
    ∥∥₁_elim c.requires.known (λ x y. absurd x) (λ k. c.in_default-table_of.ensures.0 (subst (λ x. HeadLawful (shown x)) c.in-Root.is k.1))

-- a table with these entries answers the root of as many charges
root_is : (t : Table) (n : ℕ) (above charges : List ℕ) → HasAbove n above t → length charges ≡ n → root_answer t charges ≡ Ok (roots.root n (entry n above) (charge_of_branch charges))
root_is t n above charges has each =
    let counted : eqb (length charges) (size_of t) ≡ true = eq-eqb _ _ (each ∙ sym has.size) in
    cond-true _ _ _ counted ∙ ap Ok (above_root t (charge_of_branch charges) ∙ (λ i. roots.root (has.size i) (entry (has.size i) (has.entries i)) (charge_of_branch charges)))

-- a root takes as many charges as it has branches
taken : (item : Item) (n : ℕ) (entries branches : Bor (List ℕ)) (waiting : List ℕ) → item ≡ Root n entries branches → due (shown item) ≤ length waiting → length (take n waiting) ≡ n
taken item n entries branches waiting is there = length-take-le n waiting (omega (arith, ap (λ x. due (shown x)) is, there))

pub unreachable-requires-in_default-root : goal.unreachable-requires-in_default-root
unreachable-requires-in_default-root c =
    let each = taken _ _ _ _ c.args.waiting.now c.in-Root.is c.requires.there in
    let told = c.in_default-root.ensures.value ∙ root_is c.in-Ok-table_of.table _ _ _ c.in-Ok-table_of.ensures.1 each in
    absurd (cc told)

pub returns-in-Ok-root-clause-charge : goal.returns-in-Ok-root-clause-charge
returns-in-Ok-root-clause-charge c =
    let each = taken _ _ _ _ c.args.waiting.now c.in-Root.is c.requires.there in
    let told = c.in-Ok-root.ensures.value ∙ root_is c.in-Ok-table_of.table _ _ _ c.in-Ok-table_of.ensures.1 each in
    let same : c.in-Ok-root.root ≡ head_charge (shown (Root c.in-Root.count c.in-Root.entries c.in-Root.branches)) (take c.in-Root.count c.args.waiting.now) c.args.sheet.now = cc told in
    same ∙ sym (ap (λ x. head_charge (shown x) (take (due (shown x)) c.args.waiting.now) c.args.sheet.now) c.in-Root.is)

pub overflow_cast-result : goal.overflow_cast-result
overflow_cast-result c = omega (arith, returns-in-Ok-root-clause-charge c, c.requires.priced)

-- The root is that of the charges at 32 bits, which are the same numbers.
use Rattle.std.proofs.Common.{◌≡◌, ℕ, List, Ok, Err, Result, sym, ap, ◌∙◌, subst}
use Rattle.std.specs.Result.{MatchResult, IsErrAnd}
use Rattle.correlation.specs.Answers.{root_answer}
use Rattle.correlation.specs.declared.table.Table.{Table}
use Rattle.refusals.specs.declared.Refusal.{Refusal}
use Rattle.session.specs.Runs.{Charges, Narrowed, RootAnswered}
use Rattle.session.specs.declared.answer.Declined.{Declined}
use Rattle.session.specs.declared.answer.Declined.TheVariants.{Refused}
use Rattle.session.proofs.run.answer_root.Goals as goal

-- a refusal is handed on as one
handed_on : (charges : List ℕ) (t : Table) → Charges charges → (r : Result ℕ Refusal) (m : Result ℕ Declined) → r ≡ root_answer t charges → MatchResult r (λ w. m ≡ Ok w) (λ e. IsErrAnd m (λ d. d ≡ Refused e)) → RootAnswered charges t m
handed_on charges t all (Ok w) m value is = subst (RootAnswered charges t) (sym is) (all, sym value)
handed_on charges t all (Err e) (Ok w) value is = absurd is
handed_on charges t all (Err e) (Err d) value is = subst (λ d. RootAnswered charges t (Err d)) (sym is) (all, sym value)

pub returns : goal.returns
returns c =
    let told = subst (Narrowed c.args.charges.now) c.in-Some.is c.in_ok-narrow.ensures in
    handed_on c.args.charges.now c.args.table.now told.0 c.root.result _ (c.root.ensures.value ∙ ap (root_answer c.args.table.now) (c.as_slice.ensures.value ∙ told.1)) c.map_err.ensures.cases

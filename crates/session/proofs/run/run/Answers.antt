-- What is left to show of `run`.
use Rattle.std.proofs.Common.{map, vec_items, ap, subst}
use Rattle.std.proofs.lemmas.List.{take_all}
use Rattle.script.specs.Meaning.{said}
use Rattle.session.specs.Runs.{Ran}
use Rattle.session.specs.declared.state.State.{State}
use Rattle.session.proofs.Runs.{ran_more}
use Rattle.session.proofs.run.run.Goals as goal

pub loop-statement-preserved : goal.loop-statement-preserved
loop-statement-preserved c =
    let first : State = record { table = c.in-Ok.table; sheet = c.new-2.result } in
    ran_more c.args.statements.now c.loop-statement.statement-index c.statement-item.result (vec_items c.loop-statement.answers) (vec_items c.push.new.self) first c.loop-statement.state c.answer_one.new.state c.in_ok-answer_one.field-0
    c.loop-statement-test.true c.statement-item.is c.in_ok-push.ensures.items c.loop-statement.invariant c.in_ok-answer_one.ensures

pub returns : goal.returns
returns c =
    let first : State = record { table = c.in-Ok.table; sheet = c.new-2.result } in
    let all = ap (map said) (take_all c.loop-statement.statement-index c.args.statements.now c.loop-statement-test.false) in
    (first, c.loop-statement.state, (c.in-Ok.ensures.1, c.new-2.ensures), subst (λ ss. Ran ss first (vec_items c.loop-statement.answers) c.loop-statement.state) all c.loop-statement.invariant)

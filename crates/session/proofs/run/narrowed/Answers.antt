-- What is left to show of `narrowed`.
use Rattle.std.proofs.Common.{◌^◌, ◌<◌, [], ◌∷◌, ◌++◌, get_or, take, sym, ap, ◌∙◌, subst, arith}
use Rattle.std.proofs.ByRecursion.{All-get_or, All-more}
use Rattle.std.proofs.lemmas.List.{take_more, take_all}
use Rattle.session.specs.Runs.{Charges}
use Rattle.session.proofs.run.narrowed.Goals as goal

pub returns-in_default : goal.returns-in_default
returns-in_default c all = c.in_default.ensures (All-get_or (λ n. n < 2 ^ 32) c.args.numbers.now c.loop-n.n-index 0 c.loop-n-test.true all)

pub loop-n-preserved : goal.loop-n-preserved
loop-n-preserved c =
    let n = get_or c.args.numbers.now c.loop-n.n-index 0 in (
      c.in_ok-push.ensures.items ∙ ap (λ l. l ++ c.in-Ok.charge ∷ []) c.loop-n.invariant.0 ∙ ap (λ m. take c.loop-n.n-index c.args.numbers.now ++ m ∷ []) (omega (arith, c.in-Ok.ensures)) ∙ sym (take_more c.args.numbers.now c.loop-n.n-index 0 c.loop-n-test.true),
      All-more (λ n. n < 2 ^ 32) c.args.numbers.now c.loop-n.n-index 0 c.loop-n-test.true c.loop-n.invariant.1 (omega (arith, c.in-Ok.ensures)),
    )

pub returns : goal.returns
returns c =
    let all = take_all c.loop-n.n-index c.args.numbers.now c.loop-n-test.false in
    (subst Charges all c.loop-n.invariant.1, c.loop-n.invariant.0 ∙ all)

-- Each turn passes over a space, or cuts one token.
use Rattle.std.proofs.Common.{length, sym, ap, ◌∙◌, arith}
use Rattle.std.proofs.lemmas.List.Sums.{prefix_len-le-length}
use Rattle.notation.specs.Pieces.{is_in_run}
use Rattle.notation.proofs.Cuts.{token_cut, no_token_cut}
use Rattle.notation.proofs.Stops.{stops, lacking}
use Rattle.notation.proofs.token.tokens.Goals as goal

pub split_at-requires : goal.split_at-requires
split_at-requires c = omega (arith, prefix_len-le-length is_in_run c.loop-first.left.now, ap length c.in-Some.ensures.cases.0)

pub returns-in_err-ok_or : goal.returns-in_err-ok_or
returns-in_err-ok_or c =
    stops c.from_residual.result _ _ _ c.from_residual.ensures
    (lacking _ (no_token_cut c.args.text.now c.loop-first.all.items c.loop-first.left.now c.loop-first.invariant _ _ c.in-Some.ensures.cases.0 c.max.result _ c.split_at.result.1.now c.if-is_space.ensures (omega arith) c.split_at.ensures.front c.split_at.ensures.back (sym c.in_err-ok_or.ensures.ok_part ∙ c.token_of.ensures)))

pub loop-first-preserved : goal.loop-first-preserved
loop-first-preserved c =
    token_cut c.args.text.now c.loop-first.all.items c.loop-first.left.now c.loop-first.invariant _ _ c.in-Some.ensures.cases.0 c.max.result _ c.split_at.result.1.now c.if-is_space.ensures (omega arith) c.split_at.ensures.front c.split_at.ensures.back _ _ c.in_ok-push.ensures.items (sym c.in_ok-ok_or.ensures.ok_part ∙ c.token_of.ensures)

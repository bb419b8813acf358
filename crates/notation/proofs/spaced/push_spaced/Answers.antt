-- The first word, and then each with a space before it.
use Rattle.std.proofs.Common.{suc, ◌∷◌, ◌++◌, get_or, string_bytes, sym, ap, ◌∙◌, arith}
use Rattle.std.proofs.lemmas.List.{take_all}
use Rattle.notation.specs.Spaced.{spaced_by}
use Rattle.notation.proofs.Gaps.{put_next}
use Rattle.notation.proofs.spaced.push_spaced.Goals as goal

pub loop-word-init : goal.loop-word-init
loop-word-init g c w shows =
    let is = ap (λ l. get_or l 0 0) c.in-Some.ensures.cases.0 in
    rw (shows c.in-Some.first.now c.shown.result (omega (arith, c.type_inv.words 0, is)) c.shown.ensures) at c.in_ok-write.ensures.bytes
    ∙ ap (λ x. string_bytes c.args.text.now ++ w x) (sym is)

pub loop-word-preserved : goal.loop-word-preserved
loop-word-preserved g c w shows =
    let i = c.loop-word.word-index in
    let others = c.in-Some.others.now in
    let shown = shows (get_or others i 0) c.shown-in-loop-word.result (omega (arith, c.type_inv.words (suc i), ap (λ l. get_or l (suc i) 0) c.in-Some.ensures.cases.0)) c.shown-in-loop-word.ensures in
    put_next w (string_bytes c.args.text.now) (get_or c.args.words.now 0 0) others i (string_bytes c.loop-word.text) (string_bytes c.write-in-loop-word.new.self)
    c.loop-word-test.true (c.loop-word.invariant w shows) (rw shown at c.in_ok-write-2.ensures.bytes)

pub returns : goal.returns
returns g c w shows =
    let cases = c.in-Some.ensures.cases.0 in
    c.loop-word.invariant w shows
    ∙ ap (λ ws. string_bytes c.args.text.now ++ spaced_by w ws) ((λ j. get_or (cases j) 0 0 ∷ take_all c.loop-word.word-index c.in-Some.others.now c.loop-word-test.false j) ∙ sym cases)

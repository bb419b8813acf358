-- Each turn reads one entry more.
use Rattle.std.proofs.Common.{◌≡◌, [], ◌∷◌, ◌++◌, map, vec_items, sym, ap, ◌∙◌, arith}
use Rattle.words.specs.Words.{word, entry_kind}
use Rattle.notation.specs.Tokens.{clipped}
use Rattle.notation.specs.declared.token.Token.TheVariants.{Number, EntriesClose}
use Rattle.notation.proofs.Heads.{first_same, entries_behind, no_entries, entry_more, no_open}
use Rattle.notation.proofs.Stops.{answer_from}
use Rattle.notation.proofs.reading.Reader.entries.Goals as goal

pub loop-n-preserved : goal.loop-n-preserved
loop-n-preserved c =
    let inv = c.loop-n.invariant in
    let at = c.in_ok-n.ensures.next ∙ ap (λ t. t ∷ c.next.new.self.left.now) c.in-Number.is in
    let own : c.word.result ≡ word entry_kind (clipped c.in-Number.n) = c.word.ensures.whole (omega (arith, c.clipped.ensures)) ∙ ap (word entry_kind) c.clipped.ensures in
    let pushed = c.in_ok-push-in-Number.ensures.items ∙ (λ i. vec_items (c.next.ensures.kept i) ++ own i ∷ []) in
    let more = entry_more c.args.self.now.left.now c.loop-n.self.left.now c.next.new.self.left.now c.args.self.now.words.items c.loop-n.self.words.items c.push.new.self.items inv.0 c.in-Number.n inv.1 at inv.2 pushed in
    (inv.0 ++ c.in-Number.n ∷ [], more.0, more.1, λ no. inv.3 (entries_behind _ _ c.in-Number.n at no))

pub returns-in-EntriesClose : goal.returns-in-EntriesClose
returns-in-EntriesClose c =
    let inv = c.loop-n.invariant in
    let at = c.in_ok-n.ensures.next ∙ ap (λ t. t ∷ c.next.new.self.left.now) c.in-EntriesClose.is in
    answer_from c.expect.result
    (λ _ e. (inv.0, record { tokens = inv.1 ∙ ap (λ x. map Number inv.0 ++ x) (at ∙ ap (λ x. EntriesClose ∷ x) e); words = ap vec_items (c.expect.ensures.kept ∙ c.next.ensures.kept) ∙ inv.2 }))
    (λ lacks. inv.3 (no_open _ _ at lacks)) c.expect.ensures.passed

pub returns-in_default : goal.returns-in_default
returns-in_default c =
    let at = c.in_ok-n.ensures.next in
    c.loop-n.invariant.3 (no_entries _ (λ n r e. c.in_default.not-Number n (first_same _ _ _ _ (sym at ∙ e))) (λ r e. c.in_default.not-EntriesClose (first_same _ _ _ _ (sym at ∙ e))))

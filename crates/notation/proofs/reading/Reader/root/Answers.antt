-- A root's own word, and its entries behind it.
use Rattle.std.proofs.Common.{[], ◌∷◌, ◌++◌, vec_items, ◌∙◌, arith}
use Rattle.notation.proofs.Heads.{root_begun}
use Rattle.notation.proofs.reading.Reader.root.Goals as goal

pub returns : goal.returns
returns c =
    let own = c.word.ensures.whole (omega arith) in
    root_begun _ c.expect.new.self.left.now _ c.args.self.now.words.items c.push.new.self.items _ c.in_ok-entries.ensures.0 c.in_ok-expect.ensures.passed
    (c.in_ok-push.ensures.items ∙ (λ i. vec_items (c.expect.ensures.kept i) ++ own i ∷ [])) c.in_ok-entries.ensures.1

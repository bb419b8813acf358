-- What is written is the text of the tree that the reader found.
use Rattle.std.proofs.Common.{◌≡◌, [], ◌++◌, string_bytes, sym, ◌∙◌, append-nil}
use Rattle.notation.specs.Plain.{tree_text}
use Rattle.notation.proofs.Back.{noted_text}
use Rattle.notation.proofs.showing.show.Goals as goal

pub branch-writer-requires-clause-starts : goal.branch-writer-requires-clause-starts
branch-writer-requires-clause-starts c =
    let (t, reads, own) = c.in-Ok.ensures.answer in
    (t, [], (1, c.args.words.now, sym (append-nil c.args.words.now), reads.1))

pub returns-in_default-clause-shown : goal.returns-in_default-clause-shown
returns-in_default-clause-shown c = λ t reads. c.in_default.ensures.exactly.not_both t _ reads c.in_default.ensures.answer

pub returns : goal.returns
returns c =
    let (t, reads, own) = c.in-Ok.ensures.answer in
    let got = c.in_ok-branch.ensures t [] (1, c.args.words.now, sym (append-nil c.args.words.now), reads.1) in
    let text : string_bytes c.branch-writer.new.self.text ≡ tree_text c.args.indent t = got.1 ∙ (λ j. c.new.ensures.bytes j ++ tree_text (c.from.ensures j) t) in
    record { shown = (t, reads, text); back = noted_text c.args.indent (string_bytes c.branch-writer.new.self.text) t c.args.words.now reads.1 text }

-- A line feed, and so many spaces.
use Rattle.std.proofs.Common.{◌∷◌, ◌++◌, string_bytes, ap, ◌∙◌}
use Rattle.std.proofs.lemmas.Result.{on_ok_weaker}
use Rattle.notation.proofs.Blanks.{spaces}
use Rattle.notation.proofs.showing.push_new_line.Goals as goal

pub returns : goal.returns
returns c = on_ok_weaker c.write.result (λ e. e ∙ ap (λ x. string_bytes c.args.text.now ++ 10 ∷ x) (spaces c.args.indent)) (rw c.laid_out.ensures at c.write.ensures.bytes)

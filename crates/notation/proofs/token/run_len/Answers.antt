-- The first byte that ends a run, or the end.
use Rattle.std.proofs.Common.{◌||◌, length, ap, ◌∙◌}
use Rattle.std.specs.Option.{unwrap_or}
use Rattle.notation.specs.Pieces.{is_space_byte, is_mark_byte}
use Rattle.notation.proofs.Runs.{first_or_all}
use Rattle.notation.proofs.token.run_len.Goals as goal

pub returns : goal.returns
returns c =
    c.unwrap_or.ensures ∙ ap (λ o. unwrap_or o (length c.args.text.now)) c.run_end.ensures ∙ first_or_all (λ b. is_space_byte b || is_mark_byte b) c.args.text.now

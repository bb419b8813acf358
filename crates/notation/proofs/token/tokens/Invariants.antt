-- The tokens so far, and those of what is left, are those of the text.
use Rattle.std.proofs.Common.{◌≡◌, ◌++◌, length, vec_items}
use Rattle.std.specs.Option.{option_map}
use Rattle.notation.specs.Tokens.{tokens}
use Rattle.notation.proofs.token.tokens.Given as goal

abbrev pub invariant-loop-first : goal.invariant-loop-first
invariant-loop-first l = option_map (λ ts. vec_items l.all ++ ts) (tokens l.left) ≡ tokens l.text

abbrev pub decreases-loop-first : goal.decreases-loop-first
decreases-loop-first l = length l.left

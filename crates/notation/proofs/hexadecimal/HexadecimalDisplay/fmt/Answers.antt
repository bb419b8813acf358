-- `0x`, and what the library writes of the word.
use Rattle.std.proofs.Common.{◌∷◌, ap, arith}
use Rattle.std.proofs.Output.{has_written_of_eq}
use Rattle.notation.proofs.Hexes.{eight_digits}
use Rattle.notation.proofs.hexadecimal.HexadecimalDisplay.fmt.Goals as goal

pub returns-clause-writes : goal.returns-clause-writes
returns-clause-writes g c plain ok =
    let written = rw (c.in_radix.ensures, c.laid_out.ensures) at c.write.ensures.writes in
    has_written_of_eq _ _ _ _ _ (ap (λ x. 48 ∷ 120 ∷ x) (eight_digits c.args.self.now.0 (omega arith))) (written plain ok)

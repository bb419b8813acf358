-- The entries so far are read, and where none are written in what is left, none are in the whole.
use Rattle.std.proofs.Common.{◌≡◌, ℕ, List, ◌++◌, map, length}
use Rattle.words.specs.Words.{entry_words}
use Rattle.notation.specs.Steps.{NoEntries}
use Rattle.notation.specs.Tokens.{clipped}
use Rattle.notation.specs.declared.token.Token.TheVariants.{Number}
use Rattle.notation.proofs.reading.Reader.entries.Given as goal

abbrev pub invariant-loop-n : goal.invariant-loop-n
invariant-loop-n l =
    (es : List ℕ) × (l.fn.self.left.now ≡ map Number es ++ l.self.left.now) × (l.self.words.items ≡ l.fn.self.words.items ++ entry_words (map clipped es))
    × (NoEntries l.self.left.now → NoEntries l.fn.self.left.now)

abbrev pub decreases-loop-n : goal.decreases-loop-n
decreases-loop-n l = length l.self.left.now

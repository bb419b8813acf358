-- What is left has the numbers that are still to come.
use Rattle.std.proofs.Common.{◌≡◌, vec_items}
use Rattle.script.specs.Numbers.{numbers_of}
use Rattle.script.specs.Pieces.{words_of}
use Rattle.script.proofs.Behind.{behind}
use Rattle.script.proofs.numbers.numbers.Given as goal

abbrev pub invariant-loop-word : goal.invariant-loop-word
invariant-loop-word l = behind (vec_items l.numbers) (numbers_of (words_of l.word-iterator.left.now)) ≡ numbers_of (words_of l.fn.words.left.now)

-- What the loop of `Written::amount` keeps: the charges of the branches that were walked over.
use Rattle.std.proofs.Common.{◌≡◌, ◌+◌, ◌≤◌, length}
use Rattle.modules.specs.Charged.{charged_all}
use Rattle.words.specs.Words.{most_words}
use Rattle.written.specs.Taking.{charges_waiting}
use Rattle.written.specs.Walking.{walked}
use Rattle.written.proofs.written.Written.amount.Given as goal

abbrev pub invariant-loop-item : goal.invariant-loop-item
invariant-loop-item l =
    (l.item-iterator.words.now ≡ l.self.words.items)
    × (charges_waiting l.waiting ≡ charged_all (walked l.item-iterator) l.sheet)
    × (length (charges_waiting l.waiting) + l.item-iterator.left ≤ most_words)

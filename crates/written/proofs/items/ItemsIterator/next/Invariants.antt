-- What the loop of `next` keeps: the words from a place on stand for the branches that were walked over.
use Rattle.std.proofs.Common.{◌≡◌, ◌≤◌, drop}
use Rattle.written.specs.Reading.{forest_of}
use Rattle.written.specs.Walking.{walked}
use Rattle.written.proofs.items.ItemsIterator.next.Given as goal

abbrev pub invariant-loop-place : goal.invariant-loop-place
invariant-loop-place l =
    (l.place ≤ l.self.left)
    × (l.self ≡ l.fn.self)
    × ∥ forest_of (drop l.place l.self.words.now) ≡ walked l.fn.self ∥₁

-- How the items of a written tree come, from its last word to its first.
use Rattle.std.specs.Prelude.{◌≡◌, ◌<◌, drop, Some, None, Option}
use Rattle.modules.specs.Trees.{Forest}
use Rattle.words.specs.declared.item.Item.{Item}
use Rattle.written.specs.Reading.{forest_of}
use Rattle.written.specs.Taking.{TakesBranches, shown}
use Rattle.written.specs.declared.items.Items.{Items}

-- the branches that the words stand for whose items came
abbrev pub walked : Items → Forest
walked items = forest_of (drop items.left items.words.now)

-- the next item takes its branches off those; or none is left
abbrev pub Steps : Items → Option Item → Items → Type 0
Steps before (Some item) after =
    (after.words.now ≡ before.words.now) × (after.left < before.left) × ∥ TakesBranches (shown item) (walked before) (walked after) ∥₁
Steps before None after =
    (after.words.now ≡ before.words.now) × (after.left ≡ 0) × ∥ walked after ≡ walked before ∥₁

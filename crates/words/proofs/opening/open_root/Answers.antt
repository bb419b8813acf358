-- The entries that were read are as many as the table has, and stand first.
use Rattle.std.proofs.Common.{sym, refl, ◌∙◌, arith}
use Rattle.words.specs.Steps.{RootOpening}
use Rattle.words.proofs.Parts.{handed_on, counted, passed, place_behind}
use Rattle.words.proofs.opening.open_root.Goals as goal

pub returns-in_err-rest : goal.returns-in_err-rest
returns-in_err-rest c =
    let count = counted c.args.count c.unwrap.result (sym c.entry_count.ensures ∙ c.unwrap.ensures) in
    handed_on (RootOpening c.args.count c.args.from) c.from_residual.ensures.1 (rw count at c.in_err-rest.ensures)

pub up_to-requires : goal.up_to-requires
up_to-requires c =
    let found = c.in_ok-rest.ensures in
    let at = place_behind c.args.from c.in_ok-rest.rest _ found.2 found.3 in
    record { order = omega (arith, at); within = omega (arith, found.3) }

pub returns : goal.returns
returns c =
    let found = c.in_ok-rest.ensures in
    let count = counted c.args.count c.unwrap.result (sym c.entry_count.ensures ∙ c.unwrap.ensures) in
    let front = c.up_to.ensures ∙ passed c.args.from c.in_ok-rest.rest _ found.2 found.3 in
    (found.0, rw count at found.1, found.2, (found.0, refl, front, refl), found.3)

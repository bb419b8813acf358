-- Each turn reads one entry more.
use Rattle.std.proofs.Common.{◌∙◌}
use Rattle.words.specs.Steps.{EntriesRead}
use Rattle.words.proofs.Parts.{handed_on, entered_place, entered_more}
use Rattle.words.proofs.opening.read_entries.Goals as goal

pub returns-in_err-rest : goal.returns-in_err-rest
returns-in_err-rest c =
    let inv = c.loop.invariant in
    let at = entered_place _ c.args.from c.loop.rest inv.0 inv.1 inv.2 inv.3 in
    handed_on (EntriesRead c.args.count c.args.from) c.from_residual.ensures.1 (c.loop.counter, inv.0, c.loop.rest.words.now, c.loop-test.true, inv.1, inv.2, rw at at c.in_err-rest.ensures)

pub loop-preserved : goal.loop-preserved
loop-preserved c =
    let inv = c.loop.invariant in
    let found = c.in_ok-rest.ensures in
    let more = entered_more _ _ inv.0 _ found.0 _ inv.1 inv.2 found.1 found.2 in
    (more.0, more.1, more.2, found.3 ∙ inv.3)

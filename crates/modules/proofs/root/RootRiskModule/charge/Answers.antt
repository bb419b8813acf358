-- What is left to show of `Root::charge`.
use Rattle.std.proofs.Common.{sym}
use Rattle.modules.specs.Gathered.{charges_of}
use Rattle.modules.specs.Rooting.{not_refused, root_amount}
use Rattle.modules.proofs.root.RootRiskModule.charge.Goals as goal

pub returns-in_err-root : goal.returns-in_err-root
returns-in_err-root g c =
    let b = c.args.self.now.branches in
    let s = c.args.sheet.now in
    absurd (not_refused c.args.self.now.table (g.B.Branches.forest b) s (g.B.Branches.values b s) c.as_slice.result.now (charges_of c.charges.new.list) (charges_of c.new-list.result) (sym c.if-not-fits.ensures) (g.met.B.Branches.bounded b s) c.new-list.ensures c.in_ok-all.ensures.gathered c.as_slice.ensures
    _ c.in_err-root.ensures.value)

pub charge_within-requires : goal.charge_within-requires
charge_within-requires g c =
    let b = c.args.self.now.branches in
    let s = c.args.sheet.now in
    root_amount c.args.self.now.table (g.B.Branches.forest b) s (g.B.Branches.values b s) c.as_slice.result.now (charges_of c.charges.new.list) (charges_of c.new-list.result) (sym c.if-not-fits.ensures) (g.met.B.Branches.bounded b s) c.new-list.ensures c.in_ok-all.ensures.gathered c.as_slice.ensures
    c.in_ok-root.root c.in_ok-all.all c.in_ok-root.ensures.value c.in_ok-all.ensures.answer (g.met.B.Branches.tabled b) c.from.result c.from-2.result c.from.ensures c.from-2.ensures

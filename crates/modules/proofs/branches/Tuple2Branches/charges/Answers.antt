-- What is left to show of `charges` of a branch before others.
use Rattle.modules.specs.Answering.{added_small}
use Rattle.modules.proofs.branches.Tuple2Branches.charges.Goals as goal

pub added-requires : goal.added-requires
added-requires g c =
    let h = c.args.self.now.0 in
    let t = c.args.self.now.1 in
    let s = c.args.sheet.now in
    added_small (g.H.RiskModule.tree h) (g.T.Branches.forest t) s (g.H.RiskModule.value h s) (g.T.Branches.values t s) c.in-Ok.first c.in-Ok-charges.rest c.in-Ok.ensures c.in-Ok-charges.ensures.answer
    (g.met.H.RiskModule.tabled h) (g.met.T.Branches.tabled t) (g.met.H.RiskModule.bounded h s) (g.met.T.Branches.bounded t s)

-- What is left to show of `Charges::push`.
use Rattle.std.proofs.Common.{arith, length-take}
use Rattle.std.proofs.lemmas.List.{take_more_set}
use Rattle.modules.proofs.charges.Charges.push.Goals as goal

pub returns-then-self-lt-BRANCHES : goal.returns-then-self-lt-BRANCHES
returns-then-self-lt-BRANCHES c =
    record {
      more = λ room. take_more_set c.args.self.now.amounts c.args.self.now.count c.args.amount (omega (arith, c.if-self-lt-BRANCHES.true));
      full = λ h. absurd (omega (arith, length-take c.args.self.now.count c.args.self.now.amounts, c.if-self-lt-BRANCHES.true));
    }

-- Supervisory classes, by the ratio in ten-thousandths.
use Rattle.std.specs.Prelude.{ℕ, cond, nat_le}
use Rattle.ratio.specs.declared.class.SupervisoryClass.{SupervisoryClass}
use Rattle.ratio.specs.declared.class.SupervisoryClass.TheVariants.{NoAction, First, Second, Third}

-- the lowest ratio of each class
abbrev pub lowest : SupervisoryClass → ℕ
lowest NoAction = 10000
lowest First = 7000
lowest Second = 3500
lowest Third = 0

-- the mildest class whose lowest ratio is reached
abbrev pub class_of : ℕ → SupervisoryClass
class_of ratio = cond (nat_le (lowest NoAction) ratio) NoAction (cond (nat_le (lowest First) ratio) First (cond (nat_le (lowest Second) ratio) Second Third))

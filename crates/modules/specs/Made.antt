-- What is answered to the making of a module.
use Rattle.std.specs.Prelude.{◌≡◌, Ok, Err, Result}
use Rattle.refusals.specs.declared.Refusal.{Refusal}
use Rattle.refusals.specs.declared.Refusal.TheVariants.{ValueOutOfRange}

-- it is made of its parts where they are in range, and else refused 23 at 0
abbrev pub MadeOf : {M : Type 0} (in_range : Type 0) (parts : M → Type 0) → Result M Refusal → Type 0
MadeOf in_range parts (Ok m) = in_range × parts m
MadeOf in_range parts (Err e) = (in_range → ⊥) × (e ≡ ValueOutOfRange 0)

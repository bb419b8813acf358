-- Branches behind others: how many there are, their gross, roundings and charges. Assumes nothing.
use Rattle.std.specs.Prelude.{◌≡◌, ◌+◌, ◌∷◌, ◌++◌, length, refl}
use Rattle.std.proofs.Common.{ap, one-add, arith}
use Rattle.modules.specs.Charged.{charged, charged_all}
use Rattle.modules.specs.Trees.{Forest, none, more, branch_count, gross_all, roundings_all}
use Rattle.modules.specs.declared.sheet.Sheet.{Sheet}
use Rattle.written.specs.Reading.{first, behind}

-- one forest behind another
abbrev pub join : Forest → Forest → Forest
join none g = g
join (more t f) g = more t (join f g)

pub first_joined : (f g : Forest) → first (branch_count f) (join f g) ≡ f
first_joined none g = refl
first_joined (more t f) g = rw one-add (ap (more t) (first_joined f g))

pub behind_joined : (f g : Forest) → behind (branch_count f) (join f g) ≡ g
behind_joined none g = refl
behind_joined (more t f) g = rw one-add (behind_joined f g)

pub joined_gross : (f g : Forest) (s : Sheet) → gross_all (join f g) s ≡ gross_all f s + gross_all g s
joined_gross none g s = omega arith
joined_gross (more t f) g s = omega (arith, joined_gross f g s)

pub joined_roundings : (f g : Forest) (s : Sheet) → roundings_all (join f g) s ≡ roundings_all f s + roundings_all g s
joined_roundings none g s = omega arith
joined_roundings (more t f) g s = omega (arith, joined_roundings f g s)

pub joined_charged : (f g : Forest) (s : Sheet) → charged_all (join f g) s ≡ charged_all f s ++ charged_all g s
joined_charged none g s = refl
joined_charged (more t f) g s = ap (λ l. charged t s ∷ l) (joined_charged f g s)

pub charged_count : (f : Forest) (s : Sheet) → length (charged_all f s) ≡ branch_count f
charged_count none s = refl
charged_count (more t f) s = omega (arith, charged_count f s)

-- What a tower of lines counts. Assumes nothing.
use Rattle.std.specs.Prelude.{◌≡◌, ℕ, zero, suc, ◌+◌, ◌*◌, ◌<◌, Bool, true, false, cond, Ok, Err, nat_le}
use Rattle.std.proofs.Common.{arith}
use Rattle.modules.specs.Answers.{Bounded, most_gross, gross_answer, roundings_answer, answer_of}
use Rattle.modules.specs.Bounds.{Tabled}
use Rattle.modules.specs.Sheets.{line_units}
use Rattle.modules.specs.Trees.{gross, roundings}
use Rattle.modules.specs.declared.sheet.Sheet.{Sheet}
use Rattle.ratio_tests.specs.Towers.{tower}
use Rattle.refusals.specs.declared.Refusal.TheVariants.{GrossTooLarge, TooManyRoundings}
use Rattle.std.proofs.lemmas.Bool.{lt-leb, cond-false}

pub tower_tabled : (n : ℕ) → Tabled (tower n)
unfolding tower
tower_tabled zero = tt
tower_tabled (suc n) = (tt, tower_tabled n)

pub tower_gross : (n : ℕ) (s : Sheet) → gross (tower n) s ≡ (n + 1) * line_units s 1
unfolding tower
tower_gross zero s = omega arith
tower_gross (suc n) s = omega (arith, tower_gross n s)

pub tower_roundings : (n : ℕ) (s : Sheet) → roundings (tower n) s ≡ n + 1
unfolding tower
tower_roundings zero s = omega arith
tower_roundings (suc n) s = omega (arith, tower_roundings n s)

-- its roundings are refused, and so it keeps any bounds
pub tower_bounded : (s : Sheet) → Bounded (tower 1000) s 0
tower_bounded s priced k one = absurd (omega (arith, priced.roundings_in, tower_roundings 1000 s))

-- roundings that are refused
pub too_many : (n : ℕ) → 1000 < n → roundings_answer n ≡ Err TooManyRoundings
too_many n h = cond-false _ _ _ (lt-leb n 1000 h)

charge_by : {A : Type 0} (b d : Bool) (g : ℕ) (x : A) (y : ℕ) → Ok y ≡ cond b (Ok g) (Err GrossTooLarge) → d ≡ false → cond b (cond d (Ok x) (Err TooManyRoundings)) (Err GrossTooLarge) ≡ Err TooManyRoundings
charge_by true d g x y e h = cond-false d (Ok x) (Err TooManyRoundings) h
charge_by false d g x y e h = grind arith

-- a gross that is not refused leaves the roundings
pub charge_refused : {A : Type 0} (g n : ℕ) (x : A) (y : ℕ) → Ok y ≡ gross_answer g → 1000 < n → answer_of g n x ≡ Err TooManyRoundings
charge_refused g n x y e h = charge_by (nat_le g most_gross) (nat_le n 1000) g x y e (lt-leb n 1000 h)

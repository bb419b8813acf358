-- What an answer to a gross tells of it. Assumes nothing.
use Rattle.std.proofs.Common.{◌≡◌, ℕ, ◌≤◌, Bool, true, false, cond, leb, Ok, Err, Result, sym, refl, ap, ◌∙◌, arith}
use Rattle.modules.specs.Answers.{gross_answer, most_gross}
use Rattle.refusals.specs.declared.Refusal.{Refusal}
use Rattle.refusals.specs.declared.Refusal.TheVariants.{GrossTooLarge}
use Rattle.std.proofs.lemmas.Bool.{leb-true, leb-false, lt-leb, cond-false}

told_by : (b : Bool) (g y : ℕ) → ◌≡◌ {A = Result ℕ Refusal} (Ok y) (cond b (Ok g) (Err GrossTooLarge)) → (b ≡ true) × (y ≡ g)
told_by true g y e = (refl, cc)
told_by false g y e = let z : ◌≡◌ {A = ℕ} 0 1 = cc in absurd (omega arith)

pub gross_told : (g y : ℕ) → Ok y ≡ gross_answer g → (y ≡ g) × (g ≤ most_gross)
gross_told g y e = let h = told_by (leb g most_gross) g y e in (h.1, leb-true _ _ h.0)

refused_by : (b : Bool) (g : ℕ) (e : Refusal) → ◌≡◌ {A = Result ℕ Refusal} (Err e) (cond b (Ok g) (Err GrossTooLarge)) → (b ≡ false) × (e ≡ GrossTooLarge)
refused_by true g e h = let z : ◌≡◌ {A = ℕ} 0 1 = cc in absurd (omega arith)
refused_by false g e h = (refl, cc)

-- a larger gross is refused alike
pub gross_refused : (g h : ℕ) (e : Refusal) → Err e ≡ gross_answer g → g ≤ h → Err e ≡ gross_answer h
gross_refused g h e refused more_of =
    let r = refused_by (leb g most_gross) g e refused in
    ap Err r.1 ∙ sym (cond-false (leb h most_gross) (Ok h) (Err GrossTooLarge) (lt-leb h most_gross (omega (arith, leb-false g most_gross r.0))))

pub not_refused : (g : ℕ) (e : Refusal) → Err e ≡ gross_answer g → g ≤ most_gross → ⊥
not_refused g e refused small = omega (arith, leb-false g most_gross (refused_by (leb g most_gross) g e refused).0)

-- What required capital answers to what its module answers. Assumes nothing.
use Rattle.std.proofs.Common.{◌≡◌, ℕ, ◌≤◌, true, Ok, sym, ap, ◌∙◌, subst}
use Rattle.modules.specs.Answering.{charge_told}
use Rattle.modules.specs.Answers.{Within, charge_answer}
use Rattle.modules.specs.Trees.{Tree}
use Rattle.modules.specs.declared.answer.Charge.{Charge}
use Rattle.modules.specs.declared.sheet.Sheet.{Sheet}
use Rattle.required.proofs.Bounds.{near}
use Rattle.required.proofs.Small.{rate_small}
use Rattle.required.specs.Answers.{NearExact, required_of}
use Rattle.required.specs.Ranges.{settings_in}
use Rattle.required.specs.declared.answer.Required.{Required}
use Rattle.required.specs.declared.settings.Settings.{Settings}

-- the charge of a module gives figures near the exact one
pub answered_near : (s : Settings) (t : Tree) (sheet : Sheet) (a : ℕ) → settings_in s ≡ true → (y : Charge) → Ok y ≡ charge_answer t sheet a → (x : Required) → x ≡ required_of s y.amount y.roundings → ((k : ℕ) → 1 ≤ k → Within t sheet y.amount k) → (k : ℕ) → 1 ≤ k → NearExact s t sheet x.required x.roundings k
answered_near s t sheet a in_range y told x is within k one =
    let charge = charge_told t sheet a y told in
    let figures = is ∙ ap (λ c. required_of s c.amount c.roundings) charge in
    subst (λ r. NearExact s t sheet r.required r.roundings k) (sym figures) (near s (rate_small s in_range) t sheet a k (subst (λ c. Within t sheet c.amount k) charge (within k one)))

-- What is left to show of `figures_hold`.
use Rattle.std.proofs.Common.{[], ◌∷◌, refl, arith}
use Rattle.correlation.proofs.Computed.{lawful_by, unlawful_by}
use Rattle.correlation.specs.Roots.{least_root}
use Rattle.modules.specs.Answering.{answer_priced}
use Rattle.required.specs.Exact.{exact_operational, exact_sum, exact_tax, exact_figure}
use Rattle.required.specs.Figures.{business_part, raw_charge_of, operational_charge_of, tax_effect_of}
use Rattle.figures.proofs.Refusals.{refused_24}
use Rattle.modules.specs.Sheets.{units}
use Rattle.modules.specs.Trees.{line, root, more, none, gross, roundings}
use Rattle.words.specs.Words.{word, line_kind}
use Rattle.figures.specs.Figures.{Holds, written}
use Rattle.figures.proofs.figures_hold.Goals as goal

worked_tree : Holds (written (0x40000002 ∷ 0x50000019 ∷ 0x10000001 ∷ 0x1000000E ∷ []) ((1, 1000000) ∷ (14, 1000000) ∷ []) 200 3 159)
unfolding least_root units
worked_tree =
    let first = word line_kind 1 ∷ [] in
    let second = word line_kind 14 ∷ [] in (
      root (25 ∷ []) (more (line 1) (more (line 14) none)),
      (
        omega arith,
        (
          omega arith,
          lawful_by 2 _ refl,
          word line_kind 1 ∷ word line_kind 14 ∷ [],
          refl,
          (first, second, refl, (omega arith, (omega arith, omega arith), refl), (second, [], refl, (omega arith, (omega arith, omega arith), refl), refl)),
        ),
      ),
      refl,
      refl,
      refl,
    )

pub returns : goal.returns
unfolding least_root business_part raw_charge_of operational_charge_of tax_effect_of exact_operational exact_sum exact_tax exact_figure
returns c = (
  lawful_by 3 _ refl,
  (
    refused_24 3 _ (unlawful_by 3 _ refl),
    (
      (lawful_by 2 _ refl, refl),
      (
        worked_tree,
        (
          λ t sheet priced. answer_priced (gross t sheet) (roundings t sheet) _ priced,
          (λ t sheet priced. answer_priced (gross t sheet) (roundings t sheet) _ priced, (refl, (refl, (refl, (refl, (refl, tt)))))),
        ),
      ),
    ),
  ),
)

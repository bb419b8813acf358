-- What each item that comes adds to the gross, the roundings and the charges of the branches that were walked over. Assumes nothing.
use mathlib.Core.List.{is_set}
use Rattle.std.proofs.Math.Logic.{∥∥₁_elim, ∥∥₁_map, ∥∥₁_prop}
use Rattle.std.proofs.Math.Bridge.{le_prop}
use Rattle.std.proofs.Math.Nat.{ℕ_set}
use Rattle.std.proofs.Common.{◌≡◌, ℕ, ◌+◌, ◌≤◌, List, [], ◌∷◌, ◌++◌, length, take, drop, None, sym, ap, ◌∙◌, length-append, arith}
use Rattle.modules.specs.Charged.{charged, charged_all}
use Rattle.modules.specs.Trees.{Forest, none, more, gross, gross_all, roundings_all}
use Rattle.modules.specs.declared.sheet.Sheet.{Sheet}
use Rattle.std.proofs.lemmas.List.{take_at, drop_at}
use Rattle.words.specs.Heads.{Head, HeadInRange, HeadLawful, due}
use Rattle.written.specs.Forests.{joined_gross, joined_roundings, joined_charged, charged_count}
use Rattle.written.specs.Known.{reads_alone}
use Rattle.written.specs.Reading.{forest_of, tree_of}
use Rattle.written.specs.Taking.{TakesBranches, head_charge}
use Rattle.written.specs.Walking.{Steps, walked}
use Rattle.written.specs.declared.items.Items.{Items}
use Rattle.written.proofs.Charged.{charged_within}
use Rattle.written.proofs.Heads.{own_gross, own_roundings, adds}
use Rattle.written.proofs.Suffixes.{read_left, gross_drop}

module _ {h : Head} {f g : Forest} (takes : ∥ TakesBranches h f g ∥₁) where
  pub known : ∥ HeadInRange h × HeadLawful h ∥₁
  known = ∥∥₁_map takes (λ t. (t.in_range, t.lawful))

  module _ (s : Sheet) where
    pub gross_taken : gross_all g s ≡ own_gross h s + gross_all f s
    gross_taken = ∥∥₁_elim takes (ℕ_set _ _) (λ t.
        omega (arith, ap (λ x. gross_all x s) t.put, ap (λ x. gross_all x s) t.taken, joined_gross t.own t.rest s, (adds t.tree h t.own t.of).gross_is s))

    pub roundings_taken : roundings_all g s ≡ own_roundings h + roundings_all f s
    roundings_taken = ∥∥₁_elim takes (ℕ_set _ _) (λ t.
        omega (arith, ap (λ x. roundings_all x s) t.put, ap (λ x. roundings_all x s) t.taken, joined_roundings t.own t.rest s, (adds t.tree h t.own t.of).roundings_is s))

    -- the charges of its own branches stand in front
    own_charges : (t : TakesBranches h f g) → length (charged_all t.own s) ≡ due h
    own_charges t = charged_count t.own s ∙ sym (adds t.tree h t.own t.of).count

    parted : (t : TakesBranches h f g) → charged_all f s ≡ charged_all t.own s ++ charged_all t.rest s
    parted t = ap (λ x. charged_all x s) t.taken ∙ joined_charged t.own t.rest s

    owns : (t : TakesBranches h f g) → take (due h) (charged_all f s) ≡ charged_all t.own s
    owns t = ap (take (due h)) (parted t) ∙ take_at (charged_all t.own s) (charged_all t.rest s) (due h) (own_charges t)

    rests : (t : TakesBranches h f g) → drop (due h) (charged_all f s) ≡ charged_all t.rest s
    rests t = ap (drop (due h)) (parted t) ∙ drop_at (charged_all t.own s) (charged_all t.rest s) (due h) (own_charges t)

    charges : (t : TakesBranches h f g) → head_charge h (take (due h) (charged_all f s)) s ≡ charged t.tree s
    charges t = ap (λ l. head_charge h l s) (owns t) ∙ sym ((adds t.tree h t.own t.of).charged_is s)

    pub charges_taken : charged_all g s ≡ head_charge h (take (due h) (charged_all f s)) s ∷ drop (due h) (charged_all f s)
    charges_taken = ∥∥₁_elim takes (is_set ℕ_set _ _) (λ t.
        ap (λ x. charged_all x s) t.put ∙ (λ i. sym (charges t) i ∷ sym (rests t) i))

    pub branches_there : due h ≤ length (charged_all f s)
    branches_there = ∥∥₁_elim takes le_prop (λ t.
        omega (arith, ap length (parted t), length-append (charged_all t.own s) (charged_all t.rest s), own_charges t))

    pub charge_small : head_charge h (take (due h) (charged_all f s)) s ≤ gross_all g s
    charge_small = ∥∥₁_elim takes le_prop (λ t.
        omega (arith, charges t, charged_within t.tree t.tabled s, ap (λ x. gross_all x s) t.put))

-- no part of the words has more than the gross of the tree
pub part_gross : (items : Items) (ws : List ℕ) (s : Sheet) → items.words.now ≡ ws → gross_all (walked items) s ≤ gross (tree_of ws) s
part_gross items ws s same = ∥∥₁_elim items.reads le_prop (λ r.
    omega (arith, gross_drop items.left items.words.now s (read_left items.words.now (tree_of items.words.now) r), ap (λ x. gross_all x s) (reads_alone items.words.now (tree_of items.words.now) r), ap (λ l. gross (tree_of l) s) same))

-- where no item is left, the branches that were walked over are the tree alone
module _ (before after : Items) (steps : Steps before None after) (ws : List ℕ) (same : before.words.now ≡ ws) where
  alone : ∥ walked before ≡ more (tree_of ws) none ∥₁
  alone = ∥∥₁_elim after.reads ∥∥₁_prop (λ r. ∥∥₁_map steps.2 (λ e.
      sym e ∙ ap (λ i. forest_of (drop i after.words.now)) steps.1 ∙ reads_alone after.words.now (tree_of after.words.now) r ∙ ap (λ l. more (tree_of l) none) (steps.0 ∙ same)))

  module _ (s : Sheet) where
    pub charges_whole : charged_all (walked before) s ≡ charged (tree_of ws) s ∷ []
    charges_whole = ∥∥₁_elim alone (is_set ℕ_set _ _) (λ e. ap (λ x. charged_all x s) e)

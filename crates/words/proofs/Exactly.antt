-- Words are refused exactly where they read as no tree, and by one refusal. Assumes nothing.
use Rattle.std.proofs.Common.{◌≡◌, ℕ, suc, List, [], ◌++◌, length, Ok, Err, Result, sym, ap, ◌∙◌, subst, inl, inr, append-nil, arith}
use Rattle.modules.specs.Trees.{Tree}
use Rattle.refusals.specs.declared.Refusal.{Refusal}
use Rattle.refusals.specs.declared.Refusal.TheVariants.{WordsLeftOver}
use Rattle.words.specs.Faults.{Fault, LeftOver, Refused, RefusedExactly}
use Rattle.words.specs.Grammar.{Branches, Reads}
use Rattle.words.specs.Heads.{HeadOf}
use Rattle.words.specs.Items.{Opened, Shows, FirstBranch, OwnBranch, ReadAnswer}
use Rattle.words.specs.declared.item.Item.{Item}
use Rattle.words.proofs.Heading.{headed}
use Rattle.words.proofs.OneFault.{fault_sound, fault_unique}
use Rattle.words.proofs.OneTree.{alone, same_words_all, shallower, one_head}

not_both : (ws : List ℕ) (t : Tree) (e : Refusal) → Reads ws t → Refused ws e → ⊥
not_both ws t e reads (inl many) = omega (arith, reads.0, many.0)
not_both ws t e reads (inr (inl fault)) = fault_sound fault.1 t ws [] (sym (append-nil ws)) reads.1
not_both ws t e reads (inr (inr over)) =
    let left = over.1 in
    left.4 (sym (alone t left.0 1 1 ws left.1 [] left.2 reads.1 left.5 (append-nil ws ∙ left.3)).2)

no_fault_left : (ws : List ℕ) (e d : Refusal) → Fault 1 0 ws e → LeftOver ws d → ⊥
no_fault_left ws e d fault left = fault_sound fault left.0 left.1 left.2 left.3 left.5

one_refusal : (ws : List ℕ) (e d : Refusal) → Refused ws e → Refused ws d → e ≡ d
one_refusal ws e d (inl p) (inl q) = p.1 ∙ sym q.1
one_refusal ws e d (inl p) (inr (inl q)) = absurd (omega (arith, p.0, q.0))
one_refusal ws e d (inl p) (inr (inr q)) = absurd (omega (arith, p.0, q.0))
one_refusal ws e d (inr (inl p)) (inl q) = absurd (omega (arith, p.0, q.0))
one_refusal ws e d (inr (inl p)) (inr (inl q)) = fault_unique p.1 q.1
one_refusal ws e d (inr (inl p)) (inr (inr q)) = absurd (no_fault_left ws e d p.1 q.1)
one_refusal ws e d (inr (inr p)) (inl q) = absurd (omega (arith, p.0, q.0))
one_refusal ws e d (inr (inr p)) (inr (inl q)) = absurd (no_fault_left ws d e q.1 p.1)
one_refusal ws e d (inr (inr p)) (inr (inr q)) =
    let one = p.1 in
    let other = q.1 in
    let same = alone one.0 other.0 1 1 one.1 other.1 one.2 other.2 one.5 other.5 (sym one.3 ∙ other.3) in
    one.6 ∙ ap (λ l. WordsLeftOver (length l)) same.1 ∙ sym other.6

pub exactly : (ws : List ℕ) (r : Result Item Refusal) → ReadAnswer ws r → RefusedExactly ws
exactly ws (Ok item) answer = record {
  not_both = not_both ws;
  one_refusal = one_refusal ws;
  or_read = λ unread. absurd (unread answer.0 answer.1);
}
exactly ws (Err e) answer = record { not_both = not_both ws; one_refusal = one_refusal ws; or_read = λ unread. (e, answer) }

-- words that begin with a branch of a tree are read as that tree's
pub own_branch : (ws : List ℕ) (r : Result Opened Refusal) → FirstBranch ws r → OwnBranch ws r
own_branch ws (Ok p) first t depth bs behind few deep e b =
    let (u, cs, whole, branch, (h, f, vs, of, branches, shows)) = first.1 in
    let same = alone t u 1 1 bs cs behind p.1.now (shallower t 1 depth bs deep b) branch (sym e ∙ whole) in
    let own = headed t depth bs b in
    let heads = one_head u h own.head f own.forest of (subst (λ x. HeadOf x own.head own.forest) same.0 own.of) in
    let words = same_words_all own.forest 2 (suc depth) vs own.rest (subst (λ g. Branches g 2 vs) heads.1 branches) own.branches in (
      sym same.2,
      (own.head, own.forest, own.rest, own.of, own.branches, subst (λ x. Shows p.0 own.head (x ++ [])) words (subst (λ x. Shows p.0 x (vs ++ [])) heads.0 shows)),
    )
own_branch ws (Err x) (inl many) t depth bs behind few deep e b = omega (arith, many.0, few)
own_branch ws (Err x) (inr fault) t depth bs behind few deep e b = fault_sound fault.1 t bs behind e (shallower t 1 depth bs deep b)

pub first_refused : (ws : List ℕ) (e : Refusal) → FirstBranch ws (Err e) → Refused ws e
first_refused ws e (inl many) = inl many
first_refused ws e (inr fault) = inr (inl fault)

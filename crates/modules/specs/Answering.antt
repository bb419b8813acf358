-- What an answer tells of the gross and the roundings that it was given for. Assumes nothing.
use Rattle.std.specs.Prelude.{◌≡◌, ℕ, ◌+◌, ◌^◌, ◌<◌, ◌≤◌, max, Bool, true, false, cond, List, [], ◌∷◌, ◌++◌, length, IfOk, Ok, Err, sum, Result, OnOk, nat_le, refl}
use Rattle.std.proofs.Common.{sym, ap, subst, subst₂, ◌∙◌, append_assoc, arith, length-append}
use Rattle.refusals.specs.declared.Refusal.{Refusal}
use Rattle.refusals.specs.declared.Refusal.TheVariants.{GrossTooLarge, TooManyRoundings}
use Rattle.std.proofs.lemmas.Bool.{leb-true, le-leb, cond-true}
use Rattle.std.proofs.lemmas.List.Sums.{sum_by-cons}
use Rattle.modules.specs.Answers.{Priced, Within, Bounded, BoundedAll, most_gross, most_roundings, gross_answer, answer_of, charge_of, charge_answer}
use Rattle.modules.specs.Bounds.{Tabled, TabledAll}
use Rattle.modules.specs.Gathered.{largest_of}
use Rattle.modules.specs.Trees as trees
use Rattle.modules.specs.Trees.{Tree, Forest, none, more, greater, branch_count, gross, gross_all, roundings, roundings_all}
use Rattle.modules.specs.declared.answer.Charge.{Charge}
use Rattle.modules.specs.declared.sheet.Sheet.{Sheet}
use Rattle.modules.specs.Charging.{sum_bounded}
use Rattle.modules.specs.Close.{gross_ceiling}

ok_by : {A : Type 0} (b d : Bool) (x y : A) → ◌≡◌ {A = Result A Refusal} (Ok y) (cond b (cond d (Ok x) (Err TooManyRoundings)) (Err GrossTooLarge)) → (b ≡ true) × (d ≡ true) × (y ≡ x)
ok_by true true x y e = (refl, refl, cc)
ok_by true false x y e = let z : ◌≡◌ {A = ℕ} 0 1 = cc in absurd (omega arith)
ok_by false d x y e = let z : ◌≡◌ {A = ℕ} 0 1 = cc in absurd (omega arith)

-- an answer that is no refusal
pub priced_by : {A : Type 0} (g n : ℕ) (x y : A) → Ok y ≡ answer_of g n x → Priced g n
priced_by g n x y e = let h = ok_by (nat_le g most_gross) (nat_le n most_roundings) x y e in record { gross_in = leb-true _ _ h.0; roundings_in = leb-true _ _ h.1 }

pub value_by : {A : Type 0} (g n : ℕ) (x y : A) → Ok y ≡ answer_of g n x → y ≡ x
value_by g n x y e = (ok_by (nat_le g most_gross) (nat_le n most_roundings) x y e).2

pub answer_priced : {A : Type 0} (g n : ℕ) (x : A) → Priced g n → answer_of g n x ≡ Ok x
answer_priced g n x p = cond-true _ _ _ (le-leb g most_gross p.gross_in) ∙ cond-true _ _ _ (le-leb n most_roundings p.roundings_in)

err_by : {A : Type 0} (b : Bool) (g : ℕ) (x : Result A Refusal) (e : Refusal) → Err e ≡ cond b (Ok g) (Err GrossTooLarge) → Err e ≡ cond b x (Err GrossTooLarge)
err_by true g x e h = let z : ◌≡◌ {A = ℕ} 0 1 = cc in absurd (omega arith)
err_by false g x e h = let same : e ≡ GrossTooLarge = cc in ap Err same

-- a refusal of the gross is the refusal of all
pub refused_gross : {A : Type 0} (g n : ℕ) (x : A) (e : Refusal) → Err e ≡ gross_answer g → Err e ≡ answer_of g n x
refused_gross g n x e h = err_by (nat_le g most_gross) g _ e h

pub refused_charge : (t : Tree) (s : Sheet) (c : ℕ) (e : Refusal) → Err e ≡ gross_answer (gross t s) → Err e ≡ charge_answer t s c
refused_charge t s c e h = refused_gross (gross t s) (roundings t s) (charge_of c (gross t s) (roundings t s)) e h

pub made_always : {A E : Type 0} (r : Result A E) (P : Type 0) → P → OnOk r (P)
made_always (Ok x) P p = p
made_always (Err e) P p = tt

-- one charge was gathered, and then the rest
gathered_more : (before mid after values : List ℕ) (a v n : ℕ) → (length before < 8 → mid ≡ before ++ a ∷ []) → a ≡ v → (length mid + n ≤ 8 → after ≡ mid ++ values) → length before + (1 + n) ≤ 8 → after ≡ before ++ (v ∷ values)
gathered_more before mid after values a v n pushed same rest room =
    let one = pushed (omega arith) in
    rest (omega (arith, ap length one, length-append before (a ∷ [])))
    ∙ ap (λ l. l ++ values) one
    ∙ append_assoc before (a ∷ []) values
    ∙ ap (λ x. before ++ (x ∷ values)) same

-- a charge is at most its gross and its roundings together, since the gross is a ceiling
pub charge_small : (t : Tree) (s : Sheet) (c : ℕ) → Tabled t → Bounded t s c → Priced (gross t s) (roundings t s) → c < 2 ^ 32
charge_small t s c tabled bounded p = omega (arith, (bounded p 1 (omega arith)).not_above (gross t s) (gross_ceiling t tabled s), p.gross_in, p.roundings_in)

pub charge_told : (t : Tree) (s : Sheet) (c : ℕ) (y : Charge) → Ok y ≡ charge_answer t s c → y ≡ charge_of c (gross t s) (roundings t s)
charge_told t s c y e = value_by (gross t s) (roundings t s) (charge_of c (gross t s) (roundings t s)) y e

-- the charges of a branch and of the branches behind it, together
module _ (t : Tree) (f : Forest) (s : Sheet) (v : ℕ) (vs : List ℕ) (a b : Charge) (one : Ok a ≡ charge_answer t s v) (rest : Ok b ≡ charge_answer (trees.sum f) s (sum vs)) where
  first_is : a ≡ charge_of v (gross t s) (roundings t s)
  first_is = charge_told t s v a one

  rest_is : b ≡ charge_of (sum vs) (gross_all f s) (roundings_all f s)
  rest_is = charge_told (trees.sum f) s (sum vs) b rest

  pub added_small : Tabled t → TabledAll f → Bounded t s v → BoundedAll f s vs → Priced (a.gross + b.gross) (a.roundings + b.roundings) → a.amount + b.amount < 2 ^ 32
  added_small tabled tabled-all bounded bounded-all priced =
      let p = subst₂ (λ x y. Priced (x.gross + y.gross) (x.roundings + y.roundings)) first_is rest_is priced in
      omega (arith, charge_small (trees.sum (more t f)) s (sum (v ∷ vs)) (tabled, tabled-all) (sum_bounded (more t f) s (v ∷ vs) (bounded, bounded-all)) p, sum_by-cons (λ x. x) v vs, ap (λ x. x.amount) first_is, ap (λ x. x.amount) rest_is)

  pub added_is : (r : Result Charge Refusal) → r ≡ answer_of (a.gross + b.gross) (a.roundings + b.roundings) (charge_of (a.amount + b.amount) (a.gross + b.gross) (a.roundings + b.roundings)) → r ≡ charge_answer (trees.sum (more t f)) s (sum (v ∷ vs))
  added_is r e =
      e
      ∙ (λ i. answer_of ((first_is i).gross + (rest_is i).gross) ((first_is i).roundings + (rest_is i).roundings) (charge_of ((first_is i).amount + (rest_is i).amount) ((first_is i).gross + (rest_is i).gross) ((first_is i).roundings + (rest_is i).roundings)))
      ∙ ap (λ x. answer_of (gross t s + gross_all f s) (roundings t s + roundings_all f s) (charge_of x (gross t s + gross_all f s) (roundings t s + roundings_all f s))) (sym (sum_by-cons (λ x. x) v vs))

  pub gathered_is : (before mid after : List ℕ) → (length before < 8 → mid ≡ before ++ a.amount ∷ []) → (length mid + branch_count f ≤ 8 → after ≡ mid ++ vs) → length before + (1 + branch_count f) ≤ 8 → after ≡ before ++ (v ∷ vs)
  gathered_is before mid after pushed behind room =
      gathered_more before mid after vs a.amount v (branch_count f) pushed (ap (λ x. x.amount) first_is) behind room

-- the larger of two gathered charges
pub greater_charge : (t u : Tree) (s : Sheet) (v w most : ℕ) (a : Charge) (before after : List ℕ) → Ok a ≡ charge_answer (trees.sum (more t (more u none))) s (sum (v ∷ w ∷ [])) → before ≡ [] → (length before + branch_count (more t (more u none)) ≤ 8 → after ≡ before ++ (v ∷ w ∷ [])) → most ≡ largest_of after → Ok (charge_of most a.gross a.roundings) ≡ charge_answer (greater t u) s (max v w)
greater_charge t u s v w most a before after told empty gathered is =
    let a_is = charge_told (trees.sum (more t (more u none))) s (sum (v ∷ w ∷ [])) a told in
    let priced = priced_by (gross_all (more t (more u none)) s) (roundings_all (more t (more u none)) s) (charge_of (sum (v ∷ w ∷ [])) _ _) a told in
    let amount : most ≡ max v w = omega (arith, ap largest_of (gathered (omega (arith, ap length empty)) ∙ ap (λ l. l ++ (v ∷ w ∷ [])) empty)) in
    let g_is : a.gross ≡ gross t s + gross u s = omega (arith, ap (λ x. x.gross) a_is) in
    let n_is : a.roundings ≡ roundings t s + roundings u s = omega (arith, ap (λ x. x.roundings) a_is) in
    (λ i. Ok (charge_of (amount i) (g_is i) (n_is i)))
    ∙ sym (answer_priced (gross t s + gross u s) (roundings t s + roundings u s) _ (record { gross_in = omega (arith, priced.gross_in); roundings_in = omega (arith, priced.roundings_in) }))

-- what is answered keeps within the bounds
pub answered_within : (t : Tree) (s : Sheet) (c : ℕ) (r : Result Charge Refusal) → r ≡ charge_answer t s c → Bounded t s c → IfOk r (λ x. (k : ℕ) → 1 ≤ k → Within t s x.amount k)
answered_within t s c (Err e) h bounded = tt
answered_within t s c (Ok y) h bounded = λ k one.
    let p = priced_by (gross t s) (roundings t s) (charge_of c (gross t s) (roundings t s)) y h in
    subst (λ x. Within t s x.amount k) (sym (charge_told t s c y h)) (bounded p k one)

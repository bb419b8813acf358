-- The first piece of a text: a mark, or the run that it begins with. Assumes nothing.
use Rattle.std.proofs.Common.{◌≡◌, ℕ, suc, max, Bool, true, false, cond, not, ◌&&◌, ◌||◌, List, [], ◌∷◌, length, take, drop, position, Some, None, sym, refl, ap, ◌∙◌, ⊎_elim, subst, arith}
use Rattle.std.proofs.lemmas.Bool.{cond-true, cond-false, cases_Bool, cases_lt, lt-ltb, le-ltb}
use Rattle.std.proofs.lemmas.List.Sums.{prefix_len-le-length}
use Rattle.std.specs.List.{position_or_len}
use Rattle.std.specs.Option.{unwrap_or}
use Rattle.notation.specs.Pieces.{is_space_byte, is_mark_byte, is_in_run, goes_on, joins, pieces, run}

-- the place at which a test first passes, or the length, is how many stand before it
pub first_or_all : (p : ℕ → Bool) (xs : List ℕ) → unwrap_or (position p xs) (length xs) ≡ position_or_len p xs
first_or_all p xs =
    let n = position_or_len p xs in
    ⊎_elim
    (λ l. ap (λ t. unwrap_or (cond t (Some n) None) (length xs)) (lt-ltb n (length xs) l))
    (λ g. ap (λ t. unwrap_or (cond t (Some n) None) (length xs)) (le-ltb n (length xs) g) ∙ omega (arith, prefix_len-le-length (λ x. not (p x)) xs))
    (cases_lt n (length xs))

-- a byte of a run is no space
pub run_no_space : (b : ℕ) → is_in_run b ≡ true → is_space_byte b ≡ false
run_no_space b e = elim (is_space_byte b) as (λ t. not (t || is_mark_byte b) ≡ true → t ≡ false) [ true ↦ λ h. sym h | false ↦ λ h. refl ] e

-- a byte at which no run goes on is a piece
pub alone_first : (b : ℕ) (bs : List ℕ) → is_space_byte b ≡ false → is_in_run b && goes_on bs ≡ false → pieces (b ∷ bs) ≡ (b ∷ []) ∷ pieces bs
alone_first b bs e h = cond-false _ _ _ e ∙ cond-false _ _ _ h

pub joined_first : (b : ℕ) (bs : List ℕ) → is_in_run b ≡ true → goes_on bs ≡ true → pieces (b ∷ bs) ≡ joins b (pieces bs)
joined_first b bs e h = cond-false _ _ _ (run_no_space b e) ∙ cond-true _ _ _ (ap (λ t. t && goes_on bs) e ∙ h)

-- the first n bytes are a piece, and the others are cut by themselves
abbrev Parted : List ℕ → ℕ → Type 0
Parted xs n = pieces xs ≡ take n xs ∷ pieces (drop n xs)

run_more : (b : ℕ) (bs : List ℕ) → is_in_run b ≡ true → run (b ∷ bs) ≡ suc (run bs)
run_more b bs e = cond-true _ _ _ e ∙ omega arith

run_none : (bs : List ℕ) → goes_on bs ≡ false → run bs ≡ 0
run_none [] h = refl
run_none (b ∷ bs) h = cond-false _ _ _ h

run_parted : (b : ℕ) (bs : List ℕ) → is_in_run b ≡ true → Parted (b ∷ bs) (run (b ∷ bs))
run_parted b [] e = subst (Parted (b ∷ [])) (sym (run_more b [] e)) (alone_first b [] (run_no_space b e) (ap (λ t. t && false) e))
run_parted b (c ∷ cs) e =
    subst (Parted (b ∷ c ∷ cs)) (sym (run_more b (c ∷ cs) e))
    (⊎_elim
    (λ h. joined_first b (c ∷ cs) e h ∙ ap (joins b) (run_parted c cs h))
    (λ h. subst (λ n. Parted (b ∷ c ∷ cs) (suc n)) (sym (run_none (c ∷ cs) h)) (alone_first b (c ∷ cs) (run_no_space b e) (ap (λ t. t && is_in_run c) e ∙ h)))
    (cases_Bool (is_in_run c)))

-- the first piece, where no space stands first
pub parted : (xs : List ℕ) (b : ℕ) (bs : List ℕ) (n : ℕ) → xs ≡ b ∷ bs → is_space_byte b ≡ false → n ≡ max (run xs) 1 → Parted xs n
parted xs b bs n is e at =
    ⊎_elim
    (λ h. let long : n ≡ run (b ∷ bs) = omega (arith, ap run is, run_more b bs h) in rw (is, long) (run_parted b bs h))
    (λ h. let short : n ≡ 1 = omega (arith, ap run is, run_none (b ∷ bs) h) in rw (is, short) (alone_first b bs e (ap (λ t. t && goes_on bs) h)))
    (cases_Bool (is_in_run b))

-- The first word of a text: behind the spaces that it begins with, and up to the next.
use Rattle.std.proofs.Common.{◌≡◌, ℕ, ◌+◌, ◌<◌, Bool, true, false, not, cond, List, [], ◌∷◌, length, take, drop, Some, None, Option, sym, refl, ap, ◌∙◌, one-add, ⊎_elim, position, arith}
use Rattle.std.proofs.lemmas.Bool.{cond-true, ne_eqb, cases_lt, lt-ltb, le-ltb}
use Rattle.std.proofs.lemmas.List.{length-take-le}
use Rattle.std.proofs.lemmas.List.Sums.{prefix_len-le-length}
use Rattle.std.specs.List.{slice_split, onto_first, filter, prefix_len, position_or_len}
use Rattle.std.specs.Option.{unwrap_or}
use Rattle.script.specs.Pieces.{is_space, holds_some, words_of}

by_case : (P : Bool → Type 0) (b : Bool) → (b ≡ true → P true) → (b ≡ false → P false) → P b
by_case P true held failed = held refl
by_case P false held failed = failed refl

-- spaces in front say nothing
pub behind_spaces : (bs : List ℕ) → words_of bs ≡ words_of (drop (prefix_len is_space bs) bs)
behind_spaces [] = refl
behind_spaces (b ∷ bs) =
    let rest = slice_split is_space bs in
    by_case (λ t. filter holds_some (cond t ([] ∷ rest) (onto_first b rest)) ≡ words_of (drop (cond t (1 + prefix_len is_space bs) 0) (b ∷ bs))) (is_space b)
    (λ e. rw one-add (behind_spaces bs))
    (λ e. ap (λ t. filter holds_some (cond t ([] ∷ rest) (onto_first b rest))) (sym e))

-- the pieces behind the first
abbrev others : List ℕ → List (List ℕ)
others [] = []
others (b ∷ bs) = cond (is_space b) (slice_split is_space bs) (others bs)

split_first : (bs : List ℕ) → slice_split is_space bs ≡ take (position_or_len is_space bs) bs ∷ others bs
split_first [] = refl
split_first (b ∷ bs) =
    let rest = slice_split is_space bs in
    by_case (λ t. cond t ([] ∷ rest) (onto_first b rest) ≡ take (cond (not t) (1 + position_or_len is_space bs) 0) (b ∷ bs) ∷ cond t rest (others bs)) (is_space b)
    (λ e. refl)
    (λ e. rw one-add (ap (onto_first b) (split_first bs)))

others_hold : (bs : List ℕ) → filter holds_some (others bs) ≡ words_of (drop (position_or_len is_space bs) bs)
others_hold [] = refl
others_hold (b ∷ bs) =
    let rest = slice_split is_space bs in
    by_case (λ t. filter holds_some (cond t rest (others bs)) ≡ words_of (drop (cond (not t) (1 + position_or_len is_space bs) 0) (b ∷ bs))) (is_space b)
    (λ e. ap (λ t. filter holds_some (cond t ([] ∷ rest) (onto_first b rest))) (sym e))
    (λ e. rw one-add (others_hold bs))

-- a text that begins with a word has that first
pub word_first : (bs : List ℕ) → 0 < position_or_len is_space bs → words_of bs ≡ take (position_or_len is_space bs) bs ∷ words_of (drop (position_or_len is_space bs) bs)
word_first bs some =
    let n = position_or_len is_space bs in
    let long : length (take n bs) ≡ n = length-take-le n bs (prefix_len-le-length (λ b. not (is_space b)) bs) in
    ap (filter holds_some) (split_first bs)
    ∙ cond-true _ _ _ (ap not (ne_eqb (length (take n bs)) 0 (λ e. omega arith)))
    ∙ ap (λ l. take n bs ∷ l) (others_hold bs)

-- so does what stands behind the spaces, where something does
pub word_behind : (bs : List ℕ) → 0 < length (drop (prefix_len is_space bs) bs) → 0 < position_or_len is_space (drop (prefix_len is_space bs) bs)
word_behind [] = λ h. absurd (omega arith)
word_behind (b ∷ bs) =
    by_case (λ t. 0 < length (drop (cond t (1 + prefix_len is_space bs) 0) (b ∷ bs)) → 0 < position_or_len is_space (drop (cond t (1 + prefix_len is_space bs) 0) (b ∷ bs))) (is_space b)
    (λ e h. rw one-add (word_behind bs (rw one-add at h)))
    (λ e h. let k = ap (λ t. cond (not t) (1 + position_or_len is_space bs) 0) e in omega (arith, k))

-- the first place at which p passes, or the length
pub first_or_all : (p : ℕ → Bool) (bs : List ℕ) (o : Option ℕ) → o ≡ position p bs → unwrap_or o (length bs) ≡ position_or_len p bs
first_or_all p bs o at =
    let n = position_or_len p bs in
    ap (λ o. unwrap_or o (length bs)) at
    ∙ ⊎_elim
    (λ l. ap (λ t. unwrap_or (cond t (Some n) None) (length bs)) (lt-ltb n (length bs) l))
    (λ g. ap (λ t. unwrap_or (cond t (Some n) None) (length bs)) (le-ltb n (length bs) g) ∙ omega (arith, prefix_len-le-length (λ b. not (p b)) bs))
    (cases_lt n (length bs))

-- where p passes no space, that is how many spaces stand first
pub spaces_first : (bs : List ℕ) → position_or_len (λ b. not (is_space b)) bs ≡ prefix_len is_space bs
spaces_first [] = refl
spaces_first (b ∷ bs) =
    by_case (λ t. cond (not (not t)) (1 + position_or_len (λ b. not (is_space b)) bs) 0 ≡ cond t (1 + prefix_len is_space bs) 0) (is_space b)
    (λ e. ap (λ n. 1 + n) (spaces_first bs))
    (λ e. refl)

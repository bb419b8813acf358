-- A word and its parts, and the entries at the front of words. Assumes nothing.
use Rattle.std.proofs.Common.{◌≡◌, ℕ, suc, ◌+◌, ◌-◌, ◌/◌, ◌%◌, ◌<◌, ◌≤◌, List, [], ◌∷◌, ◌++◌, length, get_or, take, Some, Err, Result, subst, sym, refl, ap, ◌∙◌, inl, inr, ⊎_elim, append_assoc, arith, length-append, below_more}
use Rattle.correlation.proofs.Places.{above_count_few}
use Rattle.correlation.specs.Answers.{entry_count_answer}
use Rattle.correlation.specs.Tables.{most_branches, above_count}
use Rattle.modules.specs.Sheets.{IsLine}
use Rattle.std.specs.Result.{IsErrAnd}
use Rattle.std.proofs.lemmas.Result.{err_from_is_err_and}
use Rattle.std.proofs.lemmas.Nat.{div-add-mod', mod_below, mod-mul-add}
use Rattle.std.proofs.lemmas.List.{get_or_append_left, get_or_at, take_at}
use Rattle.refusals.specs.declared.Refusal.{Refusal}
use Rattle.words.specs.Cursors.{IsBehind}
use Rattle.words.specs.Faults.{Begins, NoEntry}
use Rattle.words.specs.Heads.{Entered}
use Rattle.words.specs.Items.{values}
use Rattle.words.specs.Steps.{NoWord}
use Rattle.words.specs.declared.cursor.Cursor.{Cursor}
use Rattle.words.specs.declared.kind.Kind.{Kind}
use Rattle.words.specs.declared.kind.Kind.TheVariants.{Line, Sum, Greater, Root, Entry}
use Rattle.words.specs.Words.{word, entry_words, line_kind, root_kind, entry_kind, kind_number, value_room, most_entry, ValueInRange}

pub begins_with : (ws : List ℕ) (w : ℕ) (rest : List ℕ) (k v : ℕ) → ws ≡ w ∷ rest → k ≡ w / value_room → v ≡ w % value_room → Begins ws k v rest
begins_with ws w rest k v e is-kind is-value =
    let whole : w ≡ word k v = omega (arith, div-add-mod' w value_room) in
    record { words = e ∙ ap (λ x. x ∷ rest) whole; below = omega (arith, mod_below w value_room (omega arith)) }

-- what the count of entries is, where there is one
pub counted : (n k : ℕ) → entry_count_answer n ≡ Some k → k ≡ above_count n
counted n k is = grind arith

pub count_few : (n : ℕ) → n ≤ most_branches → above_count n ≤ above_count most_branches
count_few n few = omega (arith, above_count_few n few)

entry-words-++ : (es fs : List ℕ) → entry_words (es ++ fs) ≡ entry_words es ++ entry_words fs
entry-words-++ [] fs = refl
entry-words-++ (e ∷ es) fs = ap (λ x. word entry_kind e ∷ x) (entry-words-++ es fs)

pub length_entry_words : (es : List ℕ) → length (entry_words es) ≡ length es
length_entry_words [] = refl
length_entry_words (e ∷ es) = omega (arith, length_entry_words es)

-- the place of what stands behind some of a cursor's words
pub place_behind : (from rest : Cursor) (own : List ℕ) → from.words.now ≡ own ++ rest.words.now → IsBehind from rest → rest.place ≡ from.place + length own
place_behind from rest own e behind = omega (arith, behind, simp length-append at (ap length e))

-- the words up to what is left behind them
pub passed : (from rest : Cursor) (own : List ℕ) → from.words.now ≡ own ++ rest.words.now → IsBehind from rest → take (rest.place - from.place) from.words.now ≡ own
passed from rest own e behind =
    ap (take (rest.place - from.place)) e ∙ take_at own rest.words.now (rest.place - from.place) (omega (arith, place_behind from rest own e behind))

pub entered_place : (n : ℕ) (from rest : Cursor) (es : List ℕ) → Entered n es → from.words.now ≡ entry_words es ++ rest.words.now → IsBehind from rest → rest.place ≡ from.place + n
entered_place n from rest es ok e behind = omega (arith, place_behind from rest (entry_words es) e behind, length_entry_words es, ok.count)

-- one entry more
pub entered_more : (n : ℕ) (ws es rest : List ℕ) (v : ℕ) (behind : List ℕ) → Entered n es → ws ≡ entry_words es ++ rest
    → Begins rest entry_kind v behind → v ≤ most_entry
    → (fs : List ℕ) × Entered (n + 1) fs × (ws ≡ entry_words fs ++ behind)
entered_more n ws es rest v behind ok e begins few = (
  es ++ (v ∷ []),
  record { count = simp length-append (omega (arith, ok.count)); in_range = below_more _ n before here },
  e ∙ ap (λ x. entry_words es ++ x) begins.words ∙ sym (ap (λ x. x ++ behind) (entry-words-++ es (v ∷ [])) ∙ append_assoc (entry_words es) _ behind),
)
  where
    before : (i : ℕ) → i < n → get_or (es ++ (v ∷ [])) i 0 ≤ most_entry
    before i l = omega (arith, ok.in_range i l, get_or_append_left es (v ∷ []) 0 i (omega (arith, ok.count)))

    here : get_or (es ++ (v ∷ [])) n 0 ≤ most_entry
    here = omega (arith, get_or_at es v [] 0 n ok.count)

pub line_in_range : (k v : ℕ) → k ≡ line_kind → ValueInRange k v → IsLine v
line_in_range k v is (inl own) = own.1
line_in_range k v is (inr (inl other)) = absurd (omega (arith, other.0))
line_in_range k v is (inr (inr other)) = absurd (⊎_elim (λ e. omega arith) (λ e. omega arith) other.0)

pub root_in_range : (v : ℕ) → ValueInRange root_kind v → (1 ≤ v) × (v ≤ most_branches)
root_in_range v (inl other) = absurd (omega (arith, other.0))
root_in_range v (inr (inl other)) = absurd (omega (arith, other.0))
root_in_range v (inr (inr own)) = (own.1, own.2)

pub length_values : (ws : List ℕ) → length (values ws) ≡ length ws
length_values [] = refl
length_values (w ∷ ws) = omega (arith, length_values ws)

-- the values of the words of entries are the entries
values_entry_words : (es : List ℕ) → ((i : ℕ) → i < length es → get_or es i 0 ≤ most_entry) → values (entry_words es) ≡ es
values_entry_words [] few = refl
values_entry_words (e ∷ es) few =
    let own : e ≤ most_entry = few 0 (omega arith) in
    (λ t. mod-mul-add entry_kind value_room e (omega (arith, own)) t ∷ values_entry_words es (λ i l. few (suc i) (omega (arith, l))) t)

pub entered_values : (n : ℕ) (es : List ℕ) → Entered n es → values (entry_words es) ≡ es
entered_values n es ok = values_entry_words es (λ i l. ok.in_range i (omega (arith, l, ok.count)))

-- no word at all is no entry
pub no_entry : (place : ℕ) (ws : List ℕ) (e : Refusal) → NoWord place ws e → NoEntry place ws e
no_entry place ws e (NoWord.ends empty b) = NoEntry.ends empty b
no_entry place ws e (NoWord.kind k v rest begins other b) = NoEntry.kind k v rest begins (λ same. other Entry (sym same)) b

-- entries are of one kind
pub entry_alone : (k : Kind) → kind_number k ≡ entry_kind → k ≡ Entry
entry_alone Line e = absurd (omega arith)
entry_alone Sum e = absurd (omega arith)
entry_alone Greater e = absurd (omega arith)
entry_alone Root e = absurd (omega arith)
entry_alone Entry e = refl

-- what is said of a refusal is said of the answer that hands it on
pub handed_on : {T : Type 0} {e : Refusal} {r : Result T Refusal} (P : Result T Refusal → Type 0) → IsErrAnd r (λ x. x ≡ e) → P (Err e) → P r
handed_on {r = r} P is holds =
    let p = err_from_is_err_and r is in
    subst P (sym (p.1 ∙ ap Err p.2)) holds

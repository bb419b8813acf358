-- A fault is settled by the words up to its place. Assumes nothing.
use Rattle.std.proofs.Common.{◌≡◌, ℕ, suc, ◌+◌, ◌≤◌, List, [], ◌∷◌, ◌++◌, length, sym, refl, ap, ◌∙◌, subst, inl, inr, append_assoc, arith, length-append}
use Rattle.correlation.specs.Tables.{most_branches, above_count}
use Rattle.refusals.specs.declared.Refusal.{Refusal}
use Rattle.refusals.specs.declared.Refusal.TheVariants.{WordsEndEarly}
use Rattle.words.specs.Faults.{Begins, NoEntry, EntryFault, WordFault, HeadFault, Fault, Faults, LeftOver}
use Rattle.words.specs.Heads.{Head, of_line, of_sum, of_greater, of_root, head_words, HeadInRange, Opens}
use Rattle.words.specs.Places.{ToldAfter, Placed, LeftToRight}
use Rattle.words.specs.Words.{word, entry_words, root_kind, entry_kind}
use Rattle.words.proofs.Parts.{count_few, length_entry_words}

-- where P speaks of words from this place on, it holds by their front, or they end early
data Settled (P : List ℕ → Type 0) (place : ℕ) (ws : List ℕ) (e : Refusal) : Type 0 where
  short : e ≡ WordsEndEarly (place + length ws) → Settled P place ws e
  after : (front behind : List ℕ) → ws ≡ front ++ behind → ToldAfter (place + length front) e → ((others : List ℕ) → P (front ++ others)) → Settled P place ws e

settled_map : {P Q : List ℕ → Type 0} {place : ℕ} {ws : List ℕ} {e : Refusal} → ((l : List ℕ) → P l → Q l) → Settled P place ws e → Settled Q place ws e
settled_map f (Settled.short b) = Settled.short b
settled_map f (Settled.after front behind w reach all) = Settled.after front behind w reach (λ others. f (front ++ others) (all others))

-- more words in front
settled_behind : {P Q : List ℕ → Type 0} {later : ℕ} {rest : List ℕ} {e : Refusal} (place : ℕ) (ws own : List ℕ) → ws ≡ own ++ rest → later ≡ place + length own
    → ((l : List ℕ) → P l → Q (own ++ l)) → Settled P later rest e → Settled Q place ws e
settled_behind {later = later} {rest = rest} place ws own w at f (Settled.short b) =
    let long : length ws ≡ length own + length rest = simp length-append at (ap length w) in
    let same : later + length rest ≡ place + length ws = omega (arith, at, long) in
    Settled.short (b ∙ ap WordsEndEarly same)
settled_behind {Q = Q} {later = later} {e = e} place ws own w at f (Settled.after front behind w' reach all) =
    let long : length (own ++ front) ≡ length own + length front = length-append own front in
    let same : later + length front ≡ place + length (own ++ front) = omega (arith, at, long) in
    Settled.after (own ++ front) behind (w ∙ ap (λ l. own ++ l) w' ∙ sym (append_assoc own front behind)) (subst (λ n. ToldAfter n e) same reach)
    (λ others. subst Q (sym (append_assoc own front others)) (f (front ++ others) (all others)))

-- a fault of the first word
at_first : {P : List ℕ → Type 0} {e : Refusal} (place : ℕ) (ws : List ℕ) (w : ℕ) (rest : List ℕ) → ws ≡ w ∷ rest → ToldAfter (suc place) e → ((others : List ℕ) → P (w ∷ others)) → Settled P place ws e
at_first {e = e} place ws w rest is reach all =
    let next : suc place ≡ place + length (w ∷ []) = omega arith in
    Settled.after (w ∷ []) rest is (subst (λ n. ToldAfter n e) next reach) all

no_words : {P : List ℕ → Type 0} {e : Refusal} (place : ℕ) (ws : List ℕ) → ws ≡ [] → e ≡ WordsEndEarly place → Settled P place ws e
no_words place ws empty b =
    let none : length ws ≡ 0 = ap length empty in
    let same : place ≡ place + length ws = omega (arith, none) in
    Settled.short (b ∙ ap WordsEndEarly same)

again : {ws : List ℕ} {k v : ℕ} {rest : List ℕ} → Begins ws k v rest → (others : List ℕ) → Begins (word k v ∷ others) k v others
again b others = record { words = refl; below = b.below }

no_entry_settled : {place : ℕ} {ws : List ℕ} {e : Refusal} → NoEntry place ws e → Settled (λ l. NoEntry place l e) place ws e
no_entry_settled {place = place} {ws = ws} (NoEntry.ends empty b) = no_words place ws empty b
no_entry_settled {place = place} {ws = ws} (NoEntry.kind k v rest c other b) =
    at_first place ws (word k v) rest c.words (place, inl (inl b, refl)) (λ others. NoEntry.kind k v others (again c others) other b)
no_entry_settled {place = place} {ws = ws} (NoEntry.value v rest c many b) =
    at_first place ws (word entry_kind v) rest c.words (place, inl (inr (inl b), refl)) (λ others. NoEntry.value v others (again c others) many b)

entry_settled : (n place : ℕ) (ws : List ℕ) (e : Refusal) → EntryFault n place ws e → Settled (λ l. EntryFault n place l e) place ws e
entry_settled n place ws e fault =
    let (m, es, rest, m<n, front, w, lacks) = fault in
    let at : place + m ≡ place + length (entry_words es) = omega (arith, length_entry_words es, front.count) in
    settled_behind place ws (entry_words es) w at (λ l lack. (m, es, l, m<n, front, refl, lack)) (no_entry_settled lacks)

word_told : {k v depth place : ℕ} {e : Refusal} → WordFault k v depth place e → ToldAfter (suc place) e
word_told {place = place} (WordFault.kind a b) = (place, inl (inl b, refl))
word_told {place = place} (WordFault.value c a b) = (place, inl (inr (inl b), refl))
word_told {place = place} (WordFault.deep r a b) = (place, inl (inr (inr (inl b)), refl))

head_settled : {depth place : ℕ} {ws : List ℕ} {e : Refusal} → HeadFault depth place ws e → Settled (λ l. HeadFault depth place l e) place ws e
head_settled {place = place} {ws = ws} (HeadFault.ends empty b) = no_words place ws empty b
head_settled {place = place} {ws = ws} (HeadFault.word k v rest b f) =
    at_first place ws (word k v) rest b.words (word_told f) (λ others. HeadFault.word k v others (again b others) f)
head_settled {place = place} {ws = ws} {e = e} (HeadFault.entries v rest b r s f) =
    let next : suc place ≡ place + length (word root_kind v ∷ []) = omega arith in
    settled_behind place ws (word root_kind v ∷ []) b.words next (λ l g. HeadFault.entries v l (again b l) r s g) (entry_settled (above_count v) (suc place) rest e f)

head_short : (h : Head) → HeadInRange h → (1 ≤ length (head_words h)) × (length (head_words h) ≤ suc (above_count most_branches))
head_short (of_line n) range = (omega arith, omega arith)
head_short (of_sum n) range = (omega arith, omega arith)
head_short of_greater range = (omega arith, omega arith)
head_short (of_root n es) range = (omega arith, omega (arith, length_entry_words es, range.2.count, count_few n range.1))

opens_again : {depth : ℕ} {ws rest : List ℕ} {h : Head} → Opens depth ws h rest → (others : List ℕ) → Opens depth (head_words h ++ others) h others
opens_again o others = record { shallow = o.shallow; words = refl; in_range = o.in_range }

mutual
  fault_settled : {depth place : ℕ} {ws : List ℕ} {e : Refusal} → Fault depth place ws e → Settled (λ l. Fault depth place l e) place ws e
  fault_settled (Fault.head f) = settled_map (λ l g. Fault.head g) (head_settled f)
  fault_settled {place = place} (Fault.table h rest o other b) =
      let long = head_short h o.in_range in
      Settled.after (head_words h) rest o.words (place, inr (b, omega (arith, long.0), omega (arith, long.1)))
      (λ others. Fault.table h others (opens_again o others) other b)
  fault_settled {place = place} {ws = ws} (Fault.under h rest o law f) =
      settled_behind place ws (head_words h) o.words refl (λ l g. Fault.under h l (opens_again o l) law g) (faults_settled f)

  faults_settled : {n depth place : ℕ} {ws : List ℕ} {e : Refusal} → Faults n depth place ws e → Settled (λ l. Faults n depth place l e) place ws e
  faults_settled (Faults.here some f) = settled_map (λ l g. Faults.here some g) (fault_settled f)
  faults_settled {place = place} {ws = ws} (Faults.behind m t bs cs n w b f) =
      settled_behind place ws bs w refl (λ l g. Faults.behind m t bs l n refl b g) (faults_settled f)

placed_fault : (ws : List ℕ) (e : Refusal) → Settled (λ l. Fault 1 0 l e) 0 ws e → Placed ws e
placed_fault ws e (Settled.short b) =
    let same : 0 + length ws ≡ length ws = omega arith in
    Placed.short (b ∙ ap WordsEndEarly same)
placed_fault ws e (Settled.after front behind w reach all) =
    let same : 0 + length front ≡ length front = omega arith in
    Placed.after front behind w (subst (λ n. ToldAfter n e) same reach) (λ others few. inr (inl (few, all others)))

-- the first word left over stands behind the tree
left_placed : (ws : List ℕ) (e : Refusal) (cs : List ℕ) (left : LeftOver ws e) → left.2 ≡ cs → Placed ws e
left_placed ws e [] left is = absurd (left.4 is)
left_placed ws e (c ∷ cs) left is =
    let bs = left.1 in
    let front = bs ++ (c ∷ []) in
    let joined : (l : List ℕ) → front ++ l ≡ bs ++ (c ∷ l) = λ l. append_assoc bs (c ∷ []) l in
    let long : length front ≡ suc (length bs) = omega (arith, length-append bs (c ∷ [])) in
    let some : (l : List ℕ) → c ∷ l ≡ [] → ⊥ = λ l empty. omega (arith, ap length empty) in
    Placed.after front cs (left.3 ∙ ap (λ l. bs ++ l) is ∙ sym (joined cs)) (length bs, inl (inr (inr (inr left.6)), long))
    (λ others few. inr (inr (few, (left.0, bs, c ∷ others, joined others, some others, left.5, left.6))))

pub left_to_right : (ws : List ℕ) → LeftToRight ws
left_to_right ws e (inl many) = Placed.over many.0 many.1
left_to_right ws e (inr (inl fault)) = placed_fault ws e (fault_settled fault.1)
left_to_right ws e (inr (inr over)) = left_placed ws e over.1.2 over.1 refl
